-- A step by a flat form is the step of the instruction that it stands for.
use Rattle.std.proofs.Common.{◌≡◌, ◌∙◌, ℕ, ap, sym, subst, Option, Some, IfSome, Result, Ok, Err}
use Rattle.rv_decode.specs.declared.instructions.Insn.TheVariants.{Scalar}
use Rattle.rv_decode.specs.declared.instructions.ScalarInsn.{ScalarInsn}
use Rattle.rv_decode.specs.Decode.{meaning_of}
use Rattle.region_mem.specs.Faults.{Steps}
use Rattle.region_mem.specs.Memory.{Memory}
use Rattle.region_mem.specs.declared.faults.Fault.{Fault}
use Rattle.scalar_core.specs.Hart.{Hart}
use Rattle.scalar_core.specs.Ops.{insn_of}
use Rattle.scalar_core.specs.Step.{rv32im_step, scalar_step}
use Rattle.scalar_core.specs.declared.op.Op.{Op}
use Rattle.machine.specs.Machine.{Machine}
use Rattle.machine.specs.MachineStep.{carry_out, decoded, with_scalar}

module _ (vlenb word : ℕ) (m : Machine) (h : Hart) (memory : Memory) (insn : ScalarInsn) where
  carried : (answer : Result (Unit {0}) Fault)
      → Steps (rv32im_step insn m.hart m.memory) (m.hart, m.memory) (h, memory) answer
      → Steps (carry_out vlenb word m (Scalar insn)) m (record m { hart = h; memory = memory }) answer
  unfolding carry_out scalar_step
  carried (Ok u) done = ap (with_scalar m) done
  carried (Err fault) (fails, kept) =
      (ap (with_scalar m) fails, ap (λ (p : Hart × Memory). record m { hart = p.0; memory = p.1 }) kept)

-- The step of a word, from what it means on.
pub op_steps : (vlenb word known : ℕ) (m : Machine) (h : Hart) (memory : Memory) (o : Option Op) (op : Op)
    (answer : Result (Unit {0}) Fault) → known ≡ word
    → IfSome o (λ op. meaning_of known ≡ Some (Scalar (insn_of op))) → o ≡ Some op
    → Steps (rv32im_step (insn_of op) m.hart m.memory) (m.hart, m.memory) (h, memory) answer
    → Steps (decoded vlenb word m (meaning_of word)) m (record m { hart = h; memory = memory }) answer
op_steps vlenb word known m h memory o op answer is means there_is done =
    let insn : ScalarInsn = insn_of op in
    let known_means : meaning_of known ≡ Some (Scalar insn) =
    subst (λ (x : Option Op). IfSome x (λ op. meaning_of known ≡ Some (Scalar (insn_of op)))) there_is means in
    let meaning : meaning_of word ≡ Some (Scalar insn) = ap meaning_of (sym is) ∙ known_means in
    let by_class : Steps (carry_out vlenb word m (Scalar insn)) m (record m { hart = h; memory = memory }) answer =
    carried vlenb word m h memory insn answer done in
    subst (λ (d : Result Machine Fault). Steps d m (record m { hart = h; memory = memory }) answer)
    (sym (ap (decoded vlenb word m) meaning)) by_class
