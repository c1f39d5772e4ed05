-- What is known after an instruction is true of the machine to which it leads.
use Rattle.std.proofs.Common.{◌≡◌, ◌<◌, ◌≤◌, ◌+◌, ◌%◌, ◌^◌, inl, inr, ℕ, Bool, true, false, arith, refl, sym, ap, ◌∙◌, subst, List, Option, Some, None}
use Rattle.std.specs.Prelude.{if◌then◌else◌, ◌==◌, Result, Ok, Err, MatchOption}
use Rattle.rv_decode.specs.declared.instructions.Insn.TheVariants.{Scalar, Csr, VSet, VArith, VMask, VPerm, VReduce, VMem, VMove}
use Rattle.rv_decode.specs.declared.instructions.ScalarInsn.TheVariants.{Lui, Auipc, Jal, Jalr, Branch, Load, Store, Immediate, ShiftImmediate, Register, Fence, Ecall}
use Rattle.rv_decode.specs.declared.instructions.Insn.{Insn}
use Rattle.rv_decode.specs.declared.instructions.CsrInsn.{CsrInsn}
use Rattle.rv_decode.specs.declared.instructions.ScalarInsn.{ScalarInsn}
use Rattle.rv_decode.specs.declared.instructions.VSet as vset
use Rattle.rv_decode.specs.Decode.{meaning_of}
use Rattle.rv_decode.specs.Encodings.{MeaningsFit}
use Rattle.region_mem.specs.declared.faults.Fault.{Fault}
use Rattle.region_mem.specs.declared.faults.Fault.TheVariants.{JumpMisaligned}
use Rattle.region_mem.specs.Memory.{Memory}
use Rattle.vreg_groups.specs.declared.vector_length.Vconfig.{Vconfig}
use Rattle.vreg_groups.specs.declared.vector_type.Vtype.{Vtype}
use Rattle.vreg_groups.specs.VectorType.{vill, vtype_of, vlmax_of}
use Rattle.vreg_groups.specs.VectorLength.{IsVlenb, IsConfig, no_config}
use Rattle.scalar_core.specs.Csr.{csr_step}
use Rattle.scalar_core.specs.Hart.{Hart}
use Rattle.scalar_core.specs.Step.{rv32im_step, scalar_step}
use Rattle.machine.specs.Machine.{Machine}
use Rattle.machine.specs.MachineStep.{carry_out, unless_misaligned, with_scalar}
use Rattle.abs_domain.specs.declared.why.Why.{Why}
use Rattle.abs_domain.specs.declared.zones.Zone.{Zone}
use Rattle.abs_state.specs.declared.state.Way.{Way}
use Rattle.abs_state.specs.declared.state.Way.TheVariants.{To}
use Rattle.abs_domain.specs.Numbers.{NumbersView}
use Rattle.abs_domain.specs.Memories.{HasZones}
use Rattle.abs_transfer.specs.Csr.{csr_after}
use Rattle.abs_state.specs.State.{AbstractView}
use Rattle.abs_transfer.specs.Legal.{legal_check}
use Rattle.abs_state.specs.After.{access_check, after_of, next_word, passed, taken, vector_after, vset_after, way_of}
use Rattle.abs_state.specs.Held.{Setting, Held, vlenb_in}
use Rattle.abs_state.specs.StepLaws.{or_misaligned, CsrStepsHold, ScalarStepsHold, StepIsHeld, MachineIsHeld, StepsGoOn, jumps}
use Rattle.abs_transfer.specs.ConfigurationLemmas.{type_fits}
use Rattle.abs_state.proofs.Followed.{follows_held, proper_kept}

-- ---- what an instruction makes of what is known

-- it gives numbers and a way, and the rest stays
record IsTaken (way : Way) (a b : AbstractView) (r : Result NumbersView Why) : Type 0 where
  numbers : NumbersView
  is : r ≡ Ok numbers
  same : record a { numbers = numbers; words = a.words + 1; way = way } ≡ b

abbrev pub ok_state : AbstractView → Result AbstractView Why
ok_state a = Ok a

pub same_state : (a b : AbstractView) → ok_state a ≡ Ok b → a ≡ b
same_state a b e = cc

taken_is : (way : Way) (a b : AbstractView) (r : Result NumbersView Why) → taken way a r ≡ Ok b → IsTaken way a b r
unfolding taken
taken_is way a b (Ok numbers) e = record { numbers = numbers; is = refl; same = same_state _ b e }
taken_is way a b (Err why) e = cc

taken_leads : (way : Way) (a b : AbstractView) (r : Result NumbersView Why) → taken way a r ≡ Ok b → b.way ≡ way
taken_leads way a b r e = sym (ap (λ (c : AbstractView). c.way) (taken_is way a b r e).same)

passed_leads : (first second : Result (Unit {0}) Why) (way : Way) (a b : AbstractView) → a.way ≡ way → passed first second a ≡ Ok b → b.way ≡ way
unfolding passed
passed_leads (Ok first) (Ok second) way a b is e = cc
passed_leads (Ok first) (Err why) way a b is e = cc
passed_leads (Err why) second way a b is e = cc

vector_leads : (pc : ℕ) (insn : Insn) (a b : AbstractView) → vector_after pc insn a ≡ Ok b → b.way ≡ To (next_word pc)
unfolding vector_after
vector_leads pc insn a b e = passed_leads (legal_check a.vtype insn) (access_check a insn) (To (next_word pc)) _ b refl e

vset_leads : (pc : ℕ) (insn : vset.VSet) (a : AbstractView) → (vset_after pc insn a).way ≡ To (next_word pc)
unfolding vset_after
vset_leads pc insn a = refl

pub goes_on : StepsGoOn
unfolding jumps after_of way_of
goes_on pc (Scalar (Branch condition rs1 rs2 offset)) a b j e = cc
goes_on pc (Scalar (Jal rd offset)) a b j e = cc
goes_on pc (Scalar (Jalr rd rs1 offset)) a b j e = cc
goes_on pc (Scalar Ecall) a b j e = cc
goes_on pc (Scalar (Lui rd imm)) a b j e = taken_leads _ a b _ e
goes_on pc (Scalar (Auipc rd imm)) a b j e = taken_leads _ a b _ e
goes_on pc (Scalar (Load kind rd rs1 offset)) a b j e = taken_leads _ a b _ e
goes_on pc (Scalar (Store size rs1 rs2 offset)) a b j e = taken_leads _ a b _ e
goes_on pc (Scalar (Immediate op rd rs1 imm)) a b j e = taken_leads _ a b _ e
goes_on pc (Scalar (ShiftImmediate op rd rs1 amount)) a b j e = taken_leads _ a b _ e
goes_on pc (Scalar (Register op rd rs1 rs2)) a b j e = taken_leads _ a b _ e
goes_on pc (Scalar Fence) a b j e = taken_leads _ a b _ e
goes_on pc (Csr insn) a b j e = taken_leads _ a b _ e
goes_on pc (VSet insn) a b j e = sym (ap (λ (c : AbstractView). c.way) (same_state (vset_after pc insn a) b e)) ∙ vset_leads pc insn a
goes_on pc (VArith insn) a b j e = vector_leads pc (VArith insn) a b e
goes_on pc (VMask insn) a b j e = vector_leads pc (VMask insn) a b e
goes_on pc (VPerm insn) a b j e = vector_leads pc (VPerm insn) a b e
goes_on pc (VReduce insn) a b j e = vector_leads pc (VReduce insn) a b e
goes_on pc (VMem insn) a b j e = vector_leads pc (VMem insn) a b e
goes_on pc (VMove insn) a b j e = vector_leads pc (VMove insn) a b e

-- ---- configurations

vlenb_fits : (vlenb : ℕ) → IsVlenb vlenb → vlenb < 2 ^ 32
vlenb_fits vlenb (inl e) = omega (arith, e)
vlenb_fits vlenb (inr (inl e)) = omega (arith, e)
vlenb_fits vlenb (inr (inr e)) = omega (arith, e)

config_fits : (vlenb : ℕ) (config : Vconfig) → IsConfig vlenb config → config.vtype < 2 ^ 32
unfolding IsConfig
config_fits vlenb config h = by_type (vtype_of config.vtype) refl h
  where
    by_type : (o : Option Vtype) → vtype_of config.vtype ≡ o → MatchOption o (config ≡ no_config) (λ t. config.vl ≤ vlmax_of vlenb t)
        → config.vtype < 2 ^ 32
    by_type None e h = (let is : config.vtype ≡ vill = ap (λ (c : Vconfig). c.vtype) h in omega (arith, is))
    by_type (Some t) e h = omega (arith, type_fits config.vtype t e)

-- ---- machines

-- the machine with another hart and memory
abbrev with_both : Machine → Hart → Memory → Machine
with_both s hart memory = record s { hart = hart; memory = memory }

whole_is : (s : Machine) (hart : Hart) (memory : Memory) → with_scalar s (or_misaligned hart memory) ≡ unless_misaligned (with_both s hart memory)
unfolding unless_misaligned
whole_is s hart memory = by_test (hart.pc % 4 == 0)
  where
    by_test : (t : Bool) → with_scalar s (if t then Ok (hart, memory) else Err (JumpMisaligned hart.pc))
        ≡ (if t then Ok (with_both s hart memory) else Err (JumpMisaligned hart.pc))
    by_test true = refl
    by_test false = refl

-- what is known after a step that leads to a hart and memory
module _ (e : Setting) (n : ℕ) (a : AbstractView) (s : Machine) (held : Held e n a s) where
  abbrev next_state : NumbersView → Way → AbstractView
  next_state numbers way = record a { numbers = numbers; words = a.words + 1; way = way }

  step_held : (new : NumbersView) (way : Way) (result : Result (Hart × Memory) Fault)
      → StepIsHeld a.numbers new held.numbers s.vectors.config way s.memory result
      → MachineIsHeld e n (next_state new way) (with_scalar s result)
  step_held new way result h =
      let known = held.known in
      let proper = known.proper in
      let t = with_both s h.hart h.memory in
      record {
        t = t;
        is = ap (λ (r : Result (Hart × Memory) Fault). with_scalar s r) h.is ∙ whole_is s h.hart h.memory;
        held =
            follows_held e n a s t held new a.vtype a.groups way h.follows known.vtype known.groups
            (proper_kept e s t proper h.is_hart proper.vectors.config proper.registers h.kept) h.at;
      }

abbrev HeldBy : (e : Setting) → ℕ → (a b : AbstractView) → (s : Machine) → ℕ → Insn → Type 0
HeldBy e n a b s word insn =
    Held e n a s → s.hart.pc % 4 ≡ 0 → meaning_of word ≡ Some insn → after_of s.hart.pc insn a ≡ Ok b
    → MachineIsHeld e n b (carry_out (vlenb_in e) word s insn)

pub held_scalars : MeaningsFit → ScalarStepsHold → (e : Setting) (n : ℕ) (a b : AbstractView) (s : Machine) (word : ℕ) (insn : ScalarInsn) → HeldBy e n a b s word (Scalar insn)
unfolding after_of carry_out scalar_step
held_scalars fit holds e n a b s word insn held aligned m eq =
    let known = held.known in
    let t = taken_is _ a b _ eq in
    subst (λ (c : AbstractView). MachineIsHeld e n c (with_scalar s (rv32im_step insn s.hart s.memory))) t.same
    (step_held e n a s held t.numbers (way_of s.hart.pc insn a.numbers) (rv32im_step insn s.hart s.memory)
    (holds a.numbers t.numbers held.numbers a.zones insn s.hart s.vectors.config s.memory (fit word (Scalar insn) m) known.proper.hart
    (subst (λ (zs : List Zone). HasZones zs s.memory) (sym known.zones) known.proper.zones) known.proper.bytes aligned known.known t.is))

pub held_csrs : MeaningsFit → CsrStepsHold → (e : Setting) (n : ℕ) (a b : AbstractView) (s : Machine) (word : ℕ) (insn : CsrInsn) → HeldBy e n a b s word (Csr insn)
unfolding after_of taken carry_out scalar_step
held_csrs fit holds e n a b s word insn held aligned m eq =
    let known = held.known in
    let config : Vconfig = s.vectors.config in
    let small : vlenb_in e < 2 ^ 32 = vlenb_fits (vlenb_in e) known.proper.vectors.vlenb_is in
    let fits : a.vlenb < 2 ^ 32 = omega (arith, known.vlenb, small) in
    let new : NumbersView = csr_after a.vlenb insn a.numbers in
    let way : Way = To (next_word s.hart.pc) in
    let step : StepIsHeld a.numbers new held.numbers config way s.memory (Ok (csr_step insn a.vlenb config s.hart, s.memory)) =
    holds a.numbers held.numbers a.vlenb insn s.hart config s.memory (fit word (Csr insn) m) known.proper.hart fits
    (config_fits (vlenb_in e) config known.proper.vectors.config) aligned known.known in
    subst (λ (c : AbstractView). MachineIsHeld e n c (with_scalar s (Ok (csr_step insn (vlenb_in e) config s.hart, s.memory))))
    (same_state (next_state e n a s held new way) b eq)
    (step_held e n a s held new way (Ok (csr_step insn (vlenb_in e) config s.hart, s.memory))
    (subst (λ (k : ℕ). StepIsHeld a.numbers new held.numbers config way s.memory (Ok (csr_step insn k config s.hart, s.memory))) known.vlenb step))
