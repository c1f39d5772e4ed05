-- One step of a vector instruction: the state after it, or its fault. An instruction that faults
-- has no new state.
use Rattle.std.specs.Prelude.{ℕ, ◌≡◌, Bool, true, false, if◌then◌else◌, Ok, Err}
use Rattle.std.specs.Prelude.{Option, Some, None, IfSome}
use Rattle.rv_decode.specs.declared.instructions.Insn.TheVariants as class
use Rattle.rv_decode.specs.Needs.{needs_of}
use Rattle.vreg_groups.specs.Legality.{AreAllInside, are_operands_legal, is_legal}
use Rattle.vreg_groups.specs.VectorType.{type_in, vtype_of}
use Rattle.rv_decode.specs.declared.instructions.VArith as arith
use Rattle.vector_core.specs.Words.{Hart, Illegal, Insn, Memory, Setup, Vtype, advanced}
use Rattle.vector_core.specs.Vectors.{Stepped, Vectors, with_registers}
use Rattle.vector_core.specs.{Arithmetic.arith_of, Computed.Computed, Configuration.vset_step}
use Rattle.vector_core.specs.{LoadsStores.memory_step, Masks.mask_step, Moves.move_step}
use Rattle.vector_core.specs.{Permutations.perm_step, Reductions.reduce_step, Setup.setup_of}

-- vxsat becomes 1 where an active element saturated, and stays else
abbrev pub with_saturation : Bool → Hart → Hart
with_saturation true hart = record hart { vxsat = 1 }
with_saturation false hart = hart

abbrev pub computed : Computed → Hart → Vectors → Memory → Stepped
computed done hart v memory =
    Ok (advanced (with_saturation done.saturated hart), with_registers done.registers v, memory)

unfoldable pub arith_step : ℕ → Setup → arith.VArith → Hart → Vectors → Memory → Stepped
arith_step vlenb s insn hart v memory =
    computed (arith_of vlenb s hart insn v.registers) hart v memory

-- a legal instruction, by its class; one of a scalar class does nothing here
unfoldable pub legal_step : ℕ → Setup → Insn → Hart → Vectors → Memory → Stepped
legal_step vlenb s (class.Scalar insn) hart v memory = Ok (hart, v, memory)
legal_step vlenb s (class.Csr insn) hart v memory = Ok (hart, v, memory)
legal_step vlenb s (class.VSet insn) hart v memory = vset_step vlenb insn hart v memory
legal_step vlenb s (class.VArith insn) hart v memory = arith_step vlenb s insn hart v memory
legal_step vlenb s (class.VMask insn) hart v memory = mask_step vlenb s insn hart v memory
legal_step vlenb s (class.VPerm insn) hart v memory = perm_step vlenb s insn hart v memory
legal_step vlenb s (class.VReduce insn) hart v memory = reduce_step vlenb s insn hart v memory
legal_step vlenb s (class.VMove insn) hart v memory = move_step vlenb s insn hart v memory
legal_step vlenb s (class.VMem insn) hart v memory = memory_step vlenb s insn hart v memory

-- the step of `insn`, the meaning of `word`
unfoldable pub vector_step : ℕ → Insn → ℕ → Hart → Vectors → Memory → Stepped
vector_step vlenb insn word hart v memory =
    if is_legal v.config insn
    then legal_step vlenb (setup_of (type_in (vtype_of v.config.vtype)) v) insn hart v memory
    else Err (Illegal word)

-- what legality says of `insn` under vtype with these bits: the type that it works under, where its
-- operands are inside the registers, or that it is not legal
pub record IsJudged (bits : ℕ) (insn : Insn) (judged : Option Vtype) : Type 0 where
  pub meaning : judged ≡ (if are_operands_legal (vtype_of bits) (needs_of insn)
      then Some (type_in (vtype_of bits)) else None)
  pub inside : IfSome judged (λ t. AreAllInside t (needs_of insn))
