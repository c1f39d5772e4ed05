-- What is known after an instruction is true of the machine to which it leads, whatever its class.
use Rattle.std.proofs.Common.{refl, subst}
use Rattle.rv_decode.specs.Encodings.{MeaningsFit}
use Rattle.rv_decode.specs.declared.instructions.Insn.TheVariants.{Scalar, Csr, VSet, VArith, VMask, VPerm, VReduce, VMem, VMove}
use Rattle.machine.specs.MachineStep.{carry_out}
use Rattle.abs_state.specs.State.{AbstractView}
use Rattle.abs_state.specs.After.{after_of, vset_after}
use Rattle.abs_state.specs.Held.{vlenb_in}
use Rattle.abs_state.specs.StepLaws.{CsrStepsHold, MachineIsHeld, ScalarStepsHold, StepsAreHeld}
use Rattle.abs_state.specs.VectorLaws.{VsetsAreHeld}
use Rattle.abs_state.proofs.StepMachines.{held_csrs, held_scalars, same_state}
use Rattle.abs_state.proofs.VectorMachines.{Parts, vector_held}

-- the laws below: of what words mean, and of the classes of instructions
pub record StepsBelow : Type 0 where
  pub fit : MeaningsFit
  pub scalars : ScalarStepsHold
  pub csrs : CsrStepsHold
  pub vsets : VsetsAreHeld
  pub parts : Parts

pub steps_held : StepsBelow → StepsAreHeld
unfolding after_of carry_out
steps_held below e n a b s word (Scalar insn) image certificate held aligned m eq = held_scalars below.fit below.scalars e n a b s word insn held aligned m eq
steps_held below e n a b s word (Csr insn) image certificate held aligned m eq = held_csrs below.fit below.csrs e n a b s word insn held aligned m eq
steps_held below e n a b s word (VSet insn) image certificate held aligned m eq =
    subst (λ (c : AbstractView). MachineIsHeld e n c (carry_out (vlenb_in e) word s (VSet insn))) (same_state (vset_after s.hart.pc insn a) b eq)
    (below.vsets e n a s word insn held aligned (below.fit word (VSet insn) m))
steps_held below e n a b s word (VArith insn) image certificate held aligned m eq = vector_held below.parts e n a s held aligned word (VArith insn) b refl (below.fit word (VArith insn) m) eq
steps_held below e n a b s word (VMask insn) image certificate held aligned m eq = vector_held below.parts e n a s held aligned word (VMask insn) b refl (below.fit word (VMask insn) m) eq
steps_held below e n a b s word (VPerm insn) image certificate held aligned m eq = vector_held below.parts e n a s held aligned word (VPerm insn) b refl (below.fit word (VPerm insn) m) eq
steps_held below e n a b s word (VReduce insn) image certificate held aligned m eq = vector_held below.parts e n a s held aligned word (VReduce insn) b refl (below.fit word (VReduce insn) m) eq
steps_held below e n a b s word (VMem insn) image certificate held aligned m eq = vector_held below.parts e n a s held aligned word (VMem insn) b refl (below.fit word (VMem insn) m) eq
steps_held below e n a b s word (VMove insn) image certificate held aligned m eq = vector_held below.parts e n a s held aligned word (VMove insn) b refl (below.fit word (VMove insn) m) eq
