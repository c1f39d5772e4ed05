-- Class by class.
use Rattle.std.proofs.Common.{rules}
use Rattle.vector_core.specs.Step.{legal_step, arith_step}
use Rattle.vector_core.specs.Permutations.{perm_step}
use Rattle.vector_core.specs.Reductions.{reduce_step}
use Rattle.rv_decode.specs.Needs.{needs_of}
use Rattle.vector_core.proofs.step.step_legal.Goals.{in-VSet, in-VArith, then-saturated, else-saturated, in-VMask, in-VPerm, in-VReduce, in-VMove}
use Rattle.vector_core.proofs.step.step_legal.Goals as goal

pub returns : goal.returns
unfolding legal_step arith_step perm_step reduce_step needs_of
returns g c = elim c.match-insn.branch [
  | in-VSet w ↦ search rules
  | in-VArith w ↦ elim w.if-saturated.branch [ then-saturated w' ↦ search rules | else-saturated w' ↦ search rules ]
  | in-VMask w ↦ search rules
  | in-VPerm w ↦ search rules
  | in-VReduce w ↦ search rules
  | in-VMove w ↦ search rules
]
