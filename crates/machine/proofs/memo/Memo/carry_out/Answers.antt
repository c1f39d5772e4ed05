-- A word that has a flat form is carried out by it.
use Rattle.std.proofs.Common.{◌≡◌, arith}
use Rattle.std.proofs.lemmas.Grind.{common_steps}
use Rattle.machine.specs.Machine.{Machine}
use Rattle.machine.proofs.OpSteps.{op_steps}
use Rattle.machine.proofs.memo.Memo.carry_out.Goals as goal
use Rattle.machine.proofs.memo.Memo.carry_out.Goals.{then-not-is, else-not-is}

pub returns-in-Some : goal.returns-in-Some
returns-in-Some g c =
    let known_is : c.if-not-is.known ≡ c.args.word = elim c.if-not-is.branch [ then-not-is w ↦ grind (arith, common_steps) | else-not-is w ↦ grind (arith, common_steps) ] in
    let old : Machine = record { hart = c.args.hart.now; vectors = c.args.vectors.now; memory = c.args.memory.now } in
    op_steps _ _ _ old _ _ _ _ _ known_is c.op.ensures c.in-Some.is c.step_op.ensures
