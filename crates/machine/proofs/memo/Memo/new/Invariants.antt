use Rattle.std.proofs.Common.{◌-◌, ◌≤◌, length}
use Rattle.machine.specs.declared.memo.TheConstants.{ROOMS}
use Rattle.machine.proofs.memo.Memo.new.Given as goal

abbrev pub invariant-filling : goal.invariant-filling
invariant-filling g l = length l.known.items ≤ ROOMS

abbrev pub decreases-filling : goal.decreases-filling
decreases-filling g l = ROOMS - length l.known.items
