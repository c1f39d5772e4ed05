-- To choose the elements from i on, after those so far, gives what to choose all gives.
use Rattle.std.proofs.Common.{◌≡◌, ◌++◌, take, drop}
use Rattle.lane_int.specs.Lists.{zip3}
use Rattle.vector_core.specs.Moves.{chosen}
use Rattle.vector_core.proofs.moves.choose_each.Given as goal

abbrev pub invariant-loop-i : goal.invariant-loop-i
invariant-loop-i g l =
    take l.i l.values ++ zip3 chosen (drop l.i l.values) (drop l.i l.b) (drop l.i l.bits) ≡ zip3 chosen l.initial.values l.b l.bits
