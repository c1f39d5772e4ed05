-- The first i elements are written, the rest are as they were.
use Rattle.std.proofs.Common.{◌≡◌}
use Rattle.lane_int.specs.Lists.{zip3}
use Rattle.lane_int.proofs.Overlay.{overlaid}
use Rattle.lane_int.proofs.kernels.carry_out_each.Given as goal

abbrev pub invariant-loop-i : goal.invariant-loop-i
invariant-loop-i g l = l.carries ≡ overlaid l.i (zip3 (g.T.Lane.carry_of l.op) l.a l.b l.initial.carries) l.initial.carries
