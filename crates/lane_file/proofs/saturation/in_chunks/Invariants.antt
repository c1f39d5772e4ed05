-- Whether an element of the chunks before the place saturates.
use Rattle.std.proofs.Common.{◌≡◌, ◌*◌}
use Rattle.lane_fixed.specs.Chunks.{lane_saturates}
use Rattle.lane_file.specs.InPlace.{any_of, holds_at}
use Rattle.lane_file.proofs.saturation.in_chunks.Given as goal

abbrev pub invariant-loop-m : goal.invariant-loop-m
invariant-loop-m g l =
    l.is_any ≡ any_of (holds_at g.row.VLENB g.E.Lane.size g.E.Lane.number (lane_saturates l.op g.E.Lane.width) l.a l.b l.masked l.registers) (g.E.Lane.count * l.m)
