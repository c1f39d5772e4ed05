-- The chunks before the place are done, and other bytes are kept.
use Rattle.std.proofs.Common.{◌*◌}
use Rattle.lane_file.specs.InPlace.{IsDone, IsKept, target}
use Rattle.lane_file.proofs.chunks.whole_chunks.Given as goal

abbrev pub invariant-loop-m : goal.invariant-loop-m
invariant-loop-m g l =
    IsDone g.E.Lane.size l.d (target g.row.VLENB g.E.Lane.size g.E.Lane.number (g.K.Kernel.answer l.op g.E.Lane.width) l.d l.a l.b l.masked l.inactive l.fn.registers) (16 * l.m) l.registers
    × IsKept l.d (16 * l.m) l.fn.registers l.registers
