-- The lines of the zones so far were written.
use Rattle.std.proofs.Common.{take}
use Rattle.std.specs.Fmt.{HasWritten, IsPlainFormatter}
use Rattle.check_reasons.specs.Access.{zones_from}
use Rattle.check_reasons.proofs.access.ZoneLinesDisplay.fmt.Given as goal

abbrev pub invariant-loop-number : goal.invariant-loop-number
invariant-loop-number g l =
    IsPlainFormatter l.initial.f
    → HasWritten g.W.Write.write_str_gives l.initial.f (zones_from l.segments l.buffers 0 (take l.number l.zones)) l.f
