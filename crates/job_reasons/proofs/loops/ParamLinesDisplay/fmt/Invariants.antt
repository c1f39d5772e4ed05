-- The lines of the parameters so far were written.
use Rattle.std.proofs.Common.{take}
use Rattle.std.specs.Fmt.{HasWritten, IsPlainFormatter}
use Rattle.job_reasons.specs.Loops.{param_lines}
use Rattle.job_reasons.proofs.loops.ParamLinesDisplay.fmt.Given as goal

abbrev pub invariant-loop-place : goal.invariant-loop-place
invariant-loop-place g l =
    IsPlainFormatter l.initial.f
    → HasWritten g.W.Write.write_str_gives l.initial.f (param_lines 0 (take l.place l.initial.self.0.now)) l.f
