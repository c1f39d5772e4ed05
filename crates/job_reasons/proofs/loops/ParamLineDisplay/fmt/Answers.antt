-- The name of the mode is that of the text.
use Rattle.std.proofs.Common.{sym}
use Rattle.job_reasons.proofs.loops.ParamLineDisplay.fmt.Goals as goal

pub returns-in-Buffer-clause-writes : goal.returns-in-Buffer-clause-writes
returns-in-Buffer-clause-writes g c =
    rw (c.in-Buffer.is, sym c.mode_name-mode.ensures) (λ plain ok. c.writeln-in-Buffer.ensures.writes plain ok)
