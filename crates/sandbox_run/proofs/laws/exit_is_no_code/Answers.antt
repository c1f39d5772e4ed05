use Rattle.std.proofs.Common.{arith}
use Rattle.scalar_core.specs.Hart.{exit}
use Rattle.sandbox_run.proofs.laws.exit_is_no_code.Goals as goal

pub returns : goal.returns
returns c image params args p q r s t memory same = c.fetches_nothing_above.ensures image params args p q r s t memory same exit (omega arith)
