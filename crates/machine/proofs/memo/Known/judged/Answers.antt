use Rattle.std.proofs.Common.{rules}
use Rattle.machine.proofs.memo.Known.judged.Goals as goal

pub returns-then-self-config-clause-judged : goal.returns-then-self-config-clause-judged
returns-then-self-config-clause-judged c = search rules
