use Rattle.std.proofs.Common.{rules}
use Rattle.commands.proofs.makes.read_back.Goals as goal

pub returns-clause-answer : goal.returns-clause-answer
returns-clause-answer c = search rules
