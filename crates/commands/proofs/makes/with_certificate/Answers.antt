-- The note is attached to the file.
use Rattle.std.proofs.Common.{rules}
use Rattle.commands.proofs.makes.with_certificate.Goals as goal

pub returns-in-Ok-clause-answer : goal.returns-in-Ok-clause-answer
returns-in-Ok-clause-answer c = search rules
