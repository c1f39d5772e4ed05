-- The file was written by the store.
use Rattle.std.proofs.Common.{rules}
use Rattle.commands.proofs.files.write.Goals as goal

pub returns-in-Ok : goal.returns-in-Ok
returns-in-Ok g c = search rules
