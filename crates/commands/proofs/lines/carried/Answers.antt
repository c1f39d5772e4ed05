-- The line of an error is of that error.
use Rattle.std.proofs.Common.{refl, rules}
use Rattle.commands.proofs.lines.carried.Goals as goal

pub returns-clause-told : goal.returns-clause-told
returns-clause-told g c = search rules

pub returns-in-Ok-clause-same_reference : goal.returns-in-Ok-clause-same_reference
returns-in-Ok-clause-same_reference g c = c.command.ensures.same_reference

pub returns-in-Err-Write-clause-same_reference : goal.returns-in-Err-Write-clause-same_reference
returns-in-Err-Write-clause-same_reference g c = c.command.ensures.same_reference

pub returns-in-Ok-clause-memory : goal.returns-in-Ok-clause-memory
returns-in-Ok-clause-memory g c = tt

pub returns-in-Err-Write-clause-told : goal.returns-in-Err-Write-clause-told
returns-in-Err-Write-clause-told g c = tt

pub returns-in-Err-Write-clause-done : goal.returns-in-Err-Write-clause-done
returns-in-Err-Write-clause-done g c = tt

pub returns-in-Err-Write-clause-memory : goal.returns-in-Err-Write-clause-memory
returns-in-Err-Write-clause-memory g c = refl
