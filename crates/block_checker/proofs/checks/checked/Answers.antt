use Rattle.std.proofs.Common.{rules}
use Rattle.block_checker.specs.Passes.{checked, entry_passes, entry_passes_to}
use Rattle.block_checker.proofs.checks.checked.Goals as goal

pub returns-then-bytes-clause-answer : goal.returns-then-bytes-clause-answer
unfolding checked entry_passes entry_passes_to
returns-then-bytes-clause-answer g c = search rules

pub returns-then-is_none-clause-answer : goal.returns-then-is_none-clause-answer
unfolding checked entry_passes entry_passes_to
returns-then-is_none-clause-answer g c = search rules
