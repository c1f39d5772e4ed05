use Rattle.std.proofs.Common.{rules, arith}
use Rattle.std.proofs.lemmas.Grind.{common_steps}
use Rattle.block_checker.proofs.EntryLemmas.{has_entry}
use Rattle.block_checker.proofs.accepted.entry_budget.Goals as goal

pub unreachable-requires : goal.unreachable-requires
unreachable-requires g c = has_entry _ _ _ c.requires (search rules)

pub returns : goal.returns
returns g c = grind (arith, common_steps)
