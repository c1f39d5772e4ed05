use Rattle.std.proofs.Common.{rules}
use Rattle.std.proofs.lemmas.Fn.{filter_same}
use Rattle.abs_transfer.specs.Facts.{is_apart}
use Rattle.abs_transfer.proofs.facts.retain_apart.Goals as goal

pub returns-clause-items : goal.returns-clause-items
returns-clause-items g c =
    filter_same _ (is_apart c.args.first c.args.count) _ (λ x b f' k. search rules) _ _ c.retain.ensures.filtered
