use Rattle.std.proofs.Common.{rules, tests}
use Rattle.std.proofs.lemmas.Iterator.{YieldsList-from_slice}
use Rattle.std.proofs.lemmas.Iterator.Search.{find_from_yields_List}
use Rattle.abs_transfer.specs.Facts.{is_source}
use Rattle.abs_transfer.proofs.facts.source_fact.Goals as goal

pub returns : goal.returns
returns c =
    find_from_yields_List (is_source c.args.vl c.args.first c.args.width c.args.registers) _ _ _ c.find.ensures.ran
    (YieldsList-from_slice c.args.facts.now cc) (λ x b q k. search (rules, tests))
