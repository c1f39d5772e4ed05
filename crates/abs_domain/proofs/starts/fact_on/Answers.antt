use Rattle.std.proofs.Common.{rules, tests, ◌==◌}
use Rattle.std.proofs.lemmas.Iterator.{YieldsList-from_slice}
use Rattle.std.proofs.lemmas.Iterator.Search.{find_from_yields_List}
use Rattle.cert_note.specs.declared.values.RegisterFact.{RegisterFact}
use Rattle.abs_domain.proofs.starts.fact_on.Goals as goal

pub returns : goal.returns
returns c =
    find_from_yields_List (λ (fact : RegisterFact). fact.number == c.args.number) _ _ _ c.find.ensures.ran (YieldsList-from_slice c.args.facts.now cc)
    (λ x b q k. search (rules, tests))
