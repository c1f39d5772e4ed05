-- All facts are tried.
use Rattle.std.proofs.Common.{rules, tests}
use Rattle.std.proofs.lemmas.Iterator.{YieldsList-from_slice}
use Rattle.std.proofs.lemmas.Iterator.Search.{all_from_yields_List}
use Rattle.abs_state.specs.Edges.{is_equality_shown}
use Rattle.abs_state.proofs.edges.are_equalities_shown.Goals as goal

pub returns : goal.returns
returns g c =
    all_from_yields_List (is_equality_shown c.args.edge.now) _ _ _ c.all.ensures.ran (YieldsList-from_slice c.args.facts.now cc)
    (λ x b q k. search (rules, tests))
