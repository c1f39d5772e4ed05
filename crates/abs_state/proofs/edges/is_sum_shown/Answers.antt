-- The two forms are compared.
use Rattle.std.proofs.Common.{arith}
use Rattle.abs_state.specs.Edges.{is_sum_shown}
use Rattle.abs_state.specs.SubstitutionLemmas.{same_is}
use Rattle.abs_state.proofs.edges.is_sum_shown.Goals as goal

pub returns : goal.returns
unfolding is_sum_shown
returns g c =
    let same = same_is c.same.result c.sum_on.result c.form_on.result c.same.ensures in
    grind (arith, same, c.sum_on.ensures, c.form_on.ensures)
