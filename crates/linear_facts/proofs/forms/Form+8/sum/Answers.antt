-- The result is there, since it has room.
use Rattle.std.proofs.Common.{sym, ◌∙◌}
use Rattle.linear_facts.specs.FormLemmas.{within-is}
use Rattle.linear_facts.proofs.forms.Form+8.sum.Goals as goal

pub returns : goal.returns
returns c = within-is _ _ _ (sym c.add.ensures.sum ∙ c.unwrap.ensures)
