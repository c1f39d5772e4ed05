-- The multiple is there, since it has room.
use Rattle.std.proofs.Common.{sym, ◌∙◌}
use Rattle.linear_facts.specs.FormLemmas.{within-is}
use Rattle.abs_domain.proofs.effects.long_multiple.Goals as goal

pub returns : goal.returns
returns c = within-is _ _ _ (sym c.scale.ensures.product ∙ c.unwrap.ensures)
