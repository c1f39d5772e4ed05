-- The copy is there, since it has room.
use Rattle.std.proofs.Common.{sym, ◌∙◌}
use Rattle.linear_facts.specs.FormLemmas.{within-is}
use Rattle.abs_domain.specs.RoomLemmas.{some_within}
use Rattle.abs_domain.proofs.effects.copy_of.Goals as goal

pub unwrap-requires : goal.unwrap-requires
unwrap-requires c = some_within 8 c.args.form.now c.resize.result c.terms-terms.ensures.form.has_room c.resize.ensures

pub returns : goal.returns
returns c = within-is _ _ _ (sym c.resize.ensures ∙ c.unwrap.ensures)
