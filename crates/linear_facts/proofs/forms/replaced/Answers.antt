-- The multiple is there, since a multiple has no more terms.
use Rattle.std.proofs.Common.{arith, ◌∙◌, sym}
use Rattle.linear_facts.specs.Forms.{atom_form}
use Rattle.linear_facts.specs.FormLemmas.{read_at, within-is}
use Rattle.linear_facts.proofs.forms.replaced.Goals as goal

pub returns-in-Some-clause-product : goal.returns-in-Some-clause-product
returns-in-Some-clause-product c =
    within-is 8 _ _ (sym c.scale.ensures.product ∙ c.unwrap.ensures)
    ∙ read_at _ _ _ _ _ c.from.ensures (c.in-Some.ensures.lookup.4 (omega arith) (atom_form c.args.term.atom))

pub returns-in-None-clause-product : goal.returns-in-None-clause-product
returns-in-None-clause-product c =
    within-is 8 _ _ (sym c.scale-in-None.ensures.product ∙ c.unwrap-in-None.ensures)
    ∙ read_at _ _ _ _ _ c.from.ensures (c.atom.ensures ∙ c.in-None.ensures.lookup.4 (omega arith) (atom_form c.args.term.atom))
