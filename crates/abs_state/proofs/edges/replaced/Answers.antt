-- The form that is read is the one in the atom's place.
use Rattle.std.proofs.Common.{arith, ◌∙◌, ap, ℕ}
use Rattle.linear_facts.specs.Forms.{atom_form}
use Rattle.linear_facts.specs.FormLemmas.{read_at}
use Rattle.abs_state.proofs.edges.replaced.Goals as goal

pub returns-in-Some-clause-product : goal.returns-in-Some-clause-product
returns-in-Some-clause-product c =
    c.multiple.ensures
    ∙ read_at _ _ _ _ _ c.from.ensures (c.in-Some.ensures.lookup.4 (omega arith) (atom_form c.args.term.atom))

pub returns-in-None-clause-product : goal.returns-in-None-clause-product
returns-in-None-clause-product c =
    c.multiple-in-None.ensures
    ∙ read_at _ _ _ _ _ c.from.ensures (c.atom.ensures ∙ (ap (λ (a : ℕ). atom_form a) c.from-in-None.ensures ∙ c.in-None.ensures.lookup.4 (omega arith) (atom_form c.args.term.atom)))
