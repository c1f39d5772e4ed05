use Rattle.std.proofs.Common.{ℕ, ◌<◌, List, length, map, take, arith, sym, subst}
use Rattle.linear_facts.specs.Forms.{Linear, IsForm}
use Rattle.linear_facts.specs.Laws.{AreBelow}
use Rattle.cert_note.specs.declared.values.EqualityTerm.{EqualityTerm}
use Rattle.abs_domain.specs.Starts.{form_term}
use Rattle.abs_domain.specs.StartFormLemmas.{terms_room, term_past, term_some}
use Rattle.abs_domain.proofs.starts.equality_form.Goals as goal

pub with_term-form-requires : goal.with_term-form-requires
with_term-form-requires c =
    let ts = c.as_slice-term-items.result.now in
    let k = c.loop-term.term-index in
    let constant = c.args.equality.now.constant in
    let is : IsForm 8 record { constant = constant; terms = map form_term ts } =
    subst (λ (us : List EqualityTerm). IsForm 8 record { constant = constant; terms = map form_term us }) (sym c.as_slice-term-items.ensures.value) c.requires in
    let room = subst (λ (f : Linear). length f.terms < 8) (sym c.loop-term.invariant) (terms_room constant ts k is c.loop-term-test.true) in
    let past = subst (λ (f : Linear). AreBelow c.from.result f.terms) (sym c.loop-term.invariant)
    (subst (λ (a : ℕ). AreBelow a (map form_term (take k ts))) (sym c.from.ensures) (term_past constant ts k _ is c.loop-term-test.true)) in
    (omega arith, (room, (past, term_some constant ts k _ is c.loop-term-test.true)))
