-- Sums with each atom replaced by the form in its place, and forms that are equal.
use Rattle.std.proofs.Common.{◌≡◌, ◌<◌, ◌≤◌, ◌+◌, ◌↔◌, ℕ, Bool, true, false, arith, refl, sym, ap, ◌∙◌, IsTrue, List, [], ◌∷◌, length, map, drop, get_or}
use Rattle.std.specs.Prelude.{◌==◌, ◌&&◌}
use Rattle.std.proofs.lemmas.Bool.{and_parts, eqb-true}
use Rattle.std.proofs.lemmas.Bool.Decides.{nat_tests}
use Rattle.std.proofs.lemmas.List.{get_or-map, length-map}
use Rattle.linear_facts.specs.declared.forms.Term.{Term}
use Rattle.linear_facts.specs.Forms.{Linear, form_at, scaled, sum_of, with_replaced}
use Rattle.linear_facts.specs.FormLemmas.{replaced-more, replaced-done}
use Rattle.cert_note.specs.declared.values.EqualityTerm.{EqualityTerm}
use Rattle.abs_domain.specs.Starts.{form_term}
use Rattle.abs_state.specs.Edges.{are_same_terms, is_same}

-- one more term is replaced
pub sums_more : (forms : List Linear) (start next part : Linear) (ts : List EqualityTerm) (i : ℕ) (d : EqualityTerm) (all : Linear) → i < length ts
    → with_replaced forms start (drop i (map form_term ts)) ≡ all
    → part ≡ scaled (get_or ts i d).coefficient (form_at forms (get_or ts i d).atom) → next ≡ sum_of start part
    → with_replaced forms next (drop (i + 1) (map form_term ts)) ≡ all
sums_more forms start next part ts i d all l e p n =
    ap (λ (s : Linear). with_replaced forms s (drop (i + 1) (map form_term ts))) (n ∙ ap (λ (q : Linear). sum_of start q) (p ∙ here))
    ∙ (sym (replaced-more forms start (map form_term ts) i (form_term d) (omega (arith, length-map ts form_term, l))) ∙ e)
  where
    here : scaled (get_or ts i d).coefficient (form_at forms (get_or ts i d).atom)
        ≡ scaled (get_or (map form_term ts) i (form_term d)).coefficient (form_at forms (get_or (map form_term ts) i (form_term d)).atom)
    here = ap (λ (t : Term). scaled t.coefficient (form_at forms t.atom)) (sym (get_or-map form_term ts i d (form_term d) l))

-- once all are replaced, that is the sum
pub sums_done : (forms : List Linear) (start : Linear) (ts : List EqualityTerm) (i : ℕ) (all : Linear) → length ts ≤ i
    → with_replaced forms start (drop i (map form_term ts)) ≡ all → start ≡ all
sums_done forms start ts i all l e =
    sym (replaced-done forms start (map form_term ts) i (omega (arith, length-map ts form_term, l))) ∙ e

-- ---- equal forms

itself : (x : ℕ) → (x == x) ≡ true
itself x = grind (arith, nat_tests)

term_is : (t u : Term) → t.atom ≡ u.atom → t.coefficient ≡ u.coefficient → t ≡ u
term_is t u e f =
    ap (λ (a : ℕ). record { atom = a; coefficient = t.coefficient }) e ∙ ap (λ (k : ℕ). record { atom = u.atom; coefficient = k }) f

linear_is : (f g : Linear) → f.constant ≡ g.constant → f.terms ≡ g.terms → f ≡ g
linear_is f g e h =
    ap (λ (c : ℕ). record { constant = c; terms = f.terms }) e ∙ ap (λ (ts : List Term). record { constant = g.constant; terms = ts }) h

same_terms : (ts us : List Term) → are_same_terms ts us ≡ true → ts ≡ us
unfolding are_same_terms
same_terms [] [] e = refl
same_terms [] (u ∷ us) e = cc
same_terms (t ∷ ts) [] e = cc
same_terms (t ∷ ts) (u ∷ us) e =
    let p = and_parts ((t.atom == u.atom) && (t.coefficient == u.coefficient)) (are_same_terms ts us) e in
    let q = and_parts (t.atom == u.atom) (t.coefficient == u.coefficient) p.0 in
    ap (λ (k : Term). k ∷ ts) (term_is t u (eqb-true t.atom u.atom q.0) (eqb-true t.coefficient u.coefficient q.1))
    ∙ ap (λ (ks : List Term). u ∷ ks) (same_terms ts us p.1)

-- forms that the test finds equal are equal
pub same_forms : (f g : Linear) → is_same f g ≡ true → f ≡ g
unfolding is_same
same_forms f g e =
    let p = and_parts (f.constant == g.constant) (are_same_terms f.terms g.terms) e in
    linear_is f g (eqb-true f.constant g.constant p.0) (same_terms f.terms g.terms p.1)

own_terms : (ts : List Term) → are_same_terms ts ts ≡ true
unfolding are_same_terms
own_terms [] = refl
own_terms (t ∷ ts) = rw (itself t.atom, itself t.coefficient) (own_terms ts)

own_form : (f : Linear) → is_same f f ≡ true
unfolding is_same
own_form f = rw (itself f.constant) (own_terms f.terms)

-- a test that is true exactly where two forms are equal is the one that compares them term by term
pub same_is : (b : Bool) (f g : Linear) → (IsTrue b ↔ (f ≡ g)) → b ≡ is_same f g
same_is b f g e = by_test b (is_same f g) refl e.0 refl
  where
    no_case : {P : Type 0} → IsTrue b → b ≡ false → P
    no_case t is = cc

    by_test : (s t : Bool) → is_same f g ≡ t → (IsTrue s → f ≡ g) → b ≡ s → s ≡ t
    by_test true true h shown is = refl
    by_test false false h shown is = refl
    by_test true false h shown is = (let same = shown refl in sym (own_form f) ∙ (ap (λ (k : Linear). is_same f k) same ∙ h))
    by_test false true h shown is = no_case (e.1 (same_forms f g h)) is
