-- Two forms are equal where their constants and their terms are.
use Rattle.std.proofs.Common.{arith, ◌≡◌, ◌∙◌, ap, sym, List, ℕ, true}
use Rattle.std.specs.Bool.{Decides}
use Rattle.std.proofs.lemmas.Grind.{common_steps}
use Rattle.std.proofs.lemmas.Bool.Decides.{nat_tests}
use Rattle.std.proofs.lemmas.Slice.Eq.{slice_eq-Decides}
use Rattle.linear_facts.specs.Words.{Term}
use Rattle.linear_facts.specs.contracts.forms.TermPartialEq as test
use Rattle.linear_facts.specs.Forms.{Linear}
use Rattle.linear_facts.proofs.forms.Form.same.Goals as goal

term_eq-Decides : (a b : Term) → Decides (test.TheImpl.eq-value.it a b) (a ≡ b)
term_eq-Decides a b = (λ h. equal (tests h), λ e. agree (ap (λ (t : Term). t.atom) e) (ap (λ (t : Term). t.coefficient) e))
  where
    tests : test.TheImpl.eq-value.it a b ≡ true → (a.atom ≡ b.atom) × (a.coefficient ≡ b.coefficient)
    tests h = grind (arith, nat_tests, common_steps)

    equal : (a.atom ≡ b.atom) × (a.coefficient ≡ b.coefficient) → a ≡ b
    equal e =
        ap (λ (n : ℕ). record { atom = n; coefficient = a.coefficient }) e.0
        ∙ ap (λ (n : ℕ). record { atom = b.atom; coefficient = n }) e.1

    agree : a.atom ≡ b.atom → a.coefficient ≡ b.coefficient → test.TheImpl.eq-value.it a b ≡ true
    agree e e' = grind (arith, nat_tests, common_steps)

same_parts : (a b : ℕ) (xs ys : List Term) (f g : Linear) → record { constant = a; terms = xs } ≡ f
    → record { constant = b; terms = ys } ≡ g → a ≡ b → xs ≡ ys → f ≡ g
same_parts a b xs ys f g is_f is_g e e' = cc

parts_same : (a b : ℕ) (xs ys : List Term) (f g : Linear) → record { constant = a; terms = xs } ≡ f
    → record { constant = b; terms = ys } ≡ g → f ≡ g → xs ≡ ys
parts_same a b xs ys f g is_f is_g e = ap (λ (h : Linear). h.terms) (is_f ∙ (e ∙ sym is_g))

pub returns-then-self-other : goal.returns-then-self-other
returns-then-self-other g c = let h = slice_eq-Decides term_eq-Decides _ _ _ c.eq.ensures in (
  λ t.
      same_parts _ _ _ _ _ _ c.self.view_is c.other.view_is c.if-self-other.true
      (sym c.as_slice.ensures.value ∙ (h.0 t ∙ c.as_slice-then-self-other.ensures.value)),
  λ e. h.1 (c.as_slice.ensures.value ∙ (parts_same _ _ _ _ _ _ c.self.view_is c.other.view_is e ∙ sym c.as_slice-then-self-other.ensures.value)),
)
