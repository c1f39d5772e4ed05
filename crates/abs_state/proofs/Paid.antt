-- What is known of a number, and what the budget came to, stay right as atoms are added.
use Rattle.std.proofs.Common.{◌≡◌, ◌<◌, ◌≤◌, ◌+◌, ◌-◌, ℕ, arith, sym, ◌∙◌, subst, length, Option, Some, None}
use Rattle.linear_facts.specs.LocalityLemmas.{forms-stay, agree-below}
use Rattle.cert_note.specs.declared.values.Budget.{Budget}
use Rattle.abs_domain.specs.Values.{ValueView}
use Rattle.abs_domain.specs.Described.{IsNumber}
use Rattle.abs_state.specs.State.{AbstractView}
use Rattle.abs_state.specs.Held.{IsPaid}

-- what is known of a number stays right as atoms are added
pub number_stays : (n m : ℕ) (v w : ℕ → ℕ) (a : ValueView) (x : ℕ) → n ≤ m → ((b : ℕ) → b < n → w b ≡ v b) → IsNumber n v a x → IsNumber m w a x
number_stays n m v w a x l same h =
    let is : n + (m - n) ≡ m = omega (arith, l) in
    subst (λ (k : ℕ). IsNumber k w a x) is
    record {
      means = record {
        form = h.means.form;
        below = forms-stay n (m - n) a.form h.means.below;
        number = h.means.number ∙ agree-below n v w a.form (λ b k. sym (same b k)) h.means.below;
      };
      lies = h.lies;
    }

pub paid_stays : (v w : ℕ → ℕ) (n : ℕ) (budget : Option Budget) (a b : AbstractView) → a.paid ≡ b.paid → a.second_paid ≡ b.second_paid → length a.numbers.atoms ≤ length b.numbers.atoms
    → ((k : ℕ) → k < length a.numbers.atoms → w k ≡ v k) → IsPaid v n budget a → IsPaid w n budget b
paid_stays v w n None a b e f l same paid = tt
paid_stays v w n (Some budget) a b e f l same paid = (
  paid.0,
  paid.1,
  paid.2,
  subst (λ (p : ValueView). IsNumber (length b.numbers.atoms) w p paid.0) e
      (number_stays (length a.numbers.atoms) (length b.numbers.atoms) v w a.paid paid.0 l same paid.3),
  subst (λ (p : ValueView). IsNumber (length b.numbers.atoms) w p paid.1) f
      (number_stays (length a.numbers.atoms) (length b.numbers.atoms) v w a.second_paid paid.1 l same paid.4),
)
