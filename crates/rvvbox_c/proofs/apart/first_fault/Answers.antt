-- The next place joins those with which nothing is wrong, or is the first with which something is.
use Rattle.std.proofs.Common.{◌≡◌, ◌≤◌, ◌+◌, ◌-◌, ◌∙◌, inl, inr, ℕ, List, Option, None, length, drop, take, get_or, ap, sym, arith}
use Rattle.std.proofs.Math.Nat.{eq-or-lt_of_le}
use Rattle.std.proofs.lemmas.List.{length-drop, take_all}
use Rattle.rvvbox_c.specs.Apart.{fault_at, no_place, place_fault}
use Rattle.rvvbox_c.specs.declared.apart.Place.{Place}
use Rattle.rvvbox_c.specs.declared.status.Status.{Status}
use Rattle.rvvbox_c.proofs.apart.first_fault.Goals as goal

-- as many of those behind a place as there are
behind : (places : List Place) (k : ℕ) → take (length places - (k + 1)) (drop (k + 1) places) ≡ drop (k + 1) places
behind places k =
    let all : length (drop (k + 1) places) ≡ length places - (k + 1) = length-drop (k + 1) places in
    take_all (length places - (k + 1)) (drop (k + 1) places) (omega (arith, all))

told : (places : List Place) (k : ℕ) (found : Option Status)
    → found ≡ place_fault (get_or places k no_place) (take k places) (take (length places - (k + 1)) (drop (k + 1) places))
    → fault_at places k ≡ found
told places k found e =
    sym (e ∙ ap (λ (l : List Place). place_fault (get_or places k no_place) (take k places) l) (behind places k))

pub loop-k-preserved : goal.loop-k-preserved
loop-k-preserved c = λ j below. step j (omega (arith, below))
  where
    step : (j : ℕ) → j ≤ c.loop-k.k → fault_at c.args.places.now j ≡ None
    step j at = elim (eq-or-lt_of_le at) [
      | inl same ↦ ap (λ (n : ℕ). fault_at c.args.places.now n) same ∙ told c.args.places.now c.loop-k.k c.fault_of.result c.fault_of.ensures.fault ∙ c.in_default.is
      | inr less ↦ c.loop-k.invariant j less
    ]

pub returns-in-Some-clause-some : goal.returns-in-Some-clause-some
returns-in-Some-clause-some c = record {
  inside = c.loop-k-test.true;
  there = told c.args.places.now c.loop-k.k c.fault_of.result c.fault_of.ensures.fault ∙ c.in-Some.is;
  before = c.loop-k.invariant;
}
