-- Tests of the first n.
use Rattle.std.proofs.Common.{◌≡◌, ◌+◌, ◌<◌, ◌≤◌, ℕ, zero, suc, Bool, true, false, ◌&&◌, refl, add-one, arith, inl, inr}
use Rattle.std.proofs.Math.Nat.{eq-or-lt_of_le}
use Rattle.monitor.specs.Views.{all_first}

pub all_none : (test : ℕ → Bool) → all_first test 0 ≡ true
unfolding all_first
all_none test = refl

pub all_more : (test : ℕ → Bool) (i : ℕ) → all_first test i ≡ true → test i ≡ true → all_first test (i + 1) ≡ true
unfolding all_first
all_more test i before here = rw (add-one i, before, here) refl

pub all_all : (test : ℕ → Bool) (i n : ℕ) → i ≡ n → all_first test i ≡ true → all_first test n ≡ true
all_all test i n same all = rw (← same) all

both_false : (b : Bool) → (b && false) ≡ false
both_false true = refl
both_false false = refl

pub all_fails : (test : ℕ → Bool) (i n : ℕ) → i < n → test i ≡ false → all_first test n ≡ false
unfolding all_first
all_fails test i zero below fails = absurd (omega (arith, below))
all_fails test i (suc n) below fails =
    let within : i ≤ n = omega (arith, below) in
    elim (eq-or-lt_of_le {n = i} {m = n} within) as (λ _. (all_first test n && test n) ≡ false) [
      | inl equal ↦ rw (← equal, fails) (both_false (all_first test i))
      | inr less ↦ rw (all_fails test i n less fails) refl
    ]
