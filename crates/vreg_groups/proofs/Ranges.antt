-- Ranges of register numbers: a number in one, and two that are apart.
use Rattle.std.proofs.Common.{true, false, ℕ, zero, suc, ◌+◌, ◌<◌, ◌≡◌, arith, ap, ◌∙◌}
use Rattle.std.proofs.lemmas.Bool.Decides.{nat_tests}
use Rattle.std.specs.Prelude.{not, ◌&&◌, ◌||◌, ◌==◌, nat_le, nat_lt}
use Rattle.std.specs.List.{range_with_len}
use Rattle.vreg_groups.specs.Legality.{is_among, are_apart}

none : (x b : ℕ) → false ≡ (nat_le b x && nat_lt x (b + 0))
none x b = grind (arith, nat_tests)

one_more : (x b n : ℕ) → ((x == b) || (nat_le (b + 1) x && nat_lt x (b + 1 + n))) ≡ (nat_le b x && nat_lt x (b + suc n))
one_more x b n = grind (arith, nat_tests)

-- a range has the numbers from its first on, below its end
pub among_range : (x b n : ℕ) → is_among x (range_with_len b n) ≡ (nat_le b x && nat_lt x (b + n))
among_range x b zero = none x b
among_range x b (suc n) = ap (λ r. (x == b) || r) (among_range x (b + 1) n) ∙ one_more x b n

apart_one : (a b n : ℕ) → 0 < n → (not (nat_le b a && nat_lt a (b + n)) && true) ≡ (nat_le (a + 1) b || nat_le (b + n) a)
apart_one a b n h = grind (arith, nat_tests)

apart_more : (a m b n : ℕ) → 0 < n →
    (not (nat_le b a && nat_lt a (b + n)) && (nat_le (a + 1 + suc m) b || nat_le (b + n) (a + 1)))
    ≡ (nat_le (a + suc (suc m)) b || nat_le (b + n) a)
apart_more a m b n h = grind (arith, nat_tests)

-- two ranges are apart where one ends at or below the other's first
apart_ranges : (a m b n : ℕ) → 0 < n →
    are_apart (range_with_len a (suc m)) (range_with_len b n) ≡ (nat_le (a + suc m) b || nat_le (b + n) a)
apart_ranges a zero b n h = ap (λ r. not r && true) (among_range a b n) ∙ apart_one a b n h
apart_ranges a (suc m) b n h =
    ap (λ r. not r && are_apart (range_with_len (a + 1) (suc m)) (range_with_len b n)) (among_range a b n)
    ∙ ap (λ r. not (nat_le b a && nat_lt a (b + n)) && r) (apart_ranges (a + 1) m b n h)
    ∙ apart_more a m b n h

pub are_apart_ranges : (a m b n : ℕ) → 0 < m → 0 < n →
    are_apart (range_with_len a m) (range_with_len b n) ≡ (nat_le (a + m) b || nat_le (b + n) a)
are_apart_ranges a zero b n h k = absurd (omega arith)
are_apart_ranges a (suc m) b n h k = apart_ranges a m b n k

only_zero : (a n : ℕ) → 0 < n → (nat_le a 0 && nat_lt 0 (a + n)) ≡ (a == 0)
only_zero a n h = grind (arith, nat_tests)

-- a range has register 0 where it begins there
pub zero_in_range : (a n : ℕ) → 0 < n → is_among 0 (range_with_len a n) ≡ (a == 0)
zero_in_range a n h = among_range 0 a n ∙ only_zero a n h
