-- What a total lacks is how much more makes it pay.
use Rattle.std.proofs.Common.{◌≡◌, ◌∙◌, refl, ap, sym, Bool, true, false, ◌&&◌, ℕ, ◌+◌, ◌-◌, ◌≤◌, ◌<◌, nat_le, min, List, [], ◌∷◌, length, if◌then◌else◌, arith}
use Rattle.linear_facts.specs.Ranges.{AtomTable}
use Rattle.linear_facts.specs.Differences.{Product, WholeSum, with_product, with_products, difference_of, is_positive, is_at_least_of, have_ranges}
use Rattle.check_reasons.specs.Gaps.{least_more, short_of}

-- a sum that is larger by k
abbrev larger : ℕ → WholeSum → WholeSum
larger k sum = record sum { plus = sum.plus + k }

plus_last : (own k a b c d : ℕ) → ((((own + k) + a) + b) + c) + d ≡ ((((own + a) + b) + c) + d) + k
plus_last own k a b c d = grind (arith)

larger_difference : (table : AtomTable) (own k : ℕ) (a b : Product) (next : ℕ) (c d : Product)
    → difference_of table (own + k) (a ∷ b ∷ []) next (c ∷ d ∷ []) ≡ larger k (difference_of table own (a ∷ b ∷ []) next (c ∷ d ∷ []))
unfolding difference_of with_products with_product
larger_difference table own k a b next c d =
    ap (λ (n : ℕ). record (difference_of table own (a ∷ b ∷ []) next (c ∷ d ∷ [])) { plus = n }) (plus_last own k _ _ _ _)

short_enough : (a b c k : ℕ) → nat_le a ((b + k) + c) ≡ nat_le (a - (b + c)) k
short_enough a b c k = grind (arith)

positive_where : (table : AtomTable) (k : ℕ) (s : WholeSum) → is_positive table (larger k s) ≡ nat_le (short_of table s) k
unfolding is_positive short_of
positive_where table k s = short_enough _ s.plus _ k

at_least_where : (table : AtomTable) (own k : ℕ) (a b : Product) (next : ℕ) (c d : Product)
    → is_at_least_of table (own + k) (a ∷ b ∷ []) next (c ∷ d ∷ [])
    ≡ ((have_ranges table (a ∷ b ∷ []) && have_ranges table (c ∷ d ∷ [])) && nat_le (short_of table (difference_of table own (a ∷ b ∷ []) next (c ∷ d ∷ []))) k)
unfolding is_at_least_of
at_least_where table own k a b next c d = go (have_ranges table (a ∷ b ∷ [])) (have_ranges table (c ∷ d ∷ []))
  where
    is : is_positive table (difference_of table (own + k) (a ∷ b ∷ []) next (c ∷ d ∷ []))
        ≡ nat_le (short_of table (difference_of table own (a ∷ b ∷ []) next (c ∷ d ∷ []))) k
    is = ap (is_positive table) (larger_difference table own k a b next c d)
        ∙ positive_where table k (difference_of table own (a ∷ b ∷ []) next (c ∷ d ∷ []))

    go : (x y : Bool) → (x && y && is_positive table (difference_of table (own + k) (a ∷ b ∷ []) next (c ∷ d ∷ [])))
        ≡ ((x && y) && nat_le (short_of table (difference_of table own (a ∷ b ∷ []) next (c ∷ d ∷ []))) k)
    go true true = is
    go true false = refl
    go false y = refl

least_enough : (h : Bool) (short k most : ℕ) → (h && nat_le short k) ≡ true → k ≤ most → (if h then min most short else most) ≤ k
least_enough true short k most is few = grind (arith)
least_enough false short k most is few = cc

least_above : (h : Bool) (short k most : ℕ) → (h && nat_le short k) ≡ false → k < most → k < (if h then min most short else most)
least_above true short k most is few = grind (arith)
least_above false short k most is few = few

pub enough : (table : AtomTable) (own k : ℕ) (ms : List Product) (next : ℕ) (ls : List Product) (most : ℕ)
    → length ms ≡ 2 → length ls ≡ 2 → is_at_least_of table (own + k) ms next ls ≡ true → k ≤ most → least_more table own ms next ls most ≤ k
unfolding least_more
enough table own k (a ∷ b ∷ []) next (c ∷ d ∷ []) most two two_more is few =
    least_enough (have_ranges table (a ∷ b ∷ []) && have_ranges table (c ∷ d ∷ [])) (short_of table (difference_of table own (a ∷ b ∷ []) next (c ∷ d ∷ []))) k most
    (sym (at_least_where table own k a b next c d) ∙ is) few
enough table own k ms next ls most two two_more is few = cc

pub above : (table : AtomTable) (own k : ℕ) (ms : List Product) (next : ℕ) (ls : List Product) (most : ℕ)
    → length ms ≡ 2 → length ls ≡ 2 → is_at_least_of table (own + k) ms next ls ≡ false → k < most → k < least_more table own ms next ls most
unfolding least_more
above table own k (a ∷ b ∷ []) next (c ∷ d ∷ []) most two two_more is few =
    least_above (have_ranges table (a ∷ b ∷ []) && have_ranges table (c ∷ d ∷ [])) (short_of table (difference_of table own (a ∷ b ∷ []) next (c ∷ d ∷ []))) k most
    (sym (at_least_where table own k a b next c d) ∙ is) few
above table own k ms next ls most two two_more is few = cc
