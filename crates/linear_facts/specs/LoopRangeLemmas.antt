-- The ranges of the forms of a loop.
use Rattle.std.proofs.Common.{◌≡◌, ℕ, ◌+◌, ◌-◌, ◌*◌, ◌/◌, ◌%◌, ◌^◌, ◌<◌, ◌≤◌, ◌==◌, inl, inr, List, [], ◌∷◌, map, min, max, length, refl, sym, ap, ◌∙◌, subst, arith, true, false, Some, None}
use Rattle.std.specs.Prelude.{not}
use Rattle.std.proofs.lemmas.Bool.{le-leb}
use Rattle.std.proofs.lemmas.Bool.Decides.{nat_tests}
use Rattle.std.proofs.lemmas.List.Sums.{count_by-le-length}
use Rattle.linear_facts.specs.Words.{Range, WholeTerm, Interval, Side, Added, Taken}
use Rattle.linear_facts.specs.Forms.{Linear, number_form, atom_form}
use Rattle.linear_facts.specs.Differences.{WholeSum, base_of, with_product, with_products, with_multiples, is_positive, difference_of, is_at_least_of}
use Rattle.linear_facts.specs.Ranges.{AtomTable, range_at, split_at}
use Rattle.linear_facts.specs.Sums.{signed_term, with_term, with_parts, with_split, nonzero_count, shares, interval_of, met_or_own, interval_by_both, form_interval, range_within, range_of_form}
use Rattle.linear_facts.specs.RangeLemmas.{by_both-few, met-there, within-one}
use Rattle.linear_facts.specs.LoopForms.{IsSize, pointer_form, moved_form, left_form, times, IsLoop, MovedRange, LeftRange, RoundPaid, AtomRange, PointerRange, SamePaid, NumberRange}

pub by_size : (P : ℕ → Type 0) (w : ℕ) → IsSize w → P 1 → P 2 → P 4 → P w
by_size P w (inl e) one two four = subst P (sym e) one
by_size P w (inr (inl e)) one two four = subst P (sym e) two
by_size P w (inr (inr e)) one two four = subst P (sym e) four

abbrev whole : ℕ → ℕ → ℕ → WholeTerm
whole a p m = record { atom = a; plus = p; minus = m }

abbrev at_ends : ℕ → ℕ → Interval
at_ends lo hi = record { lo = lo; hi = hi }

-- ---- the range of two intervals that meet within numbers of 32 bits

one_quotient : (x y : ℕ) → 2 ^ 112 ≤ x → x ≤ y → y < 2 ^ 112 + 2 ^ 32 → x / 4294967296 ≡ y / 4294967296
one_quotient x y l le g = omega arith

rest_is : (x : ℕ) → 2 ^ 112 ≤ x → x < 2 ^ 112 + 2 ^ 32 → x % 4294967296 ≡ x - 2 ^ 112
rest_is x l g = omega arith

pub met_range : (own split : Interval) (lo hi : ℕ) → max own.lo split.lo ≡ 2 ^ 112 + lo → min own.hi split.hi ≡ 2 ^ 112 + hi → lo ≤ hi → hi < 2 ^ 32
    → range_within (met_or_own own split) ≡ Some record { lo = lo; hi = hi }
met_range own split lo hi is_lo is_hi le fits =
    ap range_within (met-there own split (omega (arith, is_lo, is_hi, le)))
    ∙ (within-one _ (one_quotient _ _ (omega (arith, is_lo)) (omega (arith, is_lo, is_hi, le)) (omega (arith, is_hi, fits)))
    ∙ (rw (rest_is (max own.lo split.lo) (omega (arith, is_lo)) (omega (arith, is_lo, le, fits)), rest_is (min own.hi split.hi) (omega (arith, is_hi)) (omega (arith, is_hi, fits)))
    (pair _ _ _ _ (omega (arith, is_lo)) (omega (arith, is_hi)))))
  where
    of : ℕ → ℕ → Range
    of a b = record { lo = a; hi = b }

    pair : (a b c d : ℕ) → a ≡ c → b ≡ d → Some (of a b) ≡ Some (of c d)
    pair a b c d e f = rw (e, f) refl

-- a form whose split terms are few
pub few_range : (table : AtomTable) (f : Linear) (own split : List WholeTerm) (lo hi : ℕ) → map signed_term f.terms ≡ own → with_split table [] own ≡ split
    → length split ≤ 8
    → max (interval_of table f.constant 0 own).lo (interval_of table f.constant 0 split).lo ≡ 2 ^ 112 + lo
    → min (interval_of table f.constant 0 own).hi (interval_of table f.constant 0 split).hi ≡ 2 ^ 112 + hi
    → lo ≤ hi → hi < 2 ^ 32 → range_of_form table f ≡ Some record { lo = lo; hi = hi }
unfolding range_of_form form_interval
few_range table f own split lo hi is_own is_split few is_lo is_hi le fits =
    ap (λ (ts : List WholeTerm). range_within (interval_by_both table f.constant ts (with_split table [] ts))) is_own
    ∙ (ap (λ (ts : List WholeTerm). range_within (interval_by_both table f.constant own ts)) is_split
    ∙ (ap range_within (by_both-few table f.constant own split (omega (arith, count, few)))
    ∙ met_range (interval_of table f.constant 0 own) (interval_of table f.constant 0 split) lo hi is_lo is_hi le fits))
  where
    count : nonzero_count split ≤ length split
    count = count_by-le-length (λ t. not (t.plus == t.minus)) split

-- the multiple of 2^32 by which the range of such a form is found
pub few_base : (table : AtomTable) (f : Linear) (own split : List WholeTerm) (lo hi : ℕ) → map signed_term f.terms ≡ own → with_split table [] own ≡ split
    → length split ≤ 8
    → max (interval_of table f.constant 0 own).lo (interval_of table f.constant 0 split).lo ≡ 2 ^ 112 + lo
    → min (interval_of table f.constant 0 own).hi (interval_of table f.constant 0 split).hi ≡ 2 ^ 112 + hi
    → lo ≤ hi → hi < 2 ^ 32 → base_of table f ≡ 2 ^ 112
unfolding base_of form_interval
few_base table f own split lo hi is_own is_split few is_lo is_hi le fits =
    ap (λ (ts : List WholeTerm). (interval_by_both table f.constant ts (with_split table [] ts)).lo / 2 ^ 32 * 2 ^ 32) is_own
    ∙ (ap (λ (ts : List WholeTerm). (interval_by_both table f.constant own ts).lo / 2 ^ 32 * 2 ^ 32) is_split
    ∙ (ap (λ (i : Interval). i.lo / 2 ^ 32 * 2 ^ 32) (by_both-few table f.constant own split (omega (arith, count, few))
    ∙ met-there (interval_of table f.constant 0 own) (interval_of table f.constant 0 split) (omega (arith, is_lo, is_hi, le)))
    ∙ (rw is_lo (floor lo (omega (arith, le, fits))))))
  where
    count : nonzero_count split ≤ length split
    count = count_by-le-length (λ t. not (t.plus == t.minus)) split

    floor : (x : ℕ) → x < 4294967296 → (2 ^ 112 + x) / 4294967296 * 4294967296 ≡ 2 ^ 112
    floor x l = omega arith

-- ---- terms put together

differ : (a b : ℕ) → a < b → (a == b) ≡ false
differ a b l = grind (arith, nat_tests)

differ_up : (a b : ℕ) → b < a → (a == b) ≡ false
differ_up a b l = grind (arith, nat_tests)

same : (a : ℕ) → (a == a) ≡ true
same a = grind (arith, nat_tests)

module _ (table : AtomTable) where
  split_step : (so_far ts : List WholeTerm) (t : WholeTerm) (us : List WholeTerm) → with_parts (split_at table t.atom) so_far t ≡ us
      → with_split table so_far (t ∷ ts) ≡ with_split table us ts
  unfolding with_split
  split_step so_far ts t us e = ap (λ (l : List WholeTerm). with_split table l ts) e

  split_end : (so_far : List WholeTerm) → with_split table so_far [] ≡ so_far
  unfolding with_split
  split_end so_far = refl

  parts_two : (a v u p m : ℕ) → split_at table a ≡ Some record { first = v; second = u } → v < u
      → with_parts (split_at table a) [] (whole a p m) ≡ whole v p m ∷ whole u p m ∷ []
  unfolding with_term
  parts_two a v u p m e l = rw (e, differ v u l) refl

  parts_new : (v u e p m : ℕ) (x y : WholeTerm) → split_at table e ≡ None → (x.atom == e) ≡ false → (y.atom == e) ≡ false
      → with_parts (split_at table e) (x ∷ y ∷ []) (whole e p m) ≡ x ∷ y ∷ whole e p m ∷ []
  unfolding with_term
  parts_new v u e p m x y none p1 p2 = rw (none, p1, p2) refl

  parts_same : (p m q o : ℕ) (v : ℕ) (x : WholeTerm) → split_at table v ≡ None
      → with_parts (split_at table v) (whole v q o ∷ x ∷ []) (whole v p m) ≡ whole v (q + p) (o + m) ∷ x ∷ []
  unfolding with_term
  parts_same p m q o v x none = rw (none, same v) refl

  parts_same_of_three : (p m q o : ℕ) (v : ℕ) (x y : WholeTerm) → split_at table v ≡ None
      → with_parts (split_at table v) (whole v q o ∷ x ∷ y ∷ []) (whole v p m) ≡ whole v (q + p) (o + m) ∷ x ∷ y ∷ []
  unfolding with_term
  parts_same_of_three p m q o v x y none = rw (none, same v) refl

-- ---- the moved pointer

ends_are : (a b c d : ℕ) → a ≡ c → b ≡ d → at_ends a b ≡ at_ends c d
ends_are a b c d e f = rw (e, f) refl

module _ (table : AtomTable) (n e v u L N M : ℕ) (is : IsLoop table n e v u L N M) where
  moved_split : (w : ℕ) → with_split table [] (whole n 0 w ∷ whole e w 0 ∷ whole v w 0 ∷ [])
      ≡ whole v (0 + w) (w + 0) ∷ whole u 0 w ∷ whole e w 0 ∷ []
  moved_split w =
      split_step table [] (whole e w 0 ∷ whole v w 0 ∷ []) (whole n 0 w) (whole v 0 w ∷ whole u 0 w ∷ []) (parts_two table n v u 0 w is.n_split is.third)
      ∙ (split_step table (whole v 0 w ∷ whole u 0 w ∷ []) (whole v w 0 ∷ []) (whole e w 0) (whole v 0 w ∷ whole u 0 w ∷ whole e w 0 ∷ [])
      (parts_new table v u e w 0 (whole v 0 w) (whole u 0 w) is.e_split (differ_up v e is.second) (differ_up u e (omega (arith, is.second, is.third))))
      ∙ (split_step table (whole v 0 w ∷ whole u 0 w ∷ whole e w 0 ∷ []) [] (whole v w 0) _ (parts_same_of_three table w 0 0 w v (whole u 0 w) (whole e w 0) is.v_split)
      ∙ split_end table _))

  moved_signed : (w : ℕ) → IsSize w → (base : ℕ) → map signed_term (moved_form base w n e v).terms ≡ whole n 0 w ∷ whole e w 0 ∷ whole v w 0 ∷ []
  unfolding signed_term
  moved_signed w size base =
      by_size (λ (k : ℕ). map signed_term (moved_form base k n e v).terms ≡ whole n 0 k ∷ whole e k 0 ∷ whole v k 0 ∷ []) w size refl refl refl

  own_ends : (w base : ℕ) → ((interval_of table base 0 (whole n 0 w ∷ whole e w 0 ∷ whole v w 0 ∷ [])).lo ≡ 2 ^ 112 + base + (w * L + w * min 1 M) - w * N)
      × ((interval_of table base 0 (whole n 0 w ∷ whole e w 0 ∷ whole v w 0 ∷ [])).hi ≡ 2 ^ 112 + base + (w * N + w * min N M) - w)
  unfolding interval_of shares
  own_ends w base =
      let a : 0 - w ≡ 0 = omega arith in
      let b : w - 0 ≡ w = omega arith in
      (rw (is.n_range, is.e_range, is.v_range, a, b) (omega arith), rw (is.n_range, is.e_range, is.v_range, a, b) (omega arith))

  split_ends : (w base : ℕ) → ((interval_of table base 0 (whole v (0 + w) (w + 0) ∷ whole u 0 w ∷ whole e w 0 ∷ [])).lo ≡ 2 ^ 112 + base + w * L - w * (N - M))
      × ((interval_of table base 0 (whole v (0 + w) (w + 0) ∷ whole u 0 w ∷ whole e w 0 ∷ [])).hi ≡ 2 ^ 112 + base + w * N - w * (1 - M))
  unfolding interval_of shares
  split_ends w base =
      let a : 0 - w ≡ 0 = omega arith in
      let b : w - 0 ≡ w = omega arith in
      let c : 0 + w - (w + 0) ≡ 0 = omega arith in
      let d : w + 0 - (0 + w) ≡ 0 = omega arith in
      (rw (is.e_range, is.u_range, a, b, c, d) (omega arith), rw (is.e_range, is.u_range, a, b, c, d) (omega arith))

  moved_at : (k base : ℕ) → IsSize k → k * N ≤ base → base + k * N < 2 ^ 32
      → max (2 ^ 112 + base + (k * L + k * min 1 M) - k * N) (2 ^ 112 + base + k * L - k * (N - M)) ≡ 2 ^ 112 + (base + k * L - k * (N - M))
      → min (2 ^ 112 + base + (k * N + k * min N M) - k) (2 ^ 112 + base + k * N - k * (1 - M)) ≡ 2 ^ 112 + (base + k * N)
      → base + k * L - k * (N - M) ≤ base + k * N
      → range_of_form table (moved_form base k n e v) ≡ Some record { lo = base + k * L - k * (N - M); hi = base + k * N }
  moved_at k base size low fits is_lo is_hi le =
      few_range table (moved_form base k n e v) _ _ (base + k * L - k * (N - M)) (base + k * N) (moved_signed k size base) (moved_split k) (omega arith)
      (rw ((own_ends k base).0, (split_ends k base).0) is_lo) (rw ((own_ends k base).1, (split_ends k base).1) is_hi) le fits

  moved_lo : (k base : ℕ) → IsSize k → k * N ≤ base
      → max (2 ^ 112 + base + (k * L + k * min 1 M) - k * N) (2 ^ 112 + base + k * L - k * (N - M)) ≡ 2 ^ 112 + (base + k * L - k * (N - M))
  moved_lo k base size low =
      by_size (λ (k : ℕ). k * N ≤ base → max (2 ^ 112 + base + (k * L + k * min 1 M) - k * N) (2 ^ 112 + base + k * L - k * (N - M)) ≡ 2 ^ 112 + (base + k * L - k * (N - M)))
      k size (λ l. omega (arith, l, is.some, is.least, is.progress)) (λ l. omega (arith, l, is.some, is.least, is.progress)) (λ l. omega (arith, l, is.some, is.least, is.progress)) low

  moved_hi : (k base : ℕ) → IsSize k
      → min (2 ^ 112 + base + (k * N + k * min N M) - k) (2 ^ 112 + base + k * N - k * (1 - M)) ≡ 2 ^ 112 + (base + k * N)
  moved_hi k base size =
      by_size (λ (k : ℕ). min (2 ^ 112 + base + (k * N + k * min N M) - k) (2 ^ 112 + base + k * N - k * (1 - M)) ≡ 2 ^ 112 + (base + k * N))
      k size (omega (arith, is.some, is.progress)) (omega (arith, is.some, is.progress)) (omega (arith, is.some, is.progress))

  moved_le : (k base : ℕ) → IsSize k → base + k * L - k * (N - M) ≤ base + k * N
  moved_le k base size =
      by_size (λ (k : ℕ). base + k * L - k * (N - M) ≤ base + k * N)
      k size (omega (arith, is.least)) (omega (arith, is.least)) (omega (arith, is.least))

  -- ---- what is left

  left_signed : map signed_term (left_form n v).terms ≡ whole n 1 0 ∷ whole v 0 1 ∷ []
  unfolding signed_term
  left_signed = refl

  left_split : with_split table [] (whole n 1 0 ∷ whole v 0 1 ∷ []) ≡ whole v 1 1 ∷ whole u 1 0 ∷ []
  left_split =
      split_step table [] (whole v 0 1 ∷ []) (whole n 1 0) (whole v 1 0 ∷ whole u 1 0 ∷ []) (parts_two table n v u 1 0 is.n_split is.third)
      ∙ (split_step table (whole v 1 0 ∷ whole u 1 0 ∷ []) [] (whole v 0 1) _ (parts_same table 0 1 1 0 v (whole u 1 0) is.v_split)
      ∙ split_end table _)

  left_own : interval_of table 0 0 (whole n 1 0 ∷ whole v 0 1 ∷ []) ≡ record { lo = 2 ^ 112 + 1 - min N M; hi = 2 ^ 112 + N - min 1 M }
  unfolding interval_of shares
  left_own = rw (is.n_range, is.v_range) (ends_are _ _ _ _ (omega arith) (omega arith))

  left_parts : interval_of table 0 0 (whole v 1 1 ∷ whole u 1 0 ∷ []) ≡ record { lo = 2 ^ 112 + (1 - M); hi = 2 ^ 112 + (N - M) }
  unfolding interval_of shares
  left_parts = rw (is.v_range, is.u_range) (ends_are _ _ _ _ (omega arith) (omega arith))

pub moved-range : MovedRange
moved-range table base w n e v u L N M is size low fits =
    moved_at table n e v u L N M is w base size low fits
    (moved_lo table n e v u L N M is w base size low) (moved_hi table n e v u L N M is w base size) (moved_le table n e v u L N M is w base size)

pub left-range : LeftRange
left-range table n e v u L N M is fits =
    few_range table (left_form n v) _ _ 0 (N - M) (left_signed table n e v u L N M is) (left_split table n e v u L N M is) (omega arith)
    (rw (left_own table n e v u L N M is, left_parts table n e v u L N M is) (omega (arith, is.some, is.progress)))
    (rw (left_own table n e v u L N M is, left_parts table n e v u L N M is) (omega (arith, is.some, is.progress)))
    (omega arith) (omega (arith, fits))

-- ---- numbers

pub number-range : NumberRange
unfolding interval_of shares
number-range table c fits =
    few_range table (number_form c) [] [] c c refl (split_end table []) (omega arith) (omega arith) (omega arith) (omega arith) fits

abbrev sum_by : ℕ → ℕ → List WholeTerm → WholeSum
sum_by p m ts = record { plus = p; minus = m; terms = ts }

sums_are : (a b c d : ℕ) (us : List WholeTerm) → a ≡ c → b ≡ d → sum_by a b us ≡ sum_by c d us
sums_are a b c d us e f = rw (e, f) refl

-- no times anything changes nothing
no_product : (table : AtomTable) (side : Side) (sum : WholeSum)
    → with_product table side sum record { factor = 0; form = number_form 0 } ≡ sum
unfolding with_product with_multiples
no_product table Added sum = sums_are _ _ _ _ _ (omega arith) (omega arith)
no_product table Taken sum = sums_are _ _ _ _ _ (omega arith) (omega arith)

-- the coefficient of an atom that is added k times and taken away k times is 0
level : (k : ℕ) → (k * 1 + k * 0 - (k * 0 + k * 1) ≡ 0) × (k * 0 + k * 1 - (k * 1 + k * 0) ≡ 0)
level k = (omega arith, omega arith)

-- ---- the count

module _ (table : AtomTable) (n e v u L N M : ℕ) (is : IsLoop table n e v u L N M) where
  count_signed : map signed_term (atom_form n).terms ≡ whole n 1 0 ∷ []
  unfolding signed_term
  count_signed = refl

  count_split : with_split table [] (whole n 1 0 ∷ []) ≡ whole v 1 0 ∷ whole u 1 0 ∷ []
  count_split =
      split_step table [] [] (whole n 1 0) (whole v 1 0 ∷ whole u 1 0 ∷ []) (parts_two table n v u 1 0 is.n_split is.third) ∙ split_end table _

  count_own : interval_of table 0 0 (whole n 1 0 ∷ []) ≡ at_ends (2 ^ 112 + 1) (2 ^ 112 + N)
  unfolding interval_of shares
  count_own = rw is.n_range (ends_are _ _ _ _ (omega arith) (omega arith))

  count_parts : interval_of table 0 0 (whole v 1 0 ∷ whole u 1 0 ∷ []) ≡ at_ends (2 ^ 112 + min 1 M + (1 - M)) (2 ^ 112 + min N M + (N - M))
  unfolding interval_of shares
  count_parts = rw (is.v_range, is.u_range) (ends_are _ _ _ _ (omega arith) (omega arith))

  pub count_range : N < 2 ^ 32 → range_of_form table (atom_form n) ≡ Some record { lo = 1; hi = N }
  count_range fits =
      few_range table (atom_form n) _ _ 1 N count_signed count_split (omega arith)
      (rw (count_own, count_parts) (omega (arith, is.progress))) (rw (count_own, count_parts) (omega (arith, is.progress))) is.some fits

  count_base : N < 2 ^ 32 → base_of table (atom_form n) ≡ 2 ^ 112
  count_base fits =
      few_base table (atom_form n) _ _ 1 N count_signed count_split (omega arith)
      (rw (count_own, count_parts) (omega (arith, is.progress))) (rw (count_own, count_parts) (omega (arith, is.progress))) is.some fits

  left_base : N < 2 ^ 32 → base_of table (left_form n v) ≡ 2 ^ 112
  left_base fits =
      few_base table (left_form n v) _ _ 0 (N - M) (left_signed table n e v u L N M is) (left_split table n e v u L N M is) (omega arith)
      (rw (left_own table n e v u L N M is, left_parts table n e v u L N M is) (omega (arith, is.some, is.progress)))
      (rw (left_own table n e v u L N M is, left_parts table n e v u L N M is) (omega (arith, is.some, is.progress)))
      (omega arith) (omega (arith, fits))

  module _ (k : ℕ) (fits : N < 2 ^ 32) where
    added : WholeSum
    added = record { plus = 1 + k * 0; minus = k + 1 + k * 0; terms = whole n (k * 1) (k * 0) ∷ [] }

    paid : WholeSum
    paid = record { plus = 1 + k * 0 + k * 0; minus = k + 1 + k * 0 + k * 0; terms = whole n (k * 1 + k * 0) (k * 0 + k * 1) ∷ whole v (k * 1) (k * 0) ∷ [] }

    add_count : with_product table Added record { plus = 1; minus = k + 1; terms = [] } record { factor = k; form = atom_form n } ≡ added
    unfolding with_product with_multiples with_term signed_term added
    add_count = rw (count_base fits) refl

    take_left : with_product table Taken added record { factor = k; form = left_form n v } ≡ paid
    unfolding with_product with_multiples with_term signed_term added paid
    take_left = rw (left_base fits, same n, differ n v (omega (arith, is.first, is.second))) refl

    difference_is : difference_of table 1 (times k (atom_form n)) (k + 1) (times k (left_form n v)) ≡ paid
    unfolding difference_of with_products added paid
    difference_is = rw (add_count, no_product table Added added, take_left, no_product table Taken paid) refl

    positive : is_positive table paid ≡ true
    unfolding is_positive paid shares
    positive =
        let c : k * 1 - k * 0 ≡ k = omega arith in
        let d : k * 0 - k * 1 ≡ 0 = omega arith in
        rw ((level k).0, (level k).1, c, d, is.v_range) (le-leb _ _ (omega (arith, one)))
      where
        one_is : min 1 M ≡ 1
        one_is = omega (arith, is.progress)

        one : k * min 1 M ≡ k
        one = rw one_is (omega arith)

pub round-paid : RoundPaid
unfolding is_at_least_of
round-paid table n e v u L N M k is fits =
    rw (count_range table n e v u L N M is fits, number-range table 0 (omega arith), left-range table n e v u L N M is fits, difference_is table n e v u L N M is k fits)
    (positive table n e v u L N M is k fits)

-- ---- atoms that are not split

module _ (table : AtomTable) (a lo hi : ℕ) (is_range : range_at table a ≡ record { lo = lo; hi = hi }) (none : split_at table a ≡ None)
    (le : lo ≤ hi) (fits : hi < 2 ^ 32) where
  alone_signed : map signed_term (atom_form a).terms ≡ whole a 1 0 ∷ []
  unfolding signed_term
  alone_signed = refl

  alone_parts : with_parts (split_at table a) [] (whole a 1 0) ≡ whole a 1 0 ∷ []
  unfolding with_term
  alone_parts = rw none refl

  alone_split : with_split table [] (whole a 1 0 ∷ []) ≡ whole a 1 0 ∷ []
  alone_split = split_step table [] [] (whole a 1 0) (whole a 1 0 ∷ []) alone_parts ∙ split_end table _

  alone_ends : interval_of table 0 0 (whole a 1 0 ∷ []) ≡ at_ends (2 ^ 112 + lo) (2 ^ 112 + hi)
  unfolding interval_of shares
  alone_ends = rw is_range (ends_are _ _ _ _ (omega arith) (omega arith))

  pub alone_range : range_of_form table (atom_form a) ≡ Some record { lo = lo; hi = hi }
  alone_range = few_range table (atom_form a) _ _ lo hi alone_signed alone_split (omega arith) (rw alone_ends (omega arith)) (rw alone_ends (omega arith)) le fits

  module _ (c k : ℕ) where
    first_sum : WholeSum
    first_sum = record {
      plus = c + k * (0 + (2 ^ 112 - base_of table (atom_form a)));
      minus = c + k * (base_of table (atom_form a) - 2 ^ 112);
      terms = whole a (k * 1) (k * 0) ∷ [];
    }

    second_sum : WholeSum
    second_sum = record {
      plus = c + k * (0 + (2 ^ 112 - base_of table (atom_form a))) + k * (base_of table (atom_form a) - 2 ^ 112);
      minus = c + k * (base_of table (atom_form a) - 2 ^ 112) + k * (0 + (2 ^ 112 - base_of table (atom_form a)));
      terms = whole a (k * 1 + k * 0) (k * 0 + k * 1) ∷ [];
    }

    add_first : with_product table Added record { plus = c; minus = c; terms = [] } record { factor = k; form = atom_form a } ≡ first_sum
    unfolding with_product with_multiples with_term signed_term first_sum
    add_first = refl

    take_second : with_product table Taken first_sum record { factor = k; form = atom_form a } ≡ second_sum
    unfolding with_product with_multiples with_term signed_term first_sum second_sum
    take_second = rw (same a) refl

    both_are : difference_of table c (times k (atom_form a)) c (times k (atom_form a)) ≡ second_sum
    unfolding difference_of with_products first_sum second_sum
    both_are = rw (add_first, no_product table Added first_sum, take_second, no_product table Taken second_sum) refl

    not_less : is_positive table second_sum ≡ true
    unfolding is_positive second_sum shares
    not_less = rw ((level k).0, (level k).1) (le-leb _ _ (omega arith))

pub atom-range : AtomRange
atom-range table a lo hi is_range none le fits = alone_range table a lo hi is_range none le fits

pub same-paid : SamePaid
unfolding is_at_least_of
same-paid table a lo hi c k is_range none le fits =
    rw (alone_range table a lo hi is_range none le fits, number-range table 0 (omega arith), both_are table a lo hi is_range none le fits c k) (not_less table a lo hi is_range none le fits c k)

-- ---- a pointer where the loop begins

module _ (table : AtomTable) (n e L N : ℕ) (l : n < e) (n_range : range_at table n ≡ record { lo = 1; hi = N })
    (e_range : range_at table e ≡ record { lo = L; hi = N }) (n_none : split_at table n ≡ None) (e_none : split_at table e ≡ None)
    (some : 1 ≤ N) (least : L ≤ N) where
  two_signed : (w base : ℕ) → IsSize w → map signed_term (pointer_form base w n e).terms ≡ whole n 0 w ∷ whole e w 0 ∷ []
  unfolding signed_term
  two_signed w base size = by_size (λ (k : ℕ). map signed_term (pointer_form base k n e).terms ≡ whole n 0 k ∷ whole e k 0 ∷ []) w size refl refl refl

  first_parts : (w : ℕ) → with_parts (split_at table n) [] (whole n 0 w) ≡ whole n 0 w ∷ []
  unfolding with_term
  first_parts w = rw n_none refl

  second_parts : (w : ℕ) → with_parts (split_at table e) (whole n 0 w ∷ []) (whole e w 0) ≡ whole n 0 w ∷ whole e w 0 ∷ []
  unfolding with_term
  second_parts w = rw (e_none, differ n e l) refl

  two_split : (w : ℕ) → with_split table [] (whole n 0 w ∷ whole e w 0 ∷ []) ≡ whole n 0 w ∷ whole e w 0 ∷ []
  two_split w =
      split_step table [] (whole e w 0 ∷ []) (whole n 0 w) (whole n 0 w ∷ []) (first_parts w)
      ∙ (split_step table (whole n 0 w ∷ []) [] (whole e w 0) (whole n 0 w ∷ whole e w 0 ∷ []) (second_parts w) ∙ split_end table _)

  two_ends : (w base : ℕ) → interval_of table base 0 (whole n 0 w ∷ whole e w 0 ∷ []) ≡ at_ends (2 ^ 112 + base + w * L - w * N) (2 ^ 112 + base + w * N - w)
  unfolding interval_of shares
  two_ends w base =
      let a : 0 - w ≡ 0 = omega arith in
      let b : w - 0 ≡ w = omega arith in
      rw (n_range, e_range, a, b) (ends_are _ _ _ _ (omega arith) (omega arith))

  two_range : (w base : ℕ) → IsSize w → w * N ≤ base → base + w * N < 2 ^ 32 → w * L ≤ w * N → w ≤ w * N
      → range_of_form table (pointer_form base w n e) ≡ Some record { lo = base + w * L - w * N; hi = base + w * N - w }
  two_range w base size low fits p q =
      few_range table (pointer_form base w n e) _ _ _ _ (two_signed w base size) (two_split w) (omega arith)
      (rw (two_ends w base) (omega (arith, low))) (rw (two_ends w base) (omega (arith, q))) (omega (arith, p, q, low)) (omega (arith, fits))

pub pointer-range : PointerRange
pointer-range table base w n e L N l n_range e_range n_none e_none some least size low fits =
    two_range table n e L N l n_range e_range n_none e_none some least w base size low fits
    (by_size (λ (k : ℕ). k * L ≤ k * N) w size (omega (arith, least)) (omega (arith, least)) (omega (arith, least)))
    (by_size (λ (k : ℕ). k ≤ k * N) w size (omega (arith, some)) (omega (arith, some)) (omega (arith, some)))
