-- Where the bytes of vector loads and stores lie, as numbers: each element lies in the reach.
use Rattle.std.proofs.Common.{◌≡◌, ◌<◌, ◌≤◌, ◌+◌, ◌-◌, ◌*◌, ◌%◌, ◌^◌, ℕ, Bool, true, false, arith, refl, sym, ap, ◌∙◌, subst, lit<, length, Option, Some, None, IfSome}
use Rattle.std.specs.Prelude.{if◌then◌else◌, ◌&&◌, nat_lt, nat_le}
use Rattle.std.proofs.lemmas.Bool.Decides.{nat_tests}
use Rattle.std.proofs.Math.Nat.{add-mul, mul-add, mul-le-mul_left}
use Rattle.linear_facts.specs.declared.ranges.Range.{Range}
use Rattle.linear_facts.specs.Forms.{Linear, value, IsForm, number_form, scaled, sum_of, within}
use Rattle.linear_facts.specs.Ranges.{AgreesWith}
use Rattle.linear_facts.specs.Sums.{range_of_form}
use Rattle.linear_facts.specs.FormLemmas.{value-sum_of, value-scaled, length-sum_of, length-scaled_terms, number-IsForm, sum_of-IsForm, scaled-IsForm, within-is, within-room}
use Rattle.abs_transfer.specs.declared.accesses.Reach.{Reach}
use Rattle.abs_domain.specs.Values.{ValueView}
use Rattle.abs_domain.specs.Numbers.{NumbersView, table_of}
use Rattle.abs_domain.specs.Effects.{fitting}
use Rattle.abs_domain.specs.Described.{LiesIn, IsNumber}
use Rattle.linear_facts.specs.declared.ranges.End.TheVariants.{Lo, Hi}
use Rattle.abs_transfer.specs.Accesses.{met_with_form, sharpened, sum_form, fitting_less, unit_reach, rising_reach, falling_reach}
use Rattle.abs_domain.specs.OperationLemmas.{value_number}
use Rattle.abs_domain.specs.StateLemmas.{computed_lies, form_range_lies}

-- ---- places

-- Each of n elements of this size lies from `first` on and ends at `end` or before.
pub record LieWithin (first end size n : ℕ) (place : ℕ → ℕ) : Type 0 where
  pub low : (i : ℕ) → i < n → first ≤ place i % 2 ^ 32
  pub high : (i : ℕ) → i < n → place i % 2 ^ 32 + size ≤ end

-- a place that is not past the last address is its own residue
own_residue : (x size end : ℕ) → 0 < size → x + size ≤ end → end ≤ 2 ^ 32 → x % 2 ^ 32 ≡ x
own_residue x size end some l fits = omega arith

-- element i of n ends where the next one begins, and that is no further than where all end
next_below : (size i n : ℕ) → i < n → size * i + size ≤ size * n
next_below size i n l =
    let step : size * (i + 1) ≤ size * n = mul-le-mul_left size (omega (arith, l)) in
    omega (arith, step, mul-add size i 1)

-- elements one after another
pub row_lies : (x size n first end : ℕ) → 0 < size → first ≤ x → x + size * n ≤ end → end ≤ 2 ^ 32
    → LieWithin first end size n (λ i. x + size * i)
row_lies x size n first end some low high fits =
    let room : (i : ℕ) → i < n → x + size * i + size ≤ end = λ i l. omega (arith, next_below size i n l, high) in
    let own : (i : ℕ) → i < n → (x + size * i) % 2 ^ 32 ≡ x + size * i = λ i l. own_residue (x + size * i) size end some (room i l) fits in
    record {
      low = λ i l. omega (arith, own i l, low);
      high = λ i l. omega (arith, own i l, room i l);
    }

-- elements k bytes apart upwards
pub rising_lies : (x size k n first end : ℕ) → 0 < size → first ≤ x → x + k * n + size - k ≤ end → end ≤ 2 ^ 32
    → LieWithin first end size n (λ i. x + k * i)
rising_lies x size k n first end some low high fits =
    let room : (i : ℕ) → i < n → x + k * i + size ≤ end = λ i l. omega (arith, next_below k i n l, high) in
    let own : (i : ℕ) → i < n → (x + k * i) % 2 ^ 32 ≡ x + k * i = λ i l. own_residue (x + k * i) size end some (room i l) fits in
    record {
      low = λ i l. omega (arith, own i l, low);
      high = λ i l. omega (arith, own i l, room i l);
    }

-- what is taken away, as the number that is added modulo 2^32
taken_away : (k m i : ℕ) → k + m ≡ 2 ^ 32 → m * i + k * i ≡ 2 ^ 32 * i
taken_away k m i e = sym (add-mul m k i) ∙ ap (λ (z : ℕ). z * i) (omega (arith, e))

-- elements k bytes apart downwards, where the stride is m = 2^32 - k
pub falling_lies : (x size k m n first end : ℕ) → k + m ≡ 2 ^ 32 → x < 2 ^ 32 → k * n ≤ x + k → first ≤ x + k - k * n
    → x + size ≤ end → LieWithin first end size n (λ i. x + m * i)
falling_lies x size k m n first end e small above low high =
    let down : (i : ℕ) → i < n → k * i + k ≤ k * n = λ i l. next_below k i n l in
    let own : (i : ℕ) → i < n → (x + m * i) % 2 ^ 32 ≡ x - k * i = λ i l.
    let d = down i l in
    let t = taken_away k m i e in
    residue (k * i) (m * i) i (omega (arith, d, above)) t in
    record {
      low = λ i l. omega (arith, own i l, down i l, low, above);
      high = λ i l. omega (arith, own i l, high);
    }
  where
    residue : (p q i : ℕ) → p ≤ x → q + p ≡ 2 ^ 32 * i → (x + q) % 2 ^ 32 ≡ x - p
    residue p q i l t = omega arith

-- elements as far from x as numbers between lo and hi say
pub indexed_lies : (x lo hi size n first end : ℕ) (index : ℕ → ℕ) → 0 < size → ((i : ℕ) → i < n → lo ≤ index i)
    → ((i : ℕ) → i < n → index i ≤ hi) → first ≤ x + lo → x + hi + size ≤ end → end ≤ 2 ^ 32
    → LieWithin first end size n (λ i. x + index i)
indexed_lies x lo hi size n first end index some above below low high fits =
    let own : (i : ℕ) → i < n → (x + index i) % 2 ^ 32 ≡ x + index i = λ i l.
    own_residue (x + index i) size end some (omega (arith, below i l, high)) fits in
    record {
      low = λ i l. omega (arith, own i l, above i l, low);
      high = λ i l. omega (arith, own i l, below i l, high);
    }

-- ---- ranges of whole numbers

-- a number between two ends lies in their range, if there is one
whole_lies : (lo hi z : ℕ) → lo ≤ z → z ≤ hi → IfSome (fitting 32 lo hi) (λ r. LiesIn r z)
whole_lies lo hi z l h = by_test (nat_lt lo (2 ^ 32) && nat_lt hi (2 ^ 32)) refl
  where
    by_test : (t : Bool) → (nat_lt lo (2 ^ 32) && nat_lt hi (2 ^ 32)) ≡ t
        → IfSome (if t then Some record { lo = lo; hi = hi } else None) (λ r. LiesIn r z)
    by_test true e = (let small : hi < 2 ^ 32 = grind (arith, nat_tests) in record { low = l; high = h; fits = small })
    by_test false e = tt

-- the same less a number
less_lies : (lo hi less z : ℕ) → lo ≤ z → z ≤ hi → IfSome (fitting_less lo hi less) (λ r. LiesIn r (z - less))
unfolding fitting_less
less_lies lo hi less z l h = by_test (nat_le less lo)
  where
    by_test : (t : Bool) → IfSome (if t then fitting 32 (lo - less) (hi - less) else None) (λ r. LiesIn r (z - less))
    by_test true = whole_lies (lo - less) (hi - less) (z - less) (omega arith) (omega arith)
    by_test false = tt

-- ---- ends by the form of a sum

-- a form with the number that it means modulo 2^32
record IsSum (v : ℕ → ℕ) (f : Linear) (z : ℕ) : Type 0 where
  form : IsForm 16 f
  number : z % 2 ^ 32 ≡ value v f

add_up : (x p n : ℕ) → ((x + p % 2 ^ 32) % 2 ^ 32 + n) % 2 ^ 32 ≡ (x + p + n) % 2 ^ 32
add_up x p n = omega arith

module _ (s : NumbersView) (v : ℕ → ℕ) (agrees : AgreesWith (table_of s) v) where
  -- a whole number lies in what an interval and its form tell of it
  met_lies : (interval : Range) (o : Option Linear) (z : ℕ) → LiesIn interval z
      → ((f : Linear) → o ≡ Some f → IsForm 8 f) → ((f : Linear) → o ≡ Some f → z ≡ value v f) → LiesIn (met_with_form s interval o) z
  met_lies interval None z lies form is = lies
  met_lies interval (Some f) z lies form is =
      computed_lies z (Some interval) (range_of_form (table_of s) f) (omega (arith, lies.high, lies.fits)) lies
      (form_range_lies (table_of s) f v z agrees (form f refl) (is f refl))

  sharp_lies : (interval : Range) (f : Linear) (z : ℕ) → LiesIn interval z → IsSum v f z → LiesIn (met_with_form s interval (within 8 f)) z
  sharp_lies interval f z lies sum =
      met_lies interval (within 8 f) z lies
      (λ g e. subst (λ (h : Linear). IsForm 8 h) (sym (within-is 8 f g e)) (short g e))
      (λ g e. own ∙ ap (λ (h : Linear). value v h) (sym (within-is 8 f g e)))
    where
      short : (g : Linear) → within 8 f ≡ Some g → IsForm 8 f
      short g e = record {
        constant_fits = sum.form.constant_fits;
        rises = sum.form.rises;
        has_room = within-room 8 f g e;
      }

      own : z ≡ value v f
      own = (let fits : z % 2 ^ 32 ≡ z = omega (arith, lies.high, lies.fits) in sym fits ∙ sum.number)

  high_holds : (hi : ℕ) (interval : Option Range) (f : Linear) (z : ℕ) → z ≤ hi → IfSome interval (λ r. LiesIn r z) → IsSum v f z
      → z ≤ sharpened Hi s hi interval f
  unfolding sharpened
  high_holds hi None f z l lies sum = l
  high_holds hi (Some interval) f z l lies sum = (sharp_lies interval f z lies sum).high

  low_holds : (lo : ℕ) (interval : Option Range) (f : Linear) (z : ℕ) → lo ≤ z → IfSome interval (λ r. LiesIn r z) → IsSum v f z
      → sharpened Lo s lo interval f ≤ z
  unfolding sharpened
  low_holds lo None f z l lies sum = l
  low_holds lo (Some interval) f z l lies sum = (sharp_lies interval f z lies sum).low

  module _ (m : ℕ) (a b : ValueView) (x y : ℕ) (h : IsNumber m v a x) (j : IsNumber m v b y) where
    scaled_short : (k : ℕ) → length (scaled k b.form).terms ≤ 8
    unfolding scaled
    scaled_short k = omega (arith, length-scaled_terms k b.form.terms, j.means.form.has_room)

    sum_is : (k n z : ℕ) → n < 2 ^ 32 → z % 2 ^ 32 ≡ (x + k * y + n) % 2 ^ 32 → IsSum v (sum_form a.form k b.form n) z
    unfolding sum_form
    sum_is k n z small e =
        let product = scaled k b.form in
        let short : length product.terms ≤ 8 = scaled_short k in
        let first = sum_of a.form product in
        let long : length first.terms ≤ 16 = omega (arith, length-sum_of a.form product, short, h.means.form.has_room) in
        let first_form : IsForm 16 first = sum_of-IsForm 8 8 16 a.form product h.means.form (scaled-IsForm 8 8 k b.form j.means.form short) long in
        record {
          form = sum_of-IsForm 16 0 16 first (number_form n) first_form (number-IsForm 0 n small)
              (omega (arith, length-sum_of first (number_form n), long));
          number =
              e ∙ sym (add_up x (k * y) n)
              ∙ ap (λ (w : ℕ). ((x + w) % 2 ^ 32 + n) % 2 ^ 32) (ap (λ (w : ℕ). k * w % 2 ^ 32) j.means.number ∙ sym (value-scaled v k b.form))
              ∙ ap (λ (w : ℕ). ((w + value v product) % 2 ^ 32 + n) % 2 ^ 32) h.means.number
              ∙ ap (λ (w : ℕ). (w + n) % 2 ^ 32) (sym (value-sum_of v a.form product))
              ∙ ap (λ (w : ℕ). (value v first + w) % 2 ^ 32) (value_number v n small)
              ∙ sym (value-sum_of v first (number_form n));
        }

    above : (k : ℕ) → a.range.lo + k * b.range.lo ≤ x + k * y
    above k = (let p = mul-le-mul_left k j.lies.low in omega (arith, p, h.lies.low))

    below : (k : ℕ) → x + k * y ≤ a.range.hi + k * b.range.hi
    below k = (let p = mul-le-mul_left k j.lies.high in omega (arith, p, h.lies.high))

    -- the end of elements one after another
    pub unit_end : (size : ℕ) → x + size * y ≤ (unit_reach s size a b).end
    unfolding unit_reach
    unit_end size =
        high_holds (a.range.hi + size * b.range.hi) (fitting 32 (a.range.lo + size * b.range.lo) (a.range.hi + size * b.range.hi))
        (sum_form a.form size b.form 0) (x + size * y) (below size) (whole_lies _ _ (x + size * y) (above size) (below size))
        (sum_is size 0 (x + size * y) (lit< tt) (omega arith))

    -- the end of elements k bytes apart upwards
    pub rising_end : (size k : ℕ) → 0 < y → k < 2 ^ 32 → x + k * y + size - k ≤ (rising_reach s size k a b).end
    unfolding rising_reach
    rising_end size k some small =
        let once : k ≤ k * y = one k y some in
        high_holds (a.range.hi + k * b.range.hi + size - k)
        (fitting_less (a.range.lo + k * b.range.lo + size) (a.range.hi + k * b.range.hi + size) k)
        (sum_form a.form k b.form ((2 ^ 32 - k + size) % 2 ^ 32)) (x + k * y + size - k) (omega (arith, below k))
        (less_lies _ _ k (x + k * y + size) (omega (arith, above k)) (omega (arith, below k)))
        (sum_is k ((2 ^ 32 - k + size) % 2 ^ 32) (x + k * y + size - k) (omega arith) (same (k * y) once))
      where
        one : (k y : ℕ) → 0 < y → k ≤ k * y
        one k y some = (let p : k * 1 ≤ k * y = mul-le-mul_left k (omega (arith, some)) in omega (arith, p))

        same : (p : ℕ) → k ≤ p → (x + p + size - k) % 2 ^ 32 ≡ (x + p + (2 ^ 32 - k + size) % 2 ^ 32) % 2 ^ 32
        same p l = omega (arith, small)

    -- the first byte of elements k bytes apart downwards, and that none is below address 0
    pub falling_first : (size k m : ℕ) (r : Reach) → k < 2 ^ 32 → k + m ≡ 2 ^ 32 → falling_reach s size k a b ≡ Some r
        → (k * y ≤ x + k) × (r.first ≤ x + k - k * y) × (r.end ≡ a.range.hi + size)
    unfolding falling_reach
    falling_first size k m r small e is = by_test (nat_le (k * b.range.hi) (a.range.lo + k)) refl is
      where
        lo : ℕ
        lo = a.range.lo + k - k * b.range.hi

        first : ℕ
        first = sharpened Lo s lo (fitting 32 lo (a.range.hi + k - k * b.range.lo)) (sum_form a.form (2 ^ 32 - k) b.form k)

        by_test : (t : Bool) → nat_le (k * b.range.hi) (a.range.lo + k) ≡ t
            → (if t then Some record { first = first; end = a.range.hi + size } else None) ≡ Some r
            → (k * y ≤ x + k) × (r.first ≤ x + k - k * y) × (r.end ≡ a.range.hi + size)
        by_test false f g = cc
        by_test true f g =
            let fits : k * b.range.hi ≤ a.range.lo + k = grind (arith, nat_tests) in
            let most : k * y ≤ k * b.range.hi = mul-le-mul_left k j.lies.high in
            let least : k * b.range.lo ≤ k * y = mul-le-mul_left k j.lies.low in
            let from : lo ≤ x + k - k * y = omega (arith, fits, most, h.lies.low) in
            let to : x + k - k * y ≤ a.range.hi + k - k * b.range.lo = omega (arith, fits, most, least, h.lies.low, h.lies.high) in
            let up : k * y ≤ x + k = omega (arith, fits, most, h.lies.low) in
            let other : m ≡ 2 ^ 32 - k = omega (arith, e) in
            let sum : IsSum v (sum_form a.form (2 ^ 32 - k) b.form k) (x + k - k * y) =
            sum_is (2 ^ 32 - k) k (x + k - k * y) small (same (k * y) ((2 ^ 32 - k) * y) up
            (subst (λ (z : ℕ). z * y + k * y ≡ 2 ^ 32 * y) other (taken_away k m y e))) in
            let is_first : first ≡ r.first = ap (λ (q : Reach). q.first) (same_reach _ r g) in
            let is_end : a.range.hi + size ≡ r.end = ap (λ (q : Reach). q.end) (same_reach _ r g) in (
              up,
              subst (λ (z : ℕ). z ≤ x + k - k * y) is_first (low_holds lo (fitting 32 lo (a.range.hi + k - k * b.range.lo)) _ _ from (whole_lies lo _ _ from to) sum),
              sym is_end,
            )
          where
            same : (p q : ℕ) → p ≤ x + k → q + p ≡ 2 ^ 32 * y → (x + k - p) % 2 ^ 32 ≡ (x + q + k) % 2 ^ 32
            same p q l t = omega arith

            same_reach : (p q : Reach) → Some p ≡ Some q → p ≡ q
            same_reach p q t = cc
