-- Differences of multiples of forms: their steps, and why their lower bounds hold.
use Rattle.std.proofs.Common.{◌≡◌, ℕ, ◌+◌, ◌-◌, ◌*◌, ◌/◌, ◌%◌, ◌^◌, ◌<◌, ◌≤◌, inl, inr, List, [], ◌∷◌, ◌++◌, map, length, take, drop, get_or, refl, ap, sym, ◌∙◌, subst, arith, true, false, ◌&&◌, is_some}
use Rattle.std.proofs.lemmas.Bool.{and_parts, cases_eq, leb-true}
use Rattle.std.proofs.lemmas.List.{drop_more, drop_all, length-map, take_all}
use Rattle.std.proofs.lemmas.Grind.{take_at_read}
use Rattle.std.specs.Prelude.{nat_le}
use Rattle.linear_facts.specs.Words.{Term, WholeTerm, Interval, Side, Lo, Hi, Added, Taken}
use Rattle.linear_facts.specs.Forms.{Linear, IsForm, value}
use Rattle.linear_facts.specs.Ranges.{AtomTable, AgreesWith}
use Rattle.linear_facts.specs.Sums.{with_term, signed_term, joined, ends, gains, losses, interval_of, with_split, form_interval, range_within, range_of_form}
use Rattle.linear_facts.specs.Differences.{Product, WholeSum, multiple_term, with_number, with_multiples, base_of, with_product, with_products, AreForms, have_ranges, total_of, is_positive, difference_of, sum_interval, once, is_not_less_of, OrdersHold}
use Rattle.linear_facts.specs.SumLemmas.{signed_at_most}
use Rattle.linear_facts.specs.RangeLemmas.{sum_at, sum_over, sum_over-nil, sum_over-with_term, gain_part, loss_part, gain_joins, loss_joins, net-sums, shares-le, shares-bound, at_least, at_most, form-encloses, sum_at-value, within-none, Encloses, gain-with_split, loss-with_split, met-encloses}

pub multiples-more : (side : Side) (k : ℕ) (so_far ts : List WholeTerm) (i : ℕ) (d : WholeTerm) → i < length ts
    → with_multiples side k so_far (drop i ts)
    ≡ with_multiples side k (with_term so_far (multiple_term side k (get_or ts i d))) (drop (i + 1) ts)
unfolding with_multiples
multiples-more side k so_far ts i d inside = ap (λ l. with_multiples side k so_far l) (drop_more ts i d inside)

pub multiples-done : (side : Side) (k : ℕ) (so_far ts : List WholeTerm) (i : ℕ) → length ts ≤ i
    → with_multiples side k so_far (drop i ts) ≡ so_far
unfolding with_multiples
multiples-done side k so_far ts i done = ap (λ l. with_multiples side k so_far l) (drop_all i ts done)

pub products-more : (table : AtomTable) (side : Side) (sum : WholeSum) (ms : List Product) (i : ℕ) (d : Product) → i < length ms
    → with_products table side sum (drop i ms)
    ≡ with_products table side (with_product table side sum (get_or ms i d)) (drop (i + 1) ms)
unfolding with_products
products-more table side sum ms i d inside = ap (λ l. with_products table side sum l) (drop_more ms i d inside)

pub products-done : (table : AtomTable) (side : Side) (sum : WholeSum) (ms : List Product) (i : ℕ) → length ms ≤ i
    → with_products table side sum (drop i ms) ≡ sum
unfolding with_products
products-done table side sum ms i done = ap (λ l. with_products table side sum l) (drop_all i ms done)

-- one more product is of a form
AreForms-append : (xs ys : List Product) → AreForms xs → AreForms ys → AreForms (xs ++ ys)
AreForms-append [] ys h k = k
AreForms-append (x ∷ xs) ys h k = (h.0, AreForms-append xs ys h.1 k)

pub AreForms-more : (ms : List Product) (i : ℕ) (d m : Product) → i < length ms → m ≡ get_or ms i m
    → AreForms (take i ms) → IsForm 8 m.form → AreForms (take (i + 1) ms)
AreForms-more ms i d m inside is h k =
    subst (λ (l : List Product). AreForms l) (sym (take_at_read ms i m inside).1)
    (AreForms-append (take i ms) (get_or ms i m ∷ []) h (subst (λ (p : Product). IsForm 8 p.form) is k, tt))

pub AreForms-all : (ms : List Product) (i : ℕ) → length ms ≤ i → AreForms (take i ms) → AreForms ms
AreForms-all ms i done h = subst (λ (l : List Product). AreForms l) (take_all i ms done) h

-- the sum with a product, by its parts
module _ (table : AtomTable) (side : Side) (k a : ℕ) (xs : List Term) (f : Linear) (m : Product)
    (is_f : record { constant = a; terms = xs } ≡ f) (is_m : record { factor = k; form = f } ≡ m) where
  pub product-parts : (p q : ℕ) (ts us : List WholeTerm) (sum : WholeSum) (base c plus minus : ℕ) (signed slice : List WholeTerm)
      → record { plus = p; minus = q; terms = ts } ≡ sum → base ≡ base_of table f → c ≡ a
      → plus ≡ 2 ^ 112 - base → minus ≡ base - 2 ^ 112 → signed ≡ map signed_term xs → slice ≡ signed
      → us ≡ with_multiples side k ts slice
      → with_number side k (c + plus) minus record { plus = p; minus = q; terms = us } ≡ with_product table side sum m
  unfolding with_product
  product-parts p q ts us sum base c plus minus signed slice is_sum is_base is_c is_plus is_minus is_signed is_slice is_us =
      cc (
        ap (λ (n : Product). n.factor) is_m,
        ap (λ (n : Product). n.form) is_m,
        ap (λ (g : Linear). g.constant) is_f,
        ap (λ (g : Linear). g.terms) is_f,
        ap (λ (s : WholeSum). s.plus) is_sum,
        ap (λ (s : WholeSum). s.minus) is_sum,
        ap (λ (s : WholeSum). s.terms) is_sum,
      )

-- a number changes no term
pub terms_kept : (side : Side) (k plus minus : ℕ) (sum : WholeSum) → (with_number side k plus minus sum).terms ≡ sum.terms
terms_kept Added k plus minus sum = refl
terms_kept Taken k plus minus sum = refl

-- what is added to and taken from a sum, where atom a is the number v a
abbrev up : (ℕ → ℕ) → WholeSum → ℕ
up v s = s.plus + sum_over (gain_part v) s.terms

abbrev down : (ℕ → ℕ) → WholeSum → ℕ
down v s = s.minus + sum_over (loss_part v) s.terms

-- k times each term
module _ (f h : WholeTerm → ℕ) (joins : (u t : WholeTerm) → u.atom ≡ t.atom → f (joined u t) ≡ f u + f t)
    (side : Side) (k : ℕ) (times : (t : WholeTerm) → f (multiple_term side k t) ≡ k * h t) where
  sum_over-with_multiples : (so_far ts : List WholeTerm)
      → sum_over f (with_multiples side k so_far ts) ≡ sum_over f so_far + k * sum_over h ts
  unfolding with_multiples sum_over
  sum_over-with_multiples so_far [] = omega arith
  sum_over-with_multiples so_far (t ∷ ts) =
      omega (
        arith,
        sum_over-with_multiples (with_term so_far (multiple_term side k t)) ts,
        sum_over-with_term f joins so_far (multiple_term side k t),
        times t,
      )

-- what counts where a product is added, or where it is taken away
abbrev by_side : {A : Type 0} → Side → A → A → A
by_side Added x y = x
by_side Taken x y = y

module _ (v : ℕ → ℕ) (k : ℕ) (so_far ts : List WholeTerm) where
  gains-with_multiples : (side : Side) → sum_over (gain_part v) (with_multiples side k so_far ts)
      ≡ sum_over (gain_part v) so_far + k * by_side side (sum_over (gain_part v) ts) (sum_over (loss_part v) ts)
  gains-with_multiples Added = sum_over-with_multiples (gain_part v) (gain_part v) (gain_joins v) Added k (λ t. omega arith) so_far ts
  gains-with_multiples Taken = sum_over-with_multiples (gain_part v) (loss_part v) (gain_joins v) Taken k (λ t. omega arith) so_far ts

  losses-with_multiples : (side : Side) → sum_over (loss_part v) (with_multiples side k so_far ts)
      ≡ sum_over (loss_part v) so_far + k * by_side side (sum_over (loss_part v) ts) (sum_over (gain_part v) ts)
  losses-with_multiples Added = sum_over-with_multiples (loss_part v) (loss_part v) (loss_joins v) Added k (λ t. omega arith) so_far ts
  losses-with_multiples Taken = sum_over-with_multiples (loss_part v) (gain_part v) (loss_joins v) Taken k (λ t. omega arith) so_far ts

-- a number is the multiple of 2^32 below it and its rest
quotient : (lo n hi : ℕ) → lo ≤ n → n ≤ hi → lo / 4294967296 ≡ hi / 4294967296 → lo / 4294967296 * 4294967296 + n % 4294967296 ≡ n
quotient lo n hi le le' e = omega arith

-- an interval with a range has one multiple of 2^32
one_multiple : (i : Interval) → is_some (range_within i) ≡ true → i.lo / 2 ^ 32 ≡ i.hi / 2 ^ 32
one_multiple i there =
    elim (cases_eq (i.lo / 2 ^ 32) (i.hi / 2 ^ 32)) [
      | inl one ↦ one
      | inr other ↦ absurd (nothing (sym (ap is_some (within-none i other)) ∙ there))
    ]
  where
    nothing : false ≡ true → ⊥
    nothing e = cc

has_range : (table : AtomTable) (f : Linear) → is_some (range_of_form table f) ≡ true → is_some (range_within (form_interval table f)) ≡ true
unfolding range_of_form
has_range table f there = there

module _ (table : AtomTable) (v : ℕ → ℕ) (agrees : AgreesWith table v) where
  -- a form's value is its sum less the multiple of 2^32 by which its range was found
  value_parts : (f : Linear) → IsForm 8 f → is_some (range_of_form table f) ≡ true
      → f.constant + (2 ^ 112 - base_of table f) + sum_over (gain_part v) (map signed_term f.terms)
      ≡ base_of table f - 2 ^ 112 + sum_over (loss_part v) (map signed_term f.terms) + value v f
  unfolding base_of
  value_parts f is_form there =
      let ts = map signed_term f.terms in
      let inside = form-encloses table v agrees f in
      let whole = quotient (form_interval table f).lo (sum_at v f.constant ts) (form_interval table f).hi inside.0 inside.1
      (one_multiple (form_interval table f) (has_range table f there)) in
      omega (
        arith,
        whole,
        sum_at-value v f agrees.fits is_form.rises is_form.has_room,
        net-sums v ts,
        shares-bound Taken v ts agrees.fits (signed_at_most f.terms),
        length-map f.terms signed_term,
        is_form.has_room,
      )

  -- a sum with n added or taken away, in place of another one
  abbrev Moves : Side → WholeSum → ℕ → WholeSum → Type 0
  Moves side sum n other = up v other + down v sum + by_side side 0 n ≡ up v sum + down v other + by_side side n 0

  product-moves : (side : Side) (sum : WholeSum) (m : Product) → IsForm 8 m.form → is_some (range_of_form table m.form) ≡ true
      → Moves side sum (m.factor * value v m.form) (with_product table side sum m)
  unfolding with_product
  product-moves side sum m is_form there =
      let ts = map signed_term m.form.terms in
      let value_at = ap (λ n. m.factor * n) (value_parts m.form is_form there) in
      let gains_at = gains-with_multiples v m.factor sum.terms ts in
      let losses_at = losses-with_multiples v m.factor sum.terms ts in
      elim side as (λ s. Moves s sum (m.factor * value v m.form) (with_product table s sum m)) [
        | Added ↦ omega (arith, value_at, gains_at Added, losses_at Added)
        | Taken ↦ omega (arith, value_at, gains_at Taken, losses_at Taken)
      ]

  products-move : (side : Side) (sum : WholeSum) (ms : List Product) → AreForms ms → have_ranges table ms ≡ true
      → Moves side sum (total_of v ms) (with_products table side sum ms)
  unfolding with_products
  products-move Added sum [] forms there = omega arith
  products-move Taken sum [] forms there = omega arith
  products-move side sum (m ∷ ms) forms there =
      let tests = and_parts _ _ there in
      both side _ _ _ _ _ (product-moves side sum m forms.0 tests.0) (products-move side (with_product table side sum m) ms forms.1 tests.1)
    where
      both : (side : Side) (s t u : WholeSum) (n k : ℕ) → Moves side s n t → Moves side t k u → Moves side s (n + k) u
      both Added s t u n k h h' = omega arith
      both Taken s t u n k h h' = omega arith

  positive-holds : (sum : WholeSum) → is_positive table sum ≡ true → down v sum ≤ up v sum
  unfolding is_positive
  positive-holds sum e =
      omega (
        arith,
        leb-true _ _ e,
        net-sums v sum.terms,
        shares-le Added (ends table Lo) v (at_least table v agrees) sum.terms,
        shares-le Taken v (ends table Hi) (at_most table v agrees) sum.terms,
      )

  -- a difference whose lower bound is at least 0 is not negative
  pub difference-holds : (more less : ℕ) (ms ls : List Product) → AreForms ms → AreForms ls
      → have_ranges table ms ≡ true → have_ranges table ls ≡ true → is_positive table (difference_of table more ms less ls) ≡ true
      → less + total_of v ls ≤ more + total_of v ms
  unfolding difference_of
  difference-holds more less ms ls forms forms' there there' positive =
      let start : WholeSum = record { plus = more; minus = less; terms = [] } in
      omega (
        arith,
        positive-holds _ positive,
        products-move Added start ms forms there,
        products-move Taken (with_products table Added start ms) ls forms' there',
        sum_over-nil (gain_part v),
        sum_over-nil (loss_part v),
      )

  -- ---- order

  -- what a sum comes to, with 2^112 added
  whole_at : ℕ → ℕ → List WholeTerm → ℕ
  whole_at p m ts = (2 ^ 112 + p + gains v ts) - (m + losses v ts)

  ends-enclose : (p m : ℕ) (ts : List WholeTerm) → Encloses (interval_of table p m ts) (whole_at p m ts)
  unfolding interval_of whole_at
  ends-enclose p m ts = (
    omega (arith, shares-le Added (ends table Lo) v (at_least table v agrees) ts, shares-le Taken v (ends table Hi) (at_most table v agrees) ts),
    omega (arith, shares-le Added v (ends table Hi) (at_most table v agrees) ts, shares-le Taken (ends table Lo) v (at_least table v agrees) ts),
  )

  same_whole : (p m : ℕ) (ts : List WholeTerm) → whole_at p m (with_split table [] ts) ≡ whole_at p m ts
  unfolding whole_at
  same_whole p m ts =
      omega (arith, net-sums v ts, net-sums v (with_split table [] ts), gain-with_split table v agrees ts, loss-with_split table v agrees ts)

  sum-encloses : (sum : WholeSum) → Encloses (sum_interval table sum) (whole_at sum.plus sum.minus sum.terms)
  unfolding sum_interval
  sum-encloses sum =
      let ts = with_split table [] sum.terms in
      met-encloses table v agrees (interval_of table sum.plus sum.minus sum.terms) (interval_of table sum.plus sum.minus ts) (whole_at sum.plus sum.minus sum.terms)
      (ends-enclose sum.plus sum.minus sum.terms)
      (subst (λ (n : ℕ). Encloses (interval_of table sum.plus sum.minus ts) n) (same_whole sum.plus sum.minus sum.terms) (ends-enclose sum.plus sum.minus ts))

  not_negative : (sum : WholeSum) → nat_le (2 ^ 112) (sum_interval table sum).lo ≡ true → down v sum ≤ up v sum
  unfolding whole_at
  not_negative sum e = omega (arith, leb-true _ _ e, (sum-encloses sum).0, net-sums v sum.terms)

  order-holds : (f g : Linear) → IsForm 8 f → IsForm 8 g → is_not_less_of table f g ≡ true → value v g ≤ value v f
  unfolding is_not_less_of difference_of
  order-holds f g is_f is_g e =
      let start : WholeSum = record { plus = 0; minus = 0; terms = [] } in
      let test = nat_le (2 ^ 112) (sum_interval table (with_products table Taken (with_products table Added start (once f)) (once g))).lo in
      let tests = and_parts (have_ranges table (once f) && have_ranges table (once g)) test e in
      let ranges = and_parts _ _ tests.0 in
      omega (
        arith,
        not_negative _ tests.1,
        products-move Added start (once f) (is_f, tt) ranges.0,
        products-move Taken (with_products table Added start (once f)) (once g) (is_g, tt) ranges.1,
        sum_over-nil (gain_part v),
        sum_over-nil (loss_part v),
      )

pub orders-hold : OrdersHold
orders-hold table v f g agrees is_f is_g e = order-holds table v agrees f g is_f is_g e
