-- Why a form's value lies in its range.
use Rattle.std.proofs.Common.{◌≡◌, ℕ, ◌+◌, ◌-◌, ◌*◌, ◌/◌, ◌%◌, ◌^◌, ◌<◌, ◌≤◌, ◌==◌, inl, inr, zero, suc, List, [], ◌∷◌, ◌++◌, map, length, get_or, position, slice_set, min, max, refl, ap, sym, ◌∙◌, subst, arith, append-nil, append_assoc, Option, Some, None, is_some, false, not, IfSome}
use Rattle.std.specs.List.{list_any, position_or_len}
use Rattle.std.proofs.lemmas.Bool.{cases_eq, cases_lt, eqb-true}
use Rattle.std.proofs.lemmas.Bool.Decides.{nat_tests}
use Rattle.std.proofs.lemmas.List.{length-map}
use Rattle.std.proofs.lemmas.List.Sums.{count_by-le-length}
use Rattle.std.proofs.lemmas.List.Quantifiers.{position-Some}
use Rattle.std.proofs.lemmas.Grind.{common_steps}
use Rattle.std.proofs.lemmas.Nat.{mul-le}
use Rattle.linear_facts.specs.Words.{Term, Range, Split, WholeTerm, Interval, Side, Lo, Hi, Added, Taken}
use Rattle.linear_facts.specs.Forms.{Linear, weight, value, RisesFrom}
use Rattle.linear_facts.specs.Ranges.{AtomTable, IsIn, AgreesWith, split_at}
use Rattle.linear_facts.specs.Sums.{AllAtMost, signed_term, joined, with_term, with_term_at, with_parts, with_split, nonzero_count, share, shares, gains, losses, ends, interval_of, met_or_own, interval_by_both, form_interval, range_within, range_of_form}
use Rattle.linear_facts.specs.CongruentLemmas.{Congruent, mod-Congruent, congruent_equal, congruent_trans, congruent_add}
use Rattle.linear_facts.specs.SumLemmas.{signed-low, signed-high, share-le, signed_at_most, signed_atom, with_term-new}

pub by_both-few : (table : AtomTable) (c : ℕ) (own split : List WholeTerm) → nonzero_count split ≤ 8
    → interval_by_both table c own split ≡ met_or_own (interval_of table c 0 own) (interval_of table c 0 split)
unfolding interval_by_both
by_both-few table c own split few = grind (arith, common_steps)

by_both-many : (table : AtomTable) (c : ℕ) (own split : List WholeTerm) → 8 < nonzero_count split
    → interval_by_both table c own split ≡ interval_of table c 0 own
unfolding interval_by_both
by_both-many table c own split many = grind (arith, common_steps)

module _ (table : AtomTable) (f : Linear) (own split : List WholeTerm)
    (is_own : own ≡ map signed_term f.terms) (is_split : split ≡ with_split table [] own) where
  by_parts : interval_by_both table f.constant own split ≡ form_interval table f
  unfolding form_interval
  by_parts =
      ap (λ l. interval_by_both table f.constant own l) is_split
      ∙ ap (λ l. interval_by_both table f.constant l (with_split table [] l)) is_own

  -- the interval, where the split terms are at most eight
  pub form_interval-few : nonzero_count split ≤ 8
      → met_or_own (interval_of table f.constant 0 own) (interval_of table f.constant 0 split) ≡ form_interval table f
  form_interval-few few = sym (by_both-few table f.constant own split few) ∙ by_parts

  -- the interval, where they are more
  pub form_interval-many : 8 < nonzero_count split → interval_of table f.constant 0 own ≡ form_interval table f
  form_interval-many many = sym (by_both-many table f.constant own split many) ∙ by_parts

-- each atom is below n
abbrev pub AtomsBelow : ℕ → List WholeTerm → Type 0
AtomsBelow n [] = Unit {0}
AtomsBelow n (t ∷ ts) = (t.atom < n) × AtomsBelow n ts

below-append : (m n : ℕ) (ts : List WholeTerm) (t : WholeTerm) → m ≤ n → t.atom < n → AtomsBelow m ts → AtomsBelow n (ts ++ t ∷ [])
below-append m n [] t le last h = (last, tt)
below-append m n (u ∷ ts) t le last h = (omega arith, below-append m n ts t le last h.1)

-- an atom that is above all others has no place yet
past_all : (low a : ℕ) (ts : List WholeTerm) → low ≤ a → AtomsBelow low ts → position_or_len (λ u. u.atom == a) ts ≡ length ts
past_all low a [] le below = refl
past_all low a (t ∷ ts) le below =
    let rest = past_all low a ts le below.1 in
    let other : (t.atom == a) ≡ false = grind (arith, nat_tests, common_steps) in
    grind (arith, nat_tests, common_steps)

no_place : (low a : ℕ) (ts : List WholeTerm) → low ≤ a → AtomsBelow low ts → position (λ u. u.atom == a) ts ≡ None
no_place low a ts le below =
    let past = past_all low a ts le below in
    grind (arith, nat_tests, common_steps)

not_split : (o : Option Split) → is_some o ≡ false → o ≡ None
not_split None e = refl
not_split (Some s) e = absurd (grind (arith, common_steps))

module _ (table : AtomTable) where
  -- a term whose atom is above all others and is not split is put last
  put_last : (low : ℕ) (so_far : List WholeTerm) (t : WholeTerm) → AtomsBelow low so_far → low ≤ t.atom
      → is_some (split_at table t.atom) ≡ false → with_parts (split_at table t.atom) so_far t ≡ so_far ++ t ∷ []
  put_last low so_far t below le whole =
      ap (λ o. with_parts o so_far t) (not_split _ whole) ∙ with_term-new so_far t (no_place low t.atom so_far le below)

  -- where no atom is split, all terms stay
  unsplit : (low : ℕ) (so_far : List WholeTerm) (ts : List Term) → AtomsBelow low so_far → RisesFrom low ts
      → list_any (λ t. is_some (split_at table t.atom)) ts ≡ false
      → with_split table so_far (map signed_term ts) ≡ so_far ++ map signed_term ts
  unfolding with_split
  unsplit low so_far [] below rises none = sym (append-nil so_far)
  unsplit low so_far (t ∷ ts) below rises none =
      let here : is_some (split_at table t.atom) ≡ false = grind (arith, common_steps) in
      let later : list_any (λ (u : Term). is_some (split_at table u.atom)) ts ≡ false = grind (arith, common_steps) in
      let atom = signed_atom t in
      ap (λ l. with_split table l (map signed_term ts))
      (put_last low so_far (signed_term t) below (omega (arith, atom, rises.0)) (ap (λ n. is_some (split_at table n)) atom ∙ here))
      ∙ (unsplit (t.atom + 1) (so_far ++ signed_term t ∷ []) ts
      (below-append low (t.atom + 1) so_far (signed_term t) (omega (arith, rises.0)) (omega (arith, atom)) below) rises.3 later
      ∙ append_assoc so_far (signed_term t ∷ []) (map signed_term ts))

met-same : (i : Interval) → met_or_own i i ≡ i
unfolding met_or_own
met-same i = grind (arith, common_steps)

-- the interval, where no atom is split
pub form_interval-unsplit : (table : AtomTable) (c : ℕ) (ts : List Term) → length ts ≤ 8 → RisesFrom 0 ts
    → list_any (λ t. is_some (split_at table t.atom)) ts ≡ false
    → interval_of table c 0 (map signed_term ts) ≡ form_interval table record { constant = c; terms = ts }
form_interval-unsplit table c ts few rises none =
    let own = map signed_term ts in
    let same : own ≡ with_split table [] own = sym (unsplit table 0 [] ts tt rises none) in
    let count : nonzero_count own ≤ 8 =
    omega (arith, few, length-map ts signed_term, count_by-le-length (λ (t : WholeTerm). not (t.plus == t.minus)) own) in
    sym (met-same (interval_of table c 0 own)) ∙ form_interval-few table record { constant = c; terms = ts } own own refl same count

-- one number per term, all added up
unfoldable pub sum_over : (WholeTerm → ℕ) → List WholeTerm → ℕ
sum_over f [] = 0
sum_over f (t ∷ ts) = f t + sum_over f ts

module _ (f : WholeTerm → ℕ) where
  pub sum_over-nil : sum_over f [] ≡ 0
  unfolding sum_over
  sum_over-nil = refl

  sum_over-one : (t : WholeTerm) → sum_over f (t ∷ []) ≡ f t
  unfolding sum_over
  sum_over-one t = omega arith

  sum_over-append : (xs ys : List WholeTerm) → sum_over f (xs ++ ys) ≡ sum_over f xs + sum_over f ys
  unfolding sum_over
  sum_over-append [] ys = omega arith
  sum_over-append (x ∷ xs) ys = omega (arith, sum_over-append xs ys)

  sum_over-set : (ts : List WholeTerm) (i : ℕ) (d u : WholeTerm) → i < length ts
      → sum_over f (slice_set ts i u) + f (get_or ts i d) ≡ sum_over f ts + f u
  unfolding sum_over
  sum_over-set [] i d u inside = absurd (omega arith)
  sum_over-set (t ∷ ts) zero d u inside = omega arith
  sum_over-set (t ∷ ts) (suc i) d u inside = omega (arith, sum_over-set ts i d u (omega arith))

  module _ (joins : (u t : WholeTerm) → u.atom ≡ t.atom → f (joined u t) ≡ f u + f t) where
    by_place : (ts : List WholeTerm) (t : WholeTerm) (o : Option ℕ) → position (λ u. u.atom == t.atom) ts ≡ o
        → sum_over f (with_term_at o ts t) ≡ sum_over f ts + f t
    by_place ts t None e = omega (arith, sum_over-append ts (t ∷ []), sum_over-one t)
    by_place ts t (Some i) e =
        let found = position-Some (λ u. u.atom == t.atom) ts i t e in
        omega (arith, sum_over-set ts i t (joined (get_or ts i t) t) found.0, joins (get_or ts i t) t (eqb-true (get_or ts i t).atom t.atom found.1))

    pub sum_over-with_term : (ts : List WholeTerm) (t : WholeTerm) → sum_over f (with_term ts t) ≡ sum_over f ts + f t
    unfolding with_term
    sum_over-with_term ts t = by_place ts t (position (λ u. u.atom == t.atom) ts) refl

    sum_over-with_parts : (ts : List WholeTerm) (t : WholeTerm) (o : Option Split)
        → ((s : Split) → o ≡ Some s
        → f record { atom = s.first; plus = t.plus; minus = t.minus } + f record { atom = s.second; plus = t.plus; minus = t.minus } ≡ f t)
        → sum_over f (with_parts o ts t) ≡ sum_over f ts + f t
    sum_over-with_parts ts t None parts = sum_over-with_term ts t
    sum_over-with_parts ts t (Some s) parts =
        omega (
          arith,
          parts s refl,
          sum_over-with_term ts record { atom = s.first; plus = t.plus; minus = t.minus },
          sum_over-with_term (with_term ts record { atom = s.first; plus = t.plus; minus = t.minus }) record { atom = s.second; plus = t.plus; minus = t.minus },
        )

    module _ (table : AtomTable)
        (splits : (t : WholeTerm) (s : Split) → split_at table t.atom ≡ Some s
        → f record { atom = s.first; plus = t.plus; minus = t.minus } + f record { atom = s.second; plus = t.plus; minus = t.minus } ≡ f t) where
      sum_over-with_split : (so_far ts : List WholeTerm) → sum_over f (with_split table so_far ts) ≡ sum_over f so_far + sum_over f ts
      unfolding with_split sum_over
      sum_over-with_split so_far [] = omega arith
      sum_over-with_split so_far (t ∷ ts) =
          omega (
            arith,
            sum_over-with_split (with_parts (split_at table t.atom) so_far t) ts,
            sum_over-with_parts so_far t (split_at table t.atom) (splits t),
          )

-- what a term's two parts come to
abbrev pub gain_part : (ℕ → ℕ) → WholeTerm → ℕ
gain_part v t = t.plus * v t.atom

abbrev pub loss_part : (ℕ → ℕ) → WholeTerm → ℕ
loss_part v t = t.minus * v t.atom

pub gain_joins : (v : ℕ → ℕ) (u t : WholeTerm) → u.atom ≡ t.atom → gain_part v (joined u t) ≡ gain_part v u + gain_part v t
gain_joins v u t e = omega (arith, ap (λ a. t.plus * v a) e)

pub loss_joins : (v : ℕ → ℕ) (u t : WholeTerm) → u.atom ≡ t.atom → loss_part v (joined u t) ≡ loss_part v u + loss_part v t
loss_joins v u t e = omega (arith, ap (λ a. t.minus * v a) e)

module _ (table : AtomTable) (v : ℕ → ℕ) (agrees : AgreesWith table v) where
  gain_splits : (t : WholeTerm) (s : Split) → split_at table t.atom ≡ Some s
      → gain_part v record { atom = s.first; plus = t.plus; minus = t.minus } + gain_part v record { atom = s.second; plus = t.plus; minus = t.minus } ≡ gain_part v t
  gain_splits t s e = omega (arith, ap (λ n. t.plus * n) (agrees.is_sum t.atom s e))

  loss_splits : (t : WholeTerm) (s : Split) → split_at table t.atom ≡ Some s
      → loss_part v record { atom = s.first; plus = t.plus; minus = t.minus } + loss_part v record { atom = s.second; plus = t.plus; minus = t.minus } ≡ loss_part v t
  loss_splits t s e = omega (arith, ap (λ n. t.minus * n) (agrees.is_sum t.atom s e))

  pub gain-with_split : (ts : List WholeTerm) → sum_over (gain_part v) (with_split table [] ts) ≡ sum_over (gain_part v) ts
  gain-with_split ts = omega (arith, sum_over-with_split (gain_part v) (gain_joins v) table gain_splits [] ts, sum_over-nil (gain_part v))

  pub loss-with_split : (ts : List WholeTerm) → sum_over (loss_part v) (with_split table [] ts) ≡ sum_over (loss_part v) ts
  loss-with_split ts = omega (arith, sum_over-with_split (loss_part v) (loss_joins v) table loss_splits [] ts, sum_over-nil (loss_part v))

-- the whole coefficient times a number, from its two parts
net : (p m x : ℕ) → (p - m) * x + m * x ≡ (m - p) * x + p * x
net p m x = omega (arith, ap (λ n. n * x) (twice p m))
  where
    twice : (a b : ℕ) → a - b + b ≡ b - a + a
    twice a b = omega arith

pub net-sums : (v : ℕ → ℕ) (ts : List WholeTerm)
    → gains v ts + sum_over (loss_part v) ts ≡ losses v ts + sum_over (gain_part v) ts
unfolding shares sum_over
net-sums v [] = refl
net-sums v (t ∷ ts) = omega (arith, net t.plus t.minus (v t.atom), net-sums v ts)

-- shares rise with the atoms
pub shares-le : (side : Side) (r s : ℕ → ℕ) → ((a : ℕ) → r a ≤ s a) → (ts : List WholeTerm) → shares side r ts ≤ shares side s ts
unfolding shares
shares-le side r s le [] = omega arith
shares-le side r s le (t ∷ ts) = omega (arith, shares-le side r s le ts, mul-le (share side t) (r t.atom) (share side t) (s t.atom) (omega arith) (le t.atom))

-- shares are bounded
pub shares-bound : (side : Side) (v : ℕ → ℕ) (ts : List WholeTerm) → ((a : ℕ) → v a < 2 ^ 32) → AllAtMost (2 ^ 32) ts
    → shares side v ts ≤ length ts * 2 ^ 64
unfolding shares
shares-bound side v [] fits small = omega arith
shares-bound side v (t ∷ ts) fits small =
    omega (
      arith,
      shares-bound side v ts fits small.2,
      mul-le (share side t) (v t.atom) (2 ^ 32) (2 ^ 32) (share-le side (2 ^ 32) t small.0 small.1) (omega (arith, fits t.atom)),
    )

-- the number that a sum comes to, with 2^112 added
abbrev pub sum_at : (ℕ → ℕ) → ℕ → List WholeTerm → ℕ
sum_at v c ts = (2 ^ 112 + c + gains v ts) - (0 + losses v ts)

-- n lies in the interval
abbrev pub Encloses : Interval → ℕ → Type 0
Encloses i n = (i.lo ≤ n) × (n ≤ i.hi)

pub met-there : (own other : Interval) → max own.lo other.lo ≤ min own.hi other.hi
    → met_or_own own other ≡ record { lo = max own.lo other.lo; hi = min own.hi other.hi }
unfolding met_or_own
met-there own other le = grind (arith, common_steps)

module _ (table : AtomTable) (v : ℕ → ℕ) (agrees : AgreesWith table v) where
  pub at_least : (a : ℕ) → ends table Lo a ≤ v a
  at_least a = (agrees.in_range a).0

  pub at_most : (a : ℕ) → v a ≤ ends table Hi a
  at_most a = (agrees.in_range a).1

  -- interval arithmetic
  interval-encloses : (c : ℕ) (ts : List WholeTerm) → Encloses (interval_of table c 0 ts) (sum_at v c ts)
  unfolding interval_of
  interval-encloses c ts = (
    omega (arith, shares-le Added (ends table Lo) v at_least ts, shares-le Taken v (ends table Hi) at_most ts),
    omega (arith, shares-le Added v (ends table Hi) at_most ts, shares-le Taken (ends table Lo) v at_least ts),
  )

  -- both sums come to one number
  same_sum : (c : ℕ) (ts : List WholeTerm) → sum_at v c (with_split table [] ts) ≡ sum_at v c ts
  same_sum c ts =
      omega (arith, net-sums v ts, net-sums v (with_split table [] ts), gain-with_split table v agrees ts, loss-with_split table v agrees ts)

  pub met-encloses : (own other : Interval) (n : ℕ) → Encloses own n → Encloses other n → Encloses (met_or_own own other) n
  met-encloses own other n h k =
      subst (λ (i : Interval). Encloses i n) (sym (met-there own other (omega arith))) (omega arith, omega arith)

  by_both-encloses : (c : ℕ) (ts : List WholeTerm) → Encloses (interval_by_both table c ts (with_split table [] ts)) (sum_at v c ts)
  by_both-encloses c ts =
      elim (cases_lt 8 (nonzero_count (with_split table [] ts))) [
        | inl many ↦ subst (λ (i : Interval). Encloses i (sum_at v c ts)) (sym (by_both-many table c ts (with_split table [] ts) many)) (interval-encloses c ts)
        | inr few ↦ subst (λ (i : Interval). Encloses i (sum_at v c ts)) (sym (by_both-few table c ts (with_split table [] ts) few))
            (met-encloses (interval_of table c 0 ts) (interval_of table c 0 (with_split table [] ts)) (sum_at v c ts) (interval-encloses c ts)
            (subst (λ (n : ℕ). Encloses (interval_of table c 0 (with_split table [] ts)) n) (same_sum c ts) (interval-encloses c (with_split table [] ts))))
      ]

  pub form-encloses : (f : Linear) → Encloses (form_interval table f) (sum_at v f.constant (map signed_term f.terms))
  unfolding form_interval
  form-encloses f = by_both-encloses f.constant (map signed_term f.terms)

pub within-one : (i : Interval) → i.lo / 2 ^ 32 ≡ i.hi / 2 ^ 32
    → range_within i ≡ Some record { lo = i.lo % 2 ^ 32; hi = i.hi % 2 ^ 32 }
unfolding range_within
within-one i e = grind (arith, common_steps)

pub within-none : (i : Interval) → (i.lo / 2 ^ 32 ≡ i.hi / 2 ^ 32 → ⊥) → range_within i ≡ None
unfolding range_within
within-none i e = grind (arith, common_steps)

low_end : (lo n hi : ℕ) → lo ≤ n → n ≤ hi → lo / 4294967296 ≡ hi / 4294967296 → lo % 4294967296 ≤ n % 4294967296
low_end lo n hi le le' e = omega arith

high_end : (lo n hi : ℕ) → lo ≤ n → n ≤ hi → lo / 4294967296 ≡ hi / 4294967296 → n % 4294967296 ≤ hi % 4294967296
high_end lo n hi le le' e = omega arith

-- a number in an interval lies in the interval's range, less the same multiple of 2^32
range-within : (i : Interval) (n : ℕ) → Encloses i n → IfSome (range_within i) (λ r. IsIn r (n % 2 ^ 32))
range-within i n h =
    elim (cases_eq (i.lo / 2 ^ 32) (i.hi / 2 ^ 32)) [
      | inl one ↦ subst (λ (o : Option Range). IfSome o (λ r. IsIn r (n % 2 ^ 32))) (sym (within-one i one))
          (low_end i.lo n i.hi h.0 h.1 one, high_end i.lo n i.hi h.0 h.1 one)
      | inr other ↦ subst (λ (o : Option Range). IfSome o (λ r. IsIn r (n % 2 ^ 32))) (sym (within-none i other)) tt
    ]

-- a term as a signed number is the term modulo 2^32
signed_Congruent : (v : ℕ → ℕ) (t : Term) → t.coefficient < 2 ^ 32
    → Congruent (gain_part v (signed_term t)) (t.coefficient * v t.atom + loss_part v (signed_term t))
signed_Congruent v t fits =
    elim (cases_lt t.coefficient (2 ^ 31)) [
      | inl low ↦ subst (λ (u : WholeTerm). Congruent (gain_part v u) (t.coefficient * v t.atom + loss_part v u)) (sym (signed-low t low))
          (congruent_equal _ _ (omega arith))
      | inr high ↦ subst (λ (u : WholeTerm). Congruent (gain_part v u) (t.coefficient * v t.atom + loss_part v u)) (sym (signed-high t high))
          (record { over_a = v t.atom; over_b = 0; equal = whole t.coefficient (v t.atom) (omega arith) })
    ]
  where
    whole : (c x : ℕ) → c ≤ 4294967296 → 0 * x + 4294967296 * x ≡ c * x + (4294967296 - c) * x + 4294967296 * 0
    whole c x le = omega (arith, ap (λ n. n * x) (filled c le))
      where
        filled : (c : ℕ) → c ≤ 4294967296 → c + (4294967296 - c) ≡ 4294967296
        filled c le = omega arith

pub signed_sums : (v : ℕ → ℕ) (low : ℕ) (ts : List Term) → RisesFrom low ts
    → Congruent (sum_over (gain_part v) (map signed_term ts)) (weight v ts + sum_over (loss_part v) (map signed_term ts))
unfolding sum_over
signed_sums v low [] h = congruent_equal _ _ (omega arith)
signed_sums v low (t ∷ ts) h =
    congruent_trans _ _ _ (congruent_add _ _ _ _ (signed_Congruent v t h.2) (signed_sums v (t.atom + 1) ts h.3)) (congruent_equal _ _ (omega arith))

-- the sum as a number is the form's value modulo 2^32
pub sum_at-value : (v : ℕ → ℕ) (f : Linear) → ((a : ℕ) → v a < 2 ^ 32) → RisesFrom 0 f.terms → length f.terms ≤ 8
    → sum_at v f.constant (map signed_term f.terms) % 2 ^ 32 ≡ value v f
unfolding value
sum_at-value v f fits rises few =
    let ts = map signed_term f.terms in
    let signed = signed_sums v 0 f.terms rises in
    let bound = shares-bound Taken v ts fits (signed_at_most f.terms) in
    let count = length-map f.terms signed_term in
    mod-Congruent _ _ (record {
      over_a = signed.over_a;
      over_b = signed.over_b + 2 ^ 80;
      equal = omega (arith, net-sums v ts, signed.equal, bound, count, few);
    })

-- the value of a form lies in its range wherever the atoms are as the table says
pub range_of_form-holds : (table : AtomTable) (f : Linear) (v : ℕ → ℕ) → AgreesWith table v → RisesFrom 0 f.terms → length f.terms ≤ 8
    → IfSome (range_of_form table f) (λ r. IsIn r (value v f))
unfolding range_of_form
range_of_form-holds table f v agrees rises few =
    subst (λ (n : ℕ). IfSome (range_within (form_interval table f)) (λ r. IsIn r n)) (sum_at-value v f agrees.fits rises few)
    (range-within (form_interval table f) _ (form-encloses table v agrees f))
