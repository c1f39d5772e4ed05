-- Sums in whole numbers: their terms one by one, their bounds, and what they come to.
use Rattle.std.proofs.Common.{◌≡◌, ℕ, ◌+◌, ◌-◌, ◌*◌, ◌^◌, ◌<◌, ◌≤◌, ◌==◌, inl, inr, zero, suc, List, [], ◌∷◌, ◌++◌, map, length, drop, get_or, position, slice_set, refl, ap, sym, ◌∙◌, subst, arith, length-append, append-nil, Option, Some, None}
use Rattle.std.proofs.lemmas.Bool.{cases_lt}
use Rattle.std.proofs.lemmas.List.{drop_more, drop_all, get_or_default, length-set}
use Rattle.std.proofs.lemmas.List.Quantifiers.{position-Some}
use Rattle.std.proofs.lemmas.Grind.{common_steps}
use Rattle.std.proofs.lemmas.Nat.{mul-le}
use Rattle.std.specs.List.{refill}
use Rattle.arrayvec.proofs.ArrayVecLemmas.{items-with_items}
use Rattle.linear_facts.specs.Words.{Term, Split, WholeTerm, Side, Lo, Hi, Added, Taken}
use Rattle.linear_facts.specs.Ranges.{AtomTable, split_at}
use Rattle.linear_facts.specs.Sums.{AllAtMost, signed_term, joined, with_term, with_term_at, with_parts, with_split, share, shares, gains, losses, ends, interval_of}

-- one term's parts
pub at_most_at : (n : ℕ) (ts : List WholeTerm) (i : ℕ) (d : WholeTerm) → AllAtMost n ts → i < length ts
    → ((get_or ts i d).plus ≤ n) × ((get_or ts i d).minus ≤ n)
at_most_at n [] i d h inside = absurd (omega arith)
at_most_at n (t ∷ ts) zero d h inside = (h.0, h.1)
at_most_at n (t ∷ ts) (suc i) d h inside = at_most_at n ts i d h.2 (omega arith)

pub shares-more : (side : Side) (r : ℕ → ℕ) (ts : List WholeTerm) (i : ℕ) (d : WholeTerm) → i < length ts
    → shares side r (drop i ts) ≡ share side (get_or ts i d) * r (get_or ts i d).atom + shares side r (drop (i + 1) ts)
unfolding shares
shares-more side r ts i d inside = ap (λ l. shares side r l) (drop_more ts i d inside)

pub shares-done : (side : Side) (r : ℕ → ℕ) (ts : List WholeTerm) (i : ℕ) → length ts ≤ i → shares side r (drop i ts) ≡ 0
unfolding shares
shares-done side r ts i done = ap (λ l. shares side r l) (drop_all i ts done)

-- a share is at most a part of the coefficient
pub share-le : (side : Side) (n : ℕ) (t : WholeTerm) → t.plus ≤ n → t.minus ≤ n → share side t ≤ n
share-le Added n t plus minus = omega arith
share-le Taken n t plus minus = omega arith

-- what a term comes to
pub share_bound : (side : Side) (n : ℕ) (ts : List WholeTerm) (i : ℕ) (d : WholeTerm) (k x : ℕ) → AllAtMost n ts → i < length ts
    → k ≡ share side (get_or ts i d) → x < 2 ^ 32 → k * x ≤ n * 2 ^ 32
share_bound side n ts i d k x small inside is lt =
    let parts = at_most_at n ts i d small inside in
    mul-le k x n (2 ^ 32) (omega (arith, is, share-le side n (get_or ts i d) parts.0 parts.1)) (omega arith)

-- one more share is added
pub next_share : (sum k k' x x' rest front whole : ℕ) → k ≡ k' → x ≡ x' → front ≡ k' * x' + rest → sum + front ≡ whole
    → sum + k * x + rest ≡ whole
next_share sum k k' x x' rest front whole is_k is_x is_front so_far =
    omega (arith, so_far, is_front, ap (λ n. n * x) is_k, ap (λ n. k' * n) is_x)

-- the place of an atom's term is where its term is put
pub with_term-there : (ts : List WholeTerm) (t : WholeTerm) (i : ℕ) → position (λ u. u.atom == t.atom) ts ≡ Some i
    → with_term ts t ≡ slice_set ts i (joined (get_or ts i t) t)
unfolding with_term
with_term-there ts t i e = ap (λ p. with_term_at p ts t) e

pub with_term-new : (ts : List WholeTerm) (t : WholeTerm) → position (λ u. u.atom == t.atom) ts ≡ None
    → with_term ts t ≡ ts ++ t ∷ []
unfolding with_term
with_term-new ts t e = ap (λ p. with_term_at p ts t) e

-- the place that was found for an atom holds one of the terms
module _ (now read items : List WholeTerm) (i : ℕ) (t : WholeTerm) (is_now : now ≡ items) (is_read : read ≡ items)
    (found : position (λ u. u.atom == t.atom) now ≡ Some i) where
  pub place_inside : i < length items
  place_inside = subst (λ (l : List WholeTerm). i < length l) is_now (position-Some (λ u. u.atom == t.atom) now i t found).0

  pub place_fits : AllAtMost (2 ^ 100) items
      → ((get_or read i record { atom = 0; plus = 0; minus = 0 }).plus ≤ 2 ^ 100) × ((get_or read i record { atom = 0; plus = 0; minus = 0 }).minus ≤ 2 ^ 100)
  place_fits small =
      subst (λ (l : List WholeTerm). ((get_or l i record { atom = 0; plus = 0; minus = 0 }).plus ≤ 2 ^ 100) × ((get_or l i record { atom = 0; plus = 0; minus = 0 }).minus ≤ 2 ^ 100))
      (sym is_read) (at_most_at (2 ^ 100) items i record { atom = 0; plus = 0; minus = 0 } small place_inside)

  -- what is written there is the sum of both
  pub set_there : (lent : List WholeTerm) → lent ≡ items
      → refill (length items) items (slice_set lent i (joined (get_or read i record { atom = 0; plus = 0; minus = 0 }) t)) ≡ with_term items t
  set_there lent is_lent =
      ap (λ l. refill (length items) items (slice_set l i (joined (get_or read i record { atom = 0; plus = 0; minus = 0 }) t))) is_lent
      ∙ (items-with_items (record { items = items }) (slice_set items i (joined (get_or read i record { atom = 0; plus = 0; minus = 0 }) t))
      (length-set items i (joined (get_or read i record { atom = 0; plus = 0; minus = 0 }) t))
      ∙ (ap (λ l. slice_set items i (joined (get_or l i record { atom = 0; plus = 0; minus = 0 }) t)) is_read
      ∙ (ap (λ u. slice_set items i (joined u t)) (get_or_default items i record { atom = 0; plus = 0; minus = 0 } t place_inside)
      ∙ sym (with_term-there items t i (ap (position (λ (u : WholeTerm). u.atom == t.atom)) (sym is_now) ∙ found)))))

-- no term at all
pub none_small : (ts : List WholeTerm) → ts ≡ [] → AllAtMost 0 ts
none_small ts e = subst (λ (l : List WholeTerm). AllAtMost 0 l) (sym e) tt

-- bounds of coefficients
pub at_most_more : (m n : ℕ) (ts : List WholeTerm) → m ≤ n → AllAtMost m ts → AllAtMost n ts
at_most_more m n [] le h = tt
at_most_more m n (t ∷ ts) le h = (omega arith, omega arith, at_most_more m n ts le h.2)

at_most-append : (n : ℕ) (xs ys : List WholeTerm) → AllAtMost n xs → AllAtMost n ys → AllAtMost n (xs ++ ys)
at_most-append n [] ys h k = k
at_most-append n (x ∷ xs) ys h k = (h.0, h.1, at_most-append n xs ys h.2 k)

at_most-set : (n : ℕ) (ts : List WholeTerm) (i : ℕ) (u : WholeTerm) → AllAtMost n ts → u.plus ≤ n → u.minus ≤ n
    → AllAtMost n (slice_set ts i u)
at_most-set n [] i u h p m = tt
at_most-set n (t ∷ ts) zero u h p m = (p, m, h.2)
at_most-set n (t ∷ ts) (suc i) u h p m = (h.0, h.1, at_most-set n ts i u h.2 p m)

module _ (n k : ℕ) (ts : List WholeTerm) (t : WholeTerm) (small : AllAtMost n ts) (plus : t.plus ≤ k) (minus : t.minus ≤ k) where
  at_most_by_place : (o : Option ℕ) → position (λ u. u.atom == t.atom) ts ≡ o → AllAtMost (n + k) (with_term_at o ts t)
  at_most_by_place None e = at_most-append (n + k) ts (t ∷ []) (at_most_more n (n + k) ts (omega arith) small) (omega arith, omega arith, tt)
  at_most_by_place (Some i) e =
      let inside = (position-Some (λ u. u.atom == t.atom) ts i t e).0 in
      let old = at_most_at n ts i t small inside in
      at_most-set (n + k) ts i (joined (get_or ts i t) t) (at_most_more n (n + k) ts (omega arith) small)
      (omega (arith, old.0)) (omega (arith, old.1))

  -- one more term adds its coefficient at most
  pub at_most-with_term : AllAtMost (n + k) (with_term ts t)
  unfolding with_term
  at_most-with_term = at_most_by_place (position (λ u. u.atom == t.atom) ts) refl

length_by_place : (ts : List WholeTerm) (t : WholeTerm) (o : Option ℕ) → length (with_term_at o ts t) ≤ length ts + 1
length_by_place ts t None = omega (arith, length-append ts (t ∷ []))
length_by_place ts t (Some i) = omega (arith, length-set ts i (joined (get_or ts i t) t))

-- one more term makes the list one longer at most
pub length-with_term : (ts : List WholeTerm) (t : WholeTerm) → length (with_term ts t) ≤ length ts + 1
unfolding with_term
length-with_term ts t = length_by_place ts t (position (λ u. u.atom == t.atom) ts)

module _ (ts : List WholeTerm) (t : WholeTerm) where
  pub length-with_parts : (o : Option Split) → length (with_parts o ts t) ≤ length ts + 2
  length-with_parts None = omega (arith, length-with_term ts t)
  length-with_parts (Some s) =
      omega (
        arith,
        length-with_term ts record { atom = s.first; plus = t.plus; minus = t.minus },
        length-with_term (with_term ts record { atom = s.first; plus = t.plus; minus = t.minus }) record { atom = s.second; plus = t.plus; minus = t.minus },
      )

  pub at_most-with_parts : (n k : ℕ) (o : Option Split) → AllAtMost n ts → t.plus ≤ k → t.minus ≤ k
      → AllAtMost (n + 2 * k) (with_parts o ts t)
  at_most-with_parts n k None small plus minus =
      at_most_more (n + k) (n + 2 * k) (with_term ts t) (omega arith) (at_most-with_term n k ts t small plus minus)
  at_most-with_parts n k (Some s) small plus minus =
      at_most_more (n + k + k) (n + 2 * k) _ (omega arith)
      (at_most-with_term (n + k) k (with_term ts record { atom = s.first; plus = t.plus; minus = t.minus }) record { atom = s.second; plus = t.plus; minus = t.minus }
      (at_most-with_term n k ts record { atom = s.first; plus = t.plus; minus = t.minus } small plus minus) plus minus)

-- a coefficient as a signed number
pub signed-low : (t : Term) → t.coefficient < 2 ^ 31 → signed_term t ≡ record { atom = t.atom; plus = t.coefficient; minus = 0 }
unfolding signed_term
signed-low t low = grind (arith, common_steps)

pub signed-high : (t : Term) → 2 ^ 31 ≤ t.coefficient → signed_term t ≡ record { atom = t.atom; plus = 0; minus = 2 ^ 32 - t.coefficient }
unfolding signed_term
signed-high t high = grind (arith, common_steps)

-- what is left of a form's terms
pub signed_shares-more : (side : Side) (r : ℕ → ℕ) (ts : List Term) (i : ℕ) (d : Term) → i < length ts
    → shares side r (map signed_term (drop i ts))
    ≡ share side (signed_term (get_or ts i d)) * r (signed_term (get_or ts i d)).atom + shares side r (map signed_term (drop (i + 1) ts))
unfolding shares
signed_shares-more side r ts i d inside = ap (λ l. shares side r (map signed_term l)) (drop_more ts i d inside)

pub signed_shares-done : (side : Side) (r : ℕ → ℕ) (ts : List Term) (i : ℕ) → length ts ≤ i → shares side r (map signed_term (drop i ts)) ≡ 0
unfolding shares
signed_shares-done side r ts i done = ap (λ l. shares side r (map signed_term l)) (drop_all i ts done)

no_share : (c y : ℕ) → (0 - c) * y ≡ 0
no_share c y = omega (arith, ap (λ n. n * y) (nothing c))
  where
    nothing : (c : ℕ) → 0 - c ≡ 0
    nothing c = omega arith

full_share : (k c y z : ℕ) → k ≡ c → y ≡ z → (c - 0) * y ≡ k * z
full_share k c y z is_k is_y = omega (arith, ap (λ n. n * z) is_k, ap (λ n. c * n) is_y, ap (λ n. n * y) (whole c))
  where
    whole : (c : ℕ) → c - 0 ≡ c
    whole c = omega arith

-- an end moves by the term's share
pub end_up : (t : Term) (sum moved k up up' down : ℕ) → t.coefficient < 2 ^ 31 → k ≡ t.coefficient → up ≡ up' → moved ≡ sum + k * up'
    → moved + ((signed_term t).minus - (signed_term t).plus) * down ≡ sum + ((signed_term t).plus - (signed_term t).minus) * up
end_up t sum moved k up up' down low is_k is_up is_moved =
    subst (λ (u : WholeTerm). moved + (u.minus - u.plus) * down ≡ sum + (u.plus - u.minus) * up) (sym (signed-low t low))
    (omega (arith, is_moved, no_share t.coefficient down, full_share k t.coefficient up up' is_k is_up))

pub end_down : (t : Term) (sum moved k up down down' : ℕ) → 2 ^ 31 ≤ t.coefficient → k ≡ 2 ^ 32 - t.coefficient → down ≡ down' → moved + k * down' ≡ sum
    → moved + ((signed_term t).minus - (signed_term t).plus) * down ≡ sum + ((signed_term t).plus - (signed_term t).minus) * up
end_down t sum moved k up down down' high is_k is_down is_moved =
    subst (λ (u : WholeTerm). moved + (u.minus - u.plus) * down ≡ sum + (u.plus - u.minus) * up) (sym (signed-high t high))
    (omega (arith, is_moved, no_share (2 ^ 32 - t.coefficient) up, full_share k (2 ^ 32 - t.coefficient) down down' is_k is_down))

-- a term's own atom
pub signed_atom : (t : Term) → (signed_term t).atom ≡ t.atom
signed_atom t =
    elim (cases_lt t.coefficient (2 ^ 31)) [
      | inl low ↦ ap (λ (u : WholeTerm). u.atom) (signed-low t low)
      | inr high ↦ ap (λ (u : WholeTerm). u.atom) (signed-high t high)
    ]

-- one more term is in an end's sum
pub next_end : (sum moved up up' down down' plus minus g g' l l' front back : ℕ) → moved + minus * down ≡ sum + plus * up
    → g ≡ plus * up' + g' → l ≡ minus * down' + l' → up ≡ up' → down ≡ down'
    → sum + g + back ≡ front + l → moved + g' + back ≡ front + l'
next_end sum moved up up' down down' plus minus g g' l l' front back step is_g is_l is_up is_down so_far =
    omega (arith, step, is_g, is_l, so_far, ap (λ n. plus * n) is_up, ap (λ n. minus * n) is_down)

-- both ends once all terms are in
pub own-done : (table : AtomTable) (c lo hi : ℕ) (own : List WholeTerm)
    → lo + losses (ends table Hi) own ≡ 2 ^ 112 + c + gains (ends table Lo) own
    → hi + losses (ends table Lo) own ≡ 2 ^ 112 + c + gains (ends table Hi) own
    → record { lo = lo; hi = hi } ≡ interval_of table c 0 own
unfolding interval_of
own-done table c lo hi own is_lo is_hi =
    ap (λ (n : ℕ). record { lo = n; hi = hi }) (omega (arith, is_lo))
    ∙ ap (λ (n : ℕ). record { lo = (2 ^ 112 + c + gains (ends table Lo) own) - (0 + losses (ends table Hi) own); hi = n }) (omega (arith, is_hi))

signed_small : (t : Term) → ((signed_term t).plus ≤ 2 ^ 32) × ((signed_term t).minus ≤ 2 ^ 32)
signed_small t =
    elim (cases_lt t.coefficient (2 ^ 31)) [
      | inl low ↦ subst (λ (u : WholeTerm). (u.plus ≤ 2 ^ 32) × (u.minus ≤ 2 ^ 32)) (sym (signed-low t low)) (omega arith, omega arith)
      | inr high ↦ subst (λ (u : WholeTerm). (u.plus ≤ 2 ^ 32) × (u.minus ≤ 2 ^ 32)) (sym (signed-high t high)) (omega arith, omega arith)
    ]

-- coefficients as signed numbers are small
pub signed_at_most : (ts : List Term) → AllAtMost (2 ^ 32) (map signed_term ts)
signed_at_most [] = tt
signed_at_most (t ∷ ts) = ((signed_small t).0, (signed_small t).1, signed_at_most ts)

-- once all is signed, nothing lacks
pub signed-done : (items : List WholeTerm) (ts : List Term) (i : ℕ)
    → length ts ≤ i → items ++ map signed_term (drop i ts) ≡ map signed_term ts → items ≡ map signed_term ts
signed-done items ts i done so_far =
    sym (append-nil items) ∙ (ap (λ l. items ++ map signed_term l) (sym (drop_all i ts done)) ∙ so_far)

pub split-more : (table : AtomTable) (so_far ts : List WholeTerm) (i : ℕ) (d : WholeTerm) → i < length ts
    → with_split table so_far (drop i ts)
    ≡ with_split table (with_parts (split_at table (get_or ts i d).atom) so_far (get_or ts i d)) (drop (i + 1) ts)
unfolding with_split
split-more table so_far ts i d inside = ap (λ l. with_split table so_far l) (drop_more ts i d inside)

pub split-done : (table : AtomTable) (so_far ts : List WholeTerm) (i : ℕ) → length ts ≤ i
    → with_split table so_far (drop i ts) ≡ so_far
unfolding with_split
split-done table so_far ts i done = ap (λ l. with_split table so_far l) (drop_all i ts done)
