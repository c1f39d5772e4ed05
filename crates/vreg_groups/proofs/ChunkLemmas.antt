-- What `select` makes of a comparison with zeros.
use Rattle.std.proofs.Common.{◌≡◌, ℕ, ◌<◌, ◌==◌, suc, zero, inl, inr, Bool, true, false, cond, not, if◌then◌else◌, List, [], ◌∷◌, length, get_or, replicate, refl, ap, ◌∙◌, arith}
use lib.Dec.{eqb}
use Rattle.std.proofs.lemmas.Bool.Decides.{eqb_tells}
use lib.Lanes.{sel_l, zip2}
use Rattle.vreg_groups.specs.Chunks.{chosen}

other_way : (b : Bool) (x y : ℕ) → cond (not b) x y ≡ cond b y x
other_way true x y = refl
other_way false x y = refl

pub selected : (n : ℕ) (active values others : List ℕ) → length active ≡ n →
    sel_l (zip2 (λ a b. not (eqb a b)) active (replicate n 0)) values others ≡ chosen active values others
unfolding chosen
selected n [] values others e = refl
selected zero (a ∷ active) values others e = absurd (omega (arith, e))
selected (suc n) (a ∷ active) [] others e = refl
selected (suc n) (a ∷ active) (x ∷ values) [] e = refl
selected (suc n) (a ∷ active) (x ∷ values) (y ∷ others) e =
    λ i. other_way (eqb a 0) x y i ∷ selected n active values others (omega (arith, e)) i

-- a lane that is chosen, or not
get_or-chosen : (fs vs os : List ℕ) (k : ℕ) → k < length fs → k < length vs → k < length os → get_or (chosen fs vs os) k 0 ≡ (if get_or fs k 0 == 0 then get_or os k 0 else get_or vs k 0)
unfolding chosen
get_or-chosen [] vs os k p q r = absurd (omega (arith, p))
get_or-chosen (f ∷ fs) [] os k p q r = absurd (omega (arith, q))
get_or-chosen (f ∷ fs) (v ∷ vs) [] k p q r = absurd (omega (arith, r))
get_or-chosen (f ∷ fs) (v ∷ vs) (o ∷ os) zero p q r = refl
get_or-chosen (f ∷ fs) (v ∷ vs) (o ∷ os) (suc k) p q r = get_or-chosen fs vs os k (omega (arith, p)) (omega (arith, q)) (omega (arith, r))

chosen_yes : (f o v : ℕ) → 0 < f → (if f == 0 then o else v) ≡ v
chosen_yes f o v lt = elim (eqb_tells f 0) [
  | inl e ↦ absurd (omega (arith, e.1, lt))
  | inr e ↦ rw (e.0) refl
]

chosen_no : (f o v : ℕ) → f ≡ 0 → (if f == 0 then o else v) ≡ o
chosen_no f o v is = rw is refl

pub lane_yes : (fs vs os rs : List ℕ) (k : ℕ) → length fs ≡ 16 → length vs ≡ 16 → length os ≡ 16 → rs ≡ chosen fs vs os → k < 16 → 0 < get_or fs k 0 → get_or rs k 0 ≡ get_or vs k 0
lane_yes fs vs os rs k p q r is lt on = ap (λ l. get_or l k 0) is ∙ get_or-chosen fs vs os k (omega (arith, p, lt)) (omega (arith, q, lt)) (omega (arith, r, lt)) ∙ chosen_yes (get_or fs k 0) (get_or os k 0) (get_or vs k 0) on

pub lane_no : (fs vs os rs : List ℕ) (k : ℕ) → length fs ≡ 16 → length vs ≡ 16 → length os ≡ 16 → rs ≡ chosen fs vs os → k < 16 → get_or fs k 0 ≡ 0 → get_or rs k 0 ≡ get_or os k 0
lane_no fs vs os rs k p q r is lt off = ap (λ l. get_or l k 0) is ∙ get_or-chosen fs vs os k (omega (arith, p, lt)) (omega (arith, q, lt)) (omega (arith, r, lt)) ∙ chosen_no (get_or fs k 0) (get_or os k 0) (get_or vs k 0) off
