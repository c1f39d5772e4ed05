-- Flags of argument registers, by place.
use Rattle.std.proofs.Common.{◌≡◌, ◌≢◌, ℕ, ◌+◌, ◌-◌, ◌<◌, ◌≤◌, zero, suc, Bool, true, false, refl, ap, ◌∙◌, arith, List, [], ◌∷◌, get_or}
use Rattle.std.specs.Prelude.{if◌then◌else◌, ◌&&◌, nat_le, nat_lt, slice_set}
use Rattle.std.specs.List.{list_any}
use Rattle.std.proofs.lemmas.Bool.Decides.{nat_tests}
use Rattle.std.proofs.lemmas.Bool.{le-leb, lt-ltb}
use Rattle.cert_maker.specs.Loops.{is_flagged}

-- a flag is one of the list
flag_of : (r : ℕ) (flags : List Bool) → 10 ≤ r → r < 18 → is_flagged r flags ≡ get_or flags (r - 10) false
unfolding is_flagged
flag_of r flags l g = rw (le-leb 10 r l, lt-ltb r 18 g) refl

pub flag_at : (q : ℕ) (flags : List Bool) → q < 8 → is_flagged (q + 10) flags ≡ get_or flags q false
flag_at q flags l = flag_of (q + 10) flags (omega arith) (omega (arith, l)) ∙ ap (λ (i : ℕ). get_or flags i false) (omega arith)

-- a register that is flagged is an argument's
pub flag_low : (r : ℕ) (flags : List Bool) → is_flagged r flags ≡ true → (10 ≤ r) × (r < 18)
unfolding is_flagged
flag_low r flags e = by_tests (nat_le 10 r) (nat_lt r 18) refl refl e
  where
    by_tests : (t u : Bool) → nat_le 10 r ≡ t → nat_lt r 18 ≡ u → (if t && u then get_or flags (r - 10) false else false) ≡ true → (10 ≤ r) × (r < 18)
    by_tests true true a b f = (grind (arith, nat_tests), grind (arith, nat_tests))
    by_tests true false a b f = cc
    by_tests false u a b f = cc

-- where one flag is cleared
pub cleared : (flags : List Bool) (i j : ℕ) → get_or (slice_set flags i false) j false ≡ true → (get_or flags j false ≡ true) × (j ≢ i)
cleared [] i j e = cc
cleared (x ∷ xs) zero zero e = cc
cleared (x ∷ xs) zero (suc j) e = (e, λ f. omega (arith, f))
cleared (x ∷ xs) (suc i) zero e = (e, λ f. omega (arith, f))
cleared (x ∷ xs) (suc i) (suc j) e =
    let more = cleared xs i j e in
    (more.0, λ f. more.1 (omega (arith, f)))

-- where none is set
pub none_set : (flags : List Bool) (j : ℕ) → list_any (λ is_left. is_left) flags ≡ false → get_or flags j false ≡ false
none_set [] j e = refl
none_set (true ∷ xs) j e = cc
none_set (false ∷ xs) zero e = refl
none_set (false ∷ xs) (suc j) e = none_set xs j e
