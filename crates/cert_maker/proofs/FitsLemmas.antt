-- Parameters whose numbers fit their words.
use Rattle.std.proofs.Common.{◌≡◌, ℕ, ◌+◌, ◌<◌, ◌≤◌, suc, inl, inr, Bool, true, false, refl, sym, subst, arith, Some, None, List, [], ◌∷◌, length}
use Rattle.std.specs.Prelude.{is_some, if◌then◌else◌}
use Rattle.std.specs.List.{list_all, AllByRecursion}
use Rattle.std.proofs.lemmas.Bool.{cases_eq, and_parts}
use Rattle.region_mem.specs.declared.parameter.Param.{Param}
use Rattle.region_mem.specs.Parameter.{is_valid, parameters_of}
use Rattle.cert_note.specs.Certificate.{FitsWords, IsParameter}
use Rattle.cert_maker.specs.Make.{FitsAt, AreParameters}

-- the first `n` of them fit
pub record FitBelow (params : List Param) (n : ℕ) : Type 0 where
  pub at : (i : ℕ) → i < n → FitsAt params i

pub none_fit : (params : List Param) → FitBelow params 0
none_fit params = record { at = λ i l. absurd (omega (arith, l)) }

pub fits_more : (params : List Param) (n : ℕ) → FitBelow params n → FitsAt params n → FitBelow params (n + 1)
fits_more params n below here = record { at = at }
  where
    at : (i : ℕ) → i < n + 1 → FitsAt params i
    at i l = elim (cases_eq i n) [
      | inl same ↦ subst (λ (k : ℕ). FitsAt params k) (sym same) here
      | inr other ↦ below.at i (omega (arith, l, other))
    ]

all_from : (params : List Param) → ((i : ℕ) → i < length params → FitsAt params i) → AllByRecursion FitsWords params
all_from [] at = tt
all_from (p ∷ ps) at = (at 0 (omega arith), all_from ps (λ i l. at (suc i) (omega (arith, l))))

pub all_fit : (params : List Param) (n : ℕ) → length params ≡ 8 → 8 ≤ n → FitBelow params n → AllByRecursion FitsWords params
all_fit params n eight all below = all_from params (λ i l. below.at i (omega (arith, l, eight, all)))

-- they are valid where they are taken as parameters
pub are_valid : (params : List Param) → is_some (parameters_of params) ≡ true → list_all is_valid params ≡ true
unfolding parameters_of
are_valid params e = by_test (list_all is_valid params) refl e
  where
    by_test : (t : Bool) → list_all is_valid params ≡ t → is_some (if t then Some params else None) ≡ true → list_all is_valid params ≡ true
    by_test true same f = same
    by_test false same f = absurd (cc)

pub are_parameters : (params : List Param) → length params ≡ 8 → AllByRecursion FitsWords params → is_some (parameters_of params) ≡ true
    → AreParameters params
are_parameters params eight fit e = record { eight = eight; valid = are_valid params e; fit = fit }

-- each is valid and fits its words
pub each_is : (params : List Param) → list_all is_valid params ≡ true → AllByRecursion FitsWords params → AllByRecursion IsParameter params
each_is [] valid fit = tt
each_is (p ∷ ps) valid fit = (
  ((and_parts (is_valid p) (list_all is_valid ps) valid).0, fit.0),
  each_is ps (and_parts (is_valid p) (list_all is_valid ps) valid).1 fit.1,
)
