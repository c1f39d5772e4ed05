-- Lists that kernels overwrite from the front with what they make of two or three others.
use Rattle.std.proofs.Common.{◌≡◌, ℕ, ◌+◌, ◌<◌, List, [], ◌∷◌, length, get_or, set, ap, sym, ◌∙◌, arith}
use lib.Lanes.{zip2}
use Rattle.std.proofs.lemmas.List.{length-set}
use Rattle.std.proofs.lemmas.Simd.{length-zip2, get_or-zip2}
use Rattle.lane_int.specs.Lists.{zip3}
pub use Rattle.lane_int.specs.LaneLemmas.{length-zip3, get_or-zip3}
pub use Rattle.rv_decode.specs.OverlayLemmas.{overlaid, overlaid_more, get_or-overlaid, overlaid_all, zip2_more}

-- over something else
pub zip2_more_into : {A B C : Type 0} (f : A → B → C) (xs : List A) (ys : List B) (old now : List C) (i : ℕ) (x : A) (y : B) (z : C) → now ≡ overlaid i (zip2 f xs ys) old → i < length old → length xs ≡ length old → length ys ≡ length old → x ≡ get_or xs i x → y ≡ get_or ys i y → z ≡ f x y → set now i z ≡ overlaid (i + 1) (zip2 f xs ys) old
zip2_more_into f xs ys old now i x y z e lt same_x same_y is_x is_y is_z =
    let long = length-zip2 f xs ys (same_x ∙ sym same_y) in
    let at : get_or (zip2 f xs ys) i z ≡ f (get_or xs i x) (get_or ys i y) = get_or-zip2 f xs ys i x y z (omega arith) (omega arith) in
    overlaid_more i (zip2 f xs ys) old now z e lt (long ∙ same_x) cc

-- the same, k places after i, from what is known of the elements there
pub zip2_after_into : {A B C : Type 0} (f : A → B → C) (xs : List A) (ys : List B) (old now : List C) (i k : ℕ) (z : C) → now ≡ overlaid (i + k) (zip2 f xs ys) old → length now ≡ length old → i + k < length old → length xs ≡ length old → length ys ≡ length old → ((d : A) (e : B) → z ≡ f (get_or xs (i + k) d) (get_or ys (i + k) e))
    → (length (set now (i + k) z) ≡ length old) × (set now (i + k) z ≡ overlaid (i + (k + 1)) (zip2 f xs ys) old)
zip2_after_into f [] ys old now i k z e long lt same_x same_y is = absurd (omega (arith, lt, same_x))
zip2_after_into f (x ∷ xs) [] old now i k z e long lt same_x same_y is = absurd (omega (arith, lt, same_y))
zip2_after_into f (x ∷ xs) (y ∷ ys) old now i k z e long lt same_x same_y is =
    let rs = zip2 f (x ∷ xs) (y ∷ ys) in
    let all : length rs ≡ length (x ∷ xs) = length-zip2 f (x ∷ xs) (y ∷ ys) (same_x ∙ sym same_y) in
    let there : get_or rs (i + k) z ≡ z = get_or-zip2 f (x ∷ xs) (y ∷ ys) (i + k) x y z (omega (arith, lt, same_x)) (omega (arith, lt, same_y)) ∙ sym (is x y) in
    let next : i + k + 1 ≡ i + (k + 1) = omega arith in (
      length-set now (i + k) z ∙ long,
      overlaid_more (i + k) rs old now z e lt (all ∙ same_x) there ∙ ap (λ m. overlaid m rs old) next,
    )

-- over vs2's, with a third list
pub zip3_more_first : {A B C : Type 0} (f : A → B → C → A) (xs now : List A) (ys : List B) (zs : List C) (i : ℕ) (x : A) (y : B) (z : C) (r : A) → now ≡ overlaid i (zip3 f xs ys zs) xs → i < length xs → length ys ≡ length xs → length zs ≡ length xs → x ≡ get_or now i x → y ≡ get_or ys i y → z ≡ get_or zs i z → r ≡ f x y z → set now i r ≡ overlaid (i + 1) (zip3 f xs ys zs) xs
zip3_more_first f xs now ys zs i x y z r e lt same_y same_z is_x is_y is_z is_r =
    let long = length-zip3 f xs ys zs same_y same_z in
    let at : get_or (zip3 f xs ys zs) i r ≡ f (get_or xs i x) (get_or ys i y) (get_or zs i z) = get_or-zip3 f xs ys zs i x y z r lt (omega arith) (omega arith) in
    let old : get_or now i x ≡ get_or xs i x = rw e (get_or-overlaid i (zip3 f xs ys zs) xs x lt long) in
    overlaid_more i (zip3 f xs ys zs) xs now r e lt long cc

-- over the third list
pub zip3_more_third : {A B C : Type 0} (f : A → B → C → C) (xs : List A) (ys : List B) (zs now : List C) (i : ℕ) (x : A) (y : B) (z : C) (r : C) → now ≡ overlaid i (zip3 f xs ys zs) zs → i < length zs → length xs ≡ length zs → length ys ≡ length zs → x ≡ get_or xs i x → y ≡ get_or ys i y → z ≡ get_or now i z → r ≡ f x y z → set now i r ≡ overlaid (i + 1) (zip3 f xs ys zs) zs
zip3_more_third f xs ys zs now i x y z r e lt same_x same_y is_x is_y is_z is_r =
    let long = length-zip3 f xs ys zs (same_y ∙ sym same_x) (sym same_x) ∙ same_x in
    let at : get_or (zip3 f xs ys zs) i r ≡ f (get_or xs i x) (get_or ys i y) (get_or zs i z) = get_or-zip3 f xs ys zs i x y z r (omega arith) (omega arith) (omega arith) in
    let old : get_or now i z ≡ get_or zs i z = rw e (get_or-overlaid i (zip3 f xs ys zs) zs z lt long) in
    overlaid_more i (zip3 f xs ys zs) zs now r e lt long cc
