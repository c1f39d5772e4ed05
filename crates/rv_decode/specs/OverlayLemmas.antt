-- A list that is overwritten from the front: the first i elements are those of `new`, the rest those of `old`. The
-- kernels of all lanes go so through their lists, and this is the one crate that they all stand on.
use Rattle.std.proofs.Common.{◌≡◌, ℕ, ◌+◌, ◌<◌, ◌≤◌, List, ◌++◌, length, get_or, set, take, drop, map, refl, ap, sym, ◌∙◌, arith, append-nil}
use lib.Lanes.{zip2}
use Rattle.std.proofs.Math.Nat.{sub_self}
use Rattle.std.proofs.lemmas.Simd.{length-zip2, get_or-zip2}
use Rattle.std.proofs.lemmas.List.{append_assoc, get_or-map, length-take-le, take_all, take_more, drop_all, drop_more, get_or-append_right, set-append_right}

abbrev pub overlaid : {X : Type 0} → ℕ → List X → List X → List X
overlaid i new old = take i new ++ drop i old

-- one more element is written
pub overlaid_more : {X : Type 0} (i : ℕ) (new old now : List X) (y : X) → now ≡ overlaid i new old → i < length old → length new ≡ length old → get_or new i y ≡ y → set now i y ≡ overlaid (i + 1) new old
overlaid_more i new old now y e lt same is = rw (e, set-append_right (take i new) (drop i old) i i y (length-take-le i new (omega arith)) (omega arith), sub_self, drop_more old i y lt, take_more new i y (omega arith), is, append_assoc) refl

-- what is not written yet is old
pub get_or-overlaid : {X : Type 0} (i : ℕ) (new old : List X) (d : X) → i < length old → length new ≡ length old → get_or (overlaid i new old) i d ≡ get_or old i d
get_or-overlaid i new old d lt same = rw (get_or-append_right (take i new) (drop i old) i i d (length-take-le i new (omega arith)) (omega arith), sub_self, drop_more old i d lt) refl

pub overlaid_all : {X : Type 0} (i : ℕ) (new old now : List X) → now ≡ overlaid i new old → length old ≤ i → length new ≡ length old → now ≡ new
overlaid_all i new old now e end same = rw (e, take_all i new (omega arith), drop_all i old (omega arith), append-nil)

-- a kernel writes one more element: over vs2's
pub zip2_more : {A B : Type 0} (f : A → B → A) (xs now : List A) (ys : List B) (i : ℕ) (x : A) (y : B) (z : A) → now ≡ overlaid i (zip2 f xs ys) xs → i < length xs → length ys ≡ length xs → x ≡ get_or now i x → y ≡ get_or ys i y → z ≡ f x y → set now i z ≡ overlaid (i + 1) (zip2 f xs ys) xs
zip2_more f xs now ys i x y z e lt same is_x is_y is_z =
    let long = length-zip2 f xs ys (sym same) in
    let at : get_or (zip2 f xs ys) i z ≡ f (get_or xs i x) (get_or ys i y) = get_or-zip2 f xs ys i x y z lt (omega arith) in
    let old : get_or now i x ≡ get_or xs i x = rw e (get_or-overlaid i (zip2 f xs ys) xs x lt long) in
    overlaid_more i (zip2 f xs ys) xs now z e lt long cc

-- the number of an element that was read
pub number_at : {X : Type 0} (f : X → ℕ) (xs : List X) (i : ℕ) (r : X) → i < length xs → r ≡ get_or xs i r → f r ≡ get_or (map f xs) i (f r)
number_at f xs i r lt is = ap f is ∙ sym (get_or-map f xs i r (f r) lt)
