-- Lists that kernels overwrite from the front with a function of each index or of each element.
use Rattle.std.proofs.Common.{◌≡◌, ℕ, ◌+◌, ◌-◌, ◌<◌, ◌≤◌, Bool, false, List, length, get_or, set, take, drop, map, ap, ap₂, sym, ◌∙◌, arith}
use lib.Lanes.{zip2}
use Rattle.std.specs.List.{range_with_len}
use Rattle.std.proofs.lemmas.List.{get_or-map, length-map, map-set, length-set, length-take-le, get_or-append_right, get_or-drop}
use Rattle.std.proofs.lemmas.Simd.{length-zip2, get_or-zip2}
use Rattle.std.proofs.lemmas.List.FromFn.{get_or-map-range_with_len, length-map-range_with_len}
pub use Rattle.rv_decode.specs.OverlayLemmas.{overlaid, overlaid_all, overlaid_more, number_at, zip2_more as pair_more}

-- a kernel that writes a function of each index
pub place_more : {X : Type 0} (f : ℕ → X) (n i : ℕ) (old now : List X) (y : X) → now ≡ overlaid i (map f (range_with_len 0 n)) old → i < length old → n ≡ length old → y ≡ f i → set now i y ≡ overlaid (i + 1) (map f (range_with_len 0 n)) old
place_more f n i old now y e lt same is =
    let at : get_or (map f (range_with_len 0 n)) i y ≡ f i = get_or-map-range_with_len f 0 n i i y (omega arith) (omega arith) in
    overlaid_more i (map f (range_with_len 0 n)) old now y e lt (length-map-range_with_len f 0 n ∙ same) (at ∙ sym is)

pub place_all : {X : Type 0} (f : ℕ → X) (n i : ℕ) (old now : List X) → now ≡ overlaid i (map f (range_with_len 0 n)) old → length old ≤ i → n ≡ length old → now ≡ map f (range_with_len 0 n)
place_all f n i old now e end same = overlaid_all i (map f (range_with_len 0 n)) old now e end (length-map-range_with_len f 0 n ∙ same)

-- the same over the numbers of the elements
pub number_more : {X : Type 0} (number : X → ℕ) (f : ℕ → ℕ) (n i : ℕ) (old : List ℕ) (now : List X) (y : X) → map number now ≡ overlaid i (map f (range_with_len 0 n)) old → i < length old → n ≡ length old → number y ≡ f i → map number (set now i y) ≡ overlaid (i + 1) (map f (range_with_len 0 n)) old
number_more number f n i old now y e lt same is =
    map-set number now i y ∙ place_more f n i old (map number now) (number y) e lt same is

-- a kernel that writes a function of each element of another list
pub each_more : {A X : Type 0} (f : A → X) (xs : List A) (i : ℕ) (x : A) (old now : List X) (y : X) → now ≡ overlaid i (map f xs) old → i < length old → length xs ≡ length old → x ≡ get_or xs i x → y ≡ f x → set now i y ≡ overlaid (i + 1) (map f xs) old
each_more f xs i x old now y e lt same is_x is_y =
    let at : get_or (map f xs) i y ≡ f (get_or xs i x) = get_or-map f xs i x y (omega arith) in
    overlaid_more i (map f xs) old now y e lt (length-map xs f ∙ same) (at ∙ ap f (sym is_x) ∙ sym is_y)

-- an element past those that are written is as it was
still_past : {X : Type 0} (i k : ℕ) (new old now : List X) (d : X) → now ≡ overlaid i new old → i ≤ length old → length new ≡ length old → get_or now (i + k) d ≡ get_or old (i + k) d
still_past i k new old now d e le same =
    ap (λ l. get_or l (i + k) d) e
    ∙ get_or-append_right (take i new) (drop i old) i (i + k) d (length-take-le i new (omega (arith, le, same))) (omega arith)
    ∙ get_or-drop i old (i + k - i) d
    ∙ ap (λ t. get_or old t d) (omega arith)

-- a kernel that writes bit after bit what f makes of bits that were read, n at a time, from `head` and from ys
pub read_more : (f : Bool → Bool → Bool) (xs ys head now : List Bool) (at k n : ℕ) (x y z : Bool) → head ≡ overlaid at (zip2 f xs ys) xs → now ≡ overlaid (at + k) (zip2 f xs ys) xs → length ys ≡ length xs → length now ≡ length xs → at + n ≤ length xs → k < n
    → x ≡ get_or head (at + k) false → y ≡ get_or ys (at + k) false → z ≡ f x y
    → (length (set now (at + k) z) ≡ length xs) × (set now (at + k) z ≡ overlaid (at + (k + 1)) (zip2 f xs ys) xs)
read_more f xs ys head now at k n x y z is_head is_now same long room lt is_x is_y is_z =
    let whole : length (zip2 f xs ys) ≡ length xs = length-zip2 f xs ys (sym same) in
    let old : get_or head (at + k) false ≡ get_or xs (at + k) false = still_past at k (zip2 f xs ys) xs head false is_head (omega (arith, room)) whole in
    let there : get_or (zip2 f xs ys) (at + k) z ≡ z = get_or-zip2 f xs ys (at + k) false false z (omega (arith, room, lt)) (omega (arith, room, lt, same)) ∙ ap₂ f (sym old ∙ sym is_x) (sym is_y) ∙ sym is_z in
    let next : at + k + 1 ≡ at + (k + 1) = omega arith in (
      length-set now (at + k) z ∙ long,
      overlaid_more (at + k) (zip2 f xs ys) xs now z is_now (omega (arith, room, lt)) whole there ∙ ap (λ m. overlaid m (zip2 f xs ys) xs) next,
    )
