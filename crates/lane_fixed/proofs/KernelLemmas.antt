-- Numbers that are overwritten from the front, and whether an active one of them saturates.
use Rattle.std.proofs.Common.{◌≡◌, ℕ, ◌+◌, ◌<◌, ◌≤◌, Bool, true, false, ◌&&◌, ◌||◌, List, [], ◌∷◌, length, get_or, set, take, map, refl, ap, sym, ◌∙◌, arith}
use lib.Lanes.{zip2}
use Rattle.std.specs.List.{list_any}
use Rattle.std.proofs.lemmas.Simd.{length-zip2, get_or-zip2}
use Rattle.std.proofs.lemmas.List.Folds.{list_any-append}
use Rattle.std.proofs.lemmas.List.{take_more, take_all, length-map, map-set}
use Rattle.lane_fixed.specs.FixedPoint.{any_active}
pub use Rattle.rv_decode.specs.OverlayLemmas.{overlaid, overlaid_all, number_at}
use Rattle.rv_decode.specs.OverlayLemmas.{overlaid_more, get_or-overlaid}

or_false : (b : Bool) → (b || false) ≡ b
or_false true = refl
or_false false = refl

-- one more number is written: over those that are read, and over others
pub written_into : {X : Type 0} (number : X → ℕ) (f : ℕ → ℕ → ℕ) (xs ys old : List ℕ) (now : List X) (i x y : ℕ) (z : X) → map number now ≡ overlaid i (zip2 f xs ys) old → i < length old → length xs ≡ length old → length ys ≡ length old → x ≡ get_or xs i x → y ≡ get_or ys i y → number z ≡ f x y → map number (set now i z) ≡ overlaid (i + 1) (zip2 f xs ys) old
written_into number f xs ys old now i x y z e lt same_x same_y is_x is_y is_z =
    let long = length-zip2 f xs ys (same_x ∙ sym same_y) in
    let at : get_or (zip2 f xs ys) i (number z) ≡ f (get_or xs i x) (get_or ys i y) = get_or-zip2 f xs ys i x y (number z) (omega arith) (omega arith) in
    let is : get_or (zip2 f xs ys) i (number z) ≡ number z = cc in
    map-set number now i z ∙ overlaid_more i (zip2 f xs ys) old (map number now) (number z) e lt (long ∙ same_x) is

pub written_over : {X : Type 0} (number : X → ℕ) (f : ℕ → ℕ → ℕ) (xs ys : List ℕ) (now : List X) (i x y : ℕ) (z : X) → map number now ≡ overlaid i (zip2 f xs ys) xs → i < length xs → length ys ≡ length xs → x ≡ get_or xs i x → y ≡ get_or ys i y → number z ≡ f x y → map number (set now i z) ≡ overlaid (i + 1) (zip2 f xs ys) xs
written_over number f xs ys now i x y z e lt same is_x is_y is_z = written_into number f xs ys xs now i x y z e lt refl same is_x is_y is_z

-- an element that is not written yet
pub still_old : {X : Type 0} (number : X → ℕ) (new old : List ℕ) (now : List X) (i : ℕ) (r : X) → map number now ≡ overlaid i new old → i < length old → length new ≡ length old → i < length now → r ≡ get_or now i r → number r ≡ get_or old i (number r)
still_old number new old now i r e lt same inside is =
    number_at number now i r inside is ∙ ap (λ zs. get_or zs i (number r)) e ∙ get_or-overlaid i new old (number r) lt same

abbrev flags_of : (ℕ → ℕ → Bool) → List ℕ → List ℕ → List Bool → List Bool
flags_of test xs ys active = zip2 (λ is_active saturates. is_active && saturates) active (zip2 test xs ys)

-- whether one of the first i active elements saturates
abbrev pub any_before : ℕ → (ℕ → ℕ → Bool) → List ℕ → List ℕ → List Bool → Bool
any_before i test xs ys active = list_any (λ is. is) (take i (flags_of test xs ys active))

-- one more flag
any_more : (flags : List Bool) (i : ℕ) (flag : Bool) → i < length flags → get_or flags i flag ≡ flag → list_any (λ is. is) (take (i + 1) flags) ≡ (list_any (λ is. is) (take i flags) || flag)
any_more flags i flag lt is =
    rw (take_more flags i flag lt, is, list_any-append (λ b. b) (take i flags) (flag ∷ [])) (ap (λ b. list_any (λ c. c) (take i flags) || b) (or_false flag))

pub one_more : (test : ℕ → ℕ → Bool) (xs ys : List ℕ) (active : List Bool) (i x y : ℕ) (m flag new : Bool) → i < length xs → length ys ≡ length xs → length active ≡ length xs → x ≡ get_or xs i x → y ≡ get_or ys i y → m ≡ get_or active i false → flag ≡ any_before i test xs ys active → new ≡ (flag || (m && test x y)) → new ≡ any_before (i + 1) test xs ys active
one_more test xs ys active i x y m flag new lt same_y same_m is_x is_y is_m e is_new =
    let long : length (zip2 test xs ys) ≡ length xs = length-zip2 test xs ys (sym same_y) in
    let whole : length (flags_of test xs ys active) ≡ length active = length-zip2 (λ a s. a && s) active (zip2 test xs ys) (same_m ∙ sym long) in
    let at : get_or (zip2 test xs ys) i true ≡ test (get_or xs i x) (get_or ys i y) = get_or-zip2 test xs ys i x y true lt (omega arith) in
    let flagged : get_or (flags_of test xs ys active) i (m && test x y) ≡ (get_or active i false && get_or (zip2 test xs ys) i true) =
    get_or-zip2 (λ a s. a && s) active (zip2 test xs ys) i false true (m && test x y) (omega arith) (omega arith) in
    let is : get_or (flags_of test xs ys active) i (m && test x y) ≡ (m && test x y) = cc in
    let more = any_more (flags_of test xs ys active) i (m && test x y) (omega arith) is in
    is_new ∙ ap (λ b. b || (m && test x y)) e ∙ sym more

pub any_all : (test : ℕ → ℕ → Bool) (xs ys : List ℕ) (active : List Bool) (i : ℕ) (flag : Bool) → length xs ≤ i → length ys ≡ length xs → length active ≡ length xs → flag ≡ any_before i test xs ys active → flag ≡ any_active test xs ys active
unfolding any_active
any_all test xs ys active i flag end same_y same_m e =
    let long : length (zip2 test xs ys) ≡ length xs = length-zip2 test xs ys (sym same_y) in
    let whole : length (flags_of test xs ys active) ≡ length active = length-zip2 (λ a s. a && s) active (zip2 test xs ys) (same_m ∙ sym long) in
    e ∙ ap (λ flags. list_any (λ is. is) flags) (take_all i (flags_of test xs ys active) (omega arith))

-- ---- over elements, by their numbers: vs and bs are read, and what is written over `old` stands in `now`

-- one more element is written
pub one_done : {V B R : Type 0} (nv : V → ℕ) (nb : B → ℕ) (nr : R → ℕ) (f : ℕ → ℕ → ℕ) (test : ℕ → ℕ → Bool) (vs : List V) (bs : List B) (active : List Bool) (old now : List R) (i : ℕ) (v : V) (b : B) (z : R) (flag new : Bool)
    → i < length old → length vs ≡ length old → length bs ≡ length old → length active ≡ length old
    → nv v ≡ get_or (map nv vs) i (nv v) → nb b ≡ get_or (map nb bs) i (nb b)
    → nr z ≡ f (nv v) (nb b) → new ≡ (flag || (get_or active i false && test (nv v) (nb b)))
    → map nr now ≡ overlaid i (zip2 f (map nv vs) (map nb bs)) (map nr old) → flag ≡ any_before i test (map nv vs) (map nb bs) active
    → (map nr (set now i z) ≡ overlaid (i + 1) (zip2 f (map nv vs) (map nb bs)) (map nr old)) × (new ≡ any_before (i + 1) test (map nv vs) (map nb bs) active)
one_done nv nb nr f test vs bs active old now i v b z flag new lt same_v same_b same_a is_v is_b is_z is_new written flagged =
    let long_v : length (map nv vs) ≡ length vs = length-map vs nv in
    let long_b : length (map nb bs) ≡ length bs = length-map bs nb in
    let long : length (map nr old) ≡ length old = length-map old nr in (
      written_into nr f (map nv vs) (map nb bs) (map nr old) now i (nv v) (nb b) z written (omega arith) (omega arith) (omega arith) is_v is_b is_z,
      one_more test (map nv vs) (map nb bs) active i (nv v) (nb b) (get_or active i false) flag new (omega arith) (omega arith) (omega arith) is_v is_b refl flagged is_new,
    )

-- all of them are
pub all_done : {V B R : Type 0} (nv : V → ℕ) (nb : B → ℕ) (nr : R → ℕ) (f : ℕ → ℕ → ℕ) (vs : List V) (bs : List B) (old now : List R) (i : ℕ)
    → length old ≤ i → length vs ≡ length old → length bs ≡ length old → map nr now ≡ overlaid i (zip2 f (map nv vs) (map nb bs)) (map nr old)
    → map nr now ≡ zip2 f (map nv vs) (map nb bs)
all_done nv nb nr f vs bs old now i end same_v same_b written =
    let long_v : length (map nv vs) ≡ length vs = length-map vs nv in
    let long_b : length (map nb bs) ≡ length bs = length-map bs nb in
    let long : length (map nr old) ≡ length old = length-map old nr in
    let whole : length (zip2 f (map nv vs) (map nb bs)) ≡ length (map nv vs) = length-zip2 f (map nv vs) (map nb bs) (omega arith) in
    overlaid_all i (zip2 f (map nv vs) (map nb bs)) (map nr old) (map nr now) written (omega arith) (omega arith)

pub flag_done : {V B : Type 0} (nv : V → ℕ) (nb : B → ℕ) (test : ℕ → ℕ → Bool) (vs : List V) (bs : List B) (active : List Bool) (i : ℕ) (flag : Bool)
    → length vs ≤ i → length bs ≡ length vs → length active ≡ length vs → flag ≡ any_before i test (map nv vs) (map nb bs) active
    → flag ≡ any_active test (map nv vs) (map nb bs) active
flag_done nv nb test vs bs active i flag end same_b same_a flagged =
    let long_v : length (map nv vs) ≡ length vs = length-map vs nv in
    let long_b : length (map nb bs) ≡ length bs = length-map bs nb in
    any_all test (map nv vs) (map nb bs) active i flag (omega arith) (omega arith) (omega arith) flagged
