-- The numbers of elements that were moved are the numbers of the elements, moved.
use Rattle.std.proofs.Common.{◌≡◌, ℕ, ◌+◌, ◌-◌, ◌%◌, ◌^◌, Bool, true, false, List, [], ◌∷◌, ◌++◌, take, get_or, length, map, ap, zero, suc, refl}
use Rattle.std.proofs.lemmas.List.{drop-map, length-map, map-append, take-map}
use Rattle.std.specs.List.{range_with_len}
use Rattle.lane_masks.specs.Folds.{kept}
use Rattle.lane_masks.specs.Permutations.{gathered, slid_down, slid_one_down, slid_one_up, slid_up}
use mir.Val.{bits}
use Rattle.rv_decode.specs.Instructions.{bytes_of_width}
use Rattle.rv_decode.specs.declared.instructions.Width.{Width}
use Rattle.rv_decode.specs.declared.instructions.Width.TheVariants.{W8, W16, W32}
use Rattle.vector_core.specs.Integer.{lane_width}
use Rattle.vector_mem.specs.Accesses.{low_bits}

-- a lane's width and an element's size are those of one SEW
pub low_is : (sew : Width) (n : ℕ) → n % 2 ^ bits (lane_width sew) ≡ low_bits (bytes_of_width sew) n
unfolding low_bits
low_is W8 n = refl
low_is W16 n = refl
low_is W32 n = refl

-- the default is looked up like an element
got : {A : Type 0} (number : A → ℕ) (xs : List A) (i : ℕ) (d : A) (n : ℕ) → number d ≡ n → number (get_or xs i d) ≡ get_or (map number xs) i n
got number [] i d n is = is
got number (x ∷ xs) zero d n is = refl
got number (x ∷ xs) (suc i) d n is = got number xs i d n is

pub slid_up_numbers : {A : Type 0} (number : A → ℕ) (offset : ℕ) (source old : List A) → map number (slid_up offset source old) ≡ slid_up offset (map number source) (map number old)
unfolding slid_up
slid_up_numbers number offset source old =
    let split = map-append number (take offset old) (take (length old - offset) source) in
    let front = take-map number offset old in
    let back = take-map number (length old - offset) source in
    let long = length-map old number in
    cc

pub slid_one_up_numbers : {A : Type 0} (number : A → ℕ) (x : A) (body : List A) → map number (slid_one_up x body) ≡ slid_one_up (number x) (map number body)
unfolding slid_one_up
slid_one_up_numbers number x body =
    let front = take-map number (length body) (x ∷ body) in
    let long = length-map body number in
    cc

pub slid_one_down_numbers : {A : Type 0} (number : A → ℕ) (x : A) (body : List A) → map number (slid_one_down x body) ≡ slid_one_down (number x) (map number body)
unfolding slid_one_down
slid_one_down_numbers number x body =
    let split = map-append number body (x ∷ []) in
    let rest = drop-map number 1 (body ++ x ∷ []) in
    cc

gathered_at : {A : Type 0} (number : A → ℕ) (at : ℕ → ℕ) (source : List A) (d : A) (is : List ℕ) → number d ≡ 0 → map number (map (λ i. get_or source (at i) d) is) ≡ map (λ i. get_or (map number source) (at i) 0) is
gathered_at number at source d [] none = refl
gathered_at number at source d (i ∷ is) none =
    let head = got number source (at i) d 0 none in
    let tail = gathered_at number at source d is none in
    cc

pub slid_down_numbers : {A : Type 0} (number : A → ℕ) (offset : ℕ) (source : List A) (d : A) (count : ℕ) → number d ≡ 0 → map number (slid_down offset source d count) ≡ slid_down offset (map number source) 0 count
unfolding slid_down
slid_down_numbers number offset source d count none = gathered_at number (λ i. i + offset) source d (range_with_len 0 count) none

pub gathered_numbers : {A : Type 0} (number : A → ℕ) (source : List A) (d : A) (indices : List ℕ) → number d ≡ 0 → map number (gathered source d indices) ≡ gathered (map number source) 0 indices
unfolding gathered
gathered_numbers number source d indices none = gathered_at number (λ i. i) source d indices none

kept_one : {A : Type 0} (number : A → ℕ) (bit : Bool) (bits : List Bool) (x : A) (xs : List A) → map number (kept bits xs) ≡ kept bits (map number xs) → map number (kept (bit ∷ bits) (x ∷ xs)) ≡ kept (bit ∷ bits) (map number (x ∷ xs))
unfolding kept
kept_one number true bits x xs rest = ap (λ l. number x ∷ l) rest
kept_one number false bits x xs rest = rest

pub kept_numbers : {A : Type 0} (number : A → ℕ) (bits : List Bool) (xs : List A) → map number (kept bits xs) ≡ kept bits (map number xs)
unfolding kept
kept_numbers number [] xs = refl
kept_numbers number (bit ∷ bits) [] = refl
kept_numbers number (bit ∷ bits) (x ∷ xs) = kept_one number bit bits x xs (kept_numbers number bits xs)
