-- Elements that are moved ("Vector Permutation Instructions"). Each result is a function of the
-- elements before. A `source` that is read past the body's end, by slides down and gathers, is all
-- that vs2's group has, up to VLMAX.
use Rattle.std.specs.Prelude.{ℕ, ◌+◌, ◌-◌, List, [], ◌∷◌, ◌++◌, length, take, drop, map, slice_index_or}
use Rattle.std.specs.List.{range_with_len}

-- vslideup: below the offset the old elements stay
unfoldable pub slid_up : {A : Type 0} → ℕ → List A → List A → List A
slid_up offset source old = take offset old ++ take (length old - offset) source

-- vslidedown: past the end of the source `zero` comes in
unfoldable pub slid_down : {A : Type 0} → ℕ → List A → A → ℕ → List A
slid_down offset source zero count =
    map (λ i. slice_index_or source (i + offset) zero) (range_with_len 0 count)

-- vslide1up and vslide1down of the body's elements: x comes in at the low end, or at the high end
unfoldable pub slid_one_up : {A : Type 0} → A → List A → List A
slid_one_up x body = take (length body) (x ∷ body)

unfoldable pub slid_one_down : {A : Type 0} → A → List A → List A
slid_one_down x body = drop 1 (body ++ x ∷ [])

-- vrgather: the elements at the indices, and `zero` past the end
unfoldable pub gathered : {A : Type 0} → List A → A → List ℕ → List A
gathered source zero indices = map (λ i. slice_index_or source i zero) indices
