-- The accesses of a vector load or store as one list, the lowest-numbered element's first, and what
-- is done with memory by that list, wherever it comes from ("Vector Loads and Stores"). Only active
-- elements access memory.
use Rattle.std.specs.Prelude.{◌≡◌, ℕ, ◌<◌, ◌+◌, ◌*◌, ◌%◌, ◌^◌, Bool, false, true, not, List, length, map, filter, find, replicate, slice_index, slice_index_or, slice_set, Option, unwrap_or}
use Rattle.std.specs.List.{fold, range_with_len}
use Rattle.region_mem.specs.Memory.{is_permitted, load_of, store_of}
use Rattle.vector_mem.specs.Words.{Access, Memory, Right}

-- element i lies at place i, modulo 2^32
abbrev pub access_at : Right → ℕ → (ℕ → ℕ) → ℕ → Access
access_at right size place i =
    record { element = i; address = place i % 2 ^ 32; size = size; right = right }

-- the accesses of n elements of the body from number i on, and of all
abbrev pub accesses_from : Right → ℕ → (ℕ → ℕ) → List Bool → ℕ → ℕ → List Access
accesses_from right size place active i n =
    map (access_at right size place)
    (filter (λ k. slice_index_or active k false) (range_with_len i n))

unfoldable pub accesses : Right → ℕ → (ℕ → ℕ) → List Bool → List Access
accesses right size place active = accesses_from right size place active 0 (length active)

-- the elements lie `stride` bytes apart from `base` on; with unit stride, as far apart as an
-- element is long
abbrev pub strided : ℕ → ℕ → ℕ → ℕ
strided base stride i = base + stride * i

-- each element lies as far from `base` as its index says
abbrev pub indexed : ℕ → List ℕ → ℕ → ℕ
indexed base indices i = base + slice_index indices i

-- what a function answers of each of n elements, by its postcondition, is where the element lies
abbrev pub AreAddresses : (ℕ → ℕ → Type 0) → (ℕ → ℕ) → ℕ → Type 0
AreAddresses post place n = (i a : ℕ) → i < n → post i a → a ≡ place i % 2 ^ 32

-- those of n elements, all of them active, one after another from `base` on
abbrev pub in_a_row : Right → ℕ → ℕ → ℕ → List Access
in_a_row right size base n = accesses right size (strided base size) (replicate n true)

-- the first access that is not permitted
abbrev pub is_refused : Memory → Access → Bool
is_refused memory a = not (is_permitted a.right a.address a.size memory)

unfoldable pub first_refused : List Access → Memory → Option Access
first_refused list memory = find (is_refused memory) list

-- the element of `size` bytes in the low bits of a number
unfoldable pub low_bits : ℕ → ℕ → ℕ
low_bits size n = n % 256 ^ size

-- what a load gives for the elements of the body; an inactive one has no result, and 0
-- stands in its place
abbrev pub with_loaded : Memory → List ℕ → Access → List ℕ
with_loaded memory values a =
    slice_set values a.element (low_bits a.size (unwrap_or (load_of a.address a.size memory) 0))

unfoldable pub loaded : ℕ → List Access → Memory → List ℕ
loaded vl list memory = fold (with_loaded memory) (replicate vl 0) list

-- memory after a store of the elements, the lowest-numbered first
abbrev pub with_stored : List ℕ → Memory → Access → Memory
with_stored values memory a =
    unwrap_or (store_of a.address a.size (slice_index values a.element) memory) memory

unfoldable pub stored : List Access → List ℕ → Memory → Memory
stored list values memory = fold (with_stored values) memory list

-- the access of an element below n, of this size, with this right
pub record IsAccessOf (right : Right) (size n : ℕ) (a : Access) : Type 0 where
  pub right_is : a.right ≡ right
  pub size_is : a.size ≡ size
  pub element : a.element < n
