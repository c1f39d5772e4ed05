-- Laws of memory: what its definitions give, whatever the image, the parameters and the arguments
-- that match them.
use Rattle.std.specs.Prelude.{◌≡◌, ℕ, ◌+◌, ◌*◌, ◌^◌, ◌<◌, ◌≤◌, Bool, true, false, List, length, take, drop, map, flat_map, slice_index, All, Some, None, unwrap_or}
use Rattle.std.specs.List.{AllByRecursion, list_all, fold, range_with_len}
use Rattle.region_mem.specs.Words.{Param, Arg, Read, Write, Fetch, HIGH_SEGMENTS_END}
use Rattle.elf_image.specs.Image.{ImageView, IsImage, code_at}
use Rattle.region_mem.specs.Parameter.{Argument, is_valid, AreArguments}
use Rattle.region_mem.specs.Areas.{Area, AreInOrder, AreInside, is_open, number_at, number_of, bytes_of}
use Rattle.region_mem.specs.Memory.{Memory, IsAccessSize, args_of, byte_of, fetch_of, is_permitted, load_of, store_of, window_of, has_window, with_window, overlaid_window}
use Rattle.region_mem.specs.Start.{start_memory}

-- what is so of each image, each eight valid parameters, and the arguments that match them
abbrev pub ForEachStart : (ImageView → List Param → List Argument → Type 0) → Type 0
ForEachStart P =
    (image : ImageView) (params : List Param) (args : List Argument) → IsImage image →
    list_all is_valid params ≡ true → length params ≡ 8 → length args ≡ 8 →
    AreArguments params args → P image params args

-- The areas that a run starts with stand in order.
abbrev pub StartsInOrder : Type 0
StartsInOrder =
    ForEachStart (λ image params args. AreInOrder 0 (start_memory image params args).areas)

-- None of them passes the last address.
abbrev pub StartsInside : Type 0
StartsInside =
    ForEachStart (λ image params args. AreInside (start_memory image params args).areas)

-- The memory that a run starts with gives back what it was passed.
abbrev pub GivesArgumentsBack : Type 0
GivesArgumentsBack =
    ForEachStart (λ image params args. args_of (start_memory image params args) ≡ args)

-- where an area lies and what may be done with it, whatever its bytes
pub record Extent : Type 0 where
  pub first : ℕ
  pub size : ℕ
  pub read : Bool
  pub write : Bool
  pub fetch : Bool

unfoldable pub extent_of : Area → Extent
extent_of area = record {
  first = area.first;
  size = length area.bytes;
  read = area.read;
  write = area.write;
  fetch = area.fetch;
}

-- The areas lie in the same places with the same rights, and the same was passed.
abbrev pub HasExtentsOf : Memory → Memory → Type 0
HasExtentsOf memory other =
    (map extent_of memory.areas ≡ map extent_of other.areas) × (memory.passed ≡ other.passed)

-- A store moves no area, and changes no right and nothing of what was passed.
abbrev pub StoresKeepExtents : Type 0
StoresKeepExtents =
    (address n value : ℕ) (memory stored : Memory) → store_of address n value memory ≡ Some stored →
    HasExtentsOf stored memory

-- It changes no byte that may not be written.
abbrev pub StoresKeepUnwritable : Type 0
StoresKeepUnwritable =
    (address n value x : ℕ) (memory stored : Memory)
    → store_of address n value memory ≡ Some stored →
    is_open Write memory.areas x ≡ false → byte_of x stored ≡ byte_of x memory

-- No word is fetched from the end of the segments' places on, at the start or after any stores:
-- EXIT lies there.
abbrev pub FetchesNothingAbove : Type 0
FetchesNothingAbove =
    ForEachStart (λ image params args. (memory : Memory) →
    HasExtentsOf memory (start_memory image params args) →
    (pc : ℕ) → HIGH_SEGMENTS_END ≤ pc → fetch_of pc memory ≡ None)

-- The code of an image is in memory: each of its words is fetched at its address.
abbrev pub HasCode : ImageView → Memory → Type 0
HasCode image memory =
    (pc word : ℕ) → code_at pc image ≡ Some word → fetch_of pc memory ≡ Some word

-- No byte that may be fetched may be written.
abbrev pub IsCodeSafe : Memory → Type 0
IsCodeSafe memory =
    (x : ℕ) → is_open Fetch memory.areas x ≡ true → is_open Write memory.areas x ≡ false

-- A run starts with the code of its image in memory,
abbrev pub StartsWithCode : Type 0
StartsWithCode = ForEachStart (λ image params args. HasCode image (start_memory image params args))

-- where no store can reach it.
abbrev pub StartsCodeSafe : Type 0
StartsCodeSafe = ForEachStart (λ image params args. IsCodeSafe (start_memory image params args))

-- Where no byte that may be fetched may be written a store keeps it so, and changes nothing of
-- what is fetched.
abbrev pub StoresKeepCode : Type 0
StoresKeepCode =
    (address n value : ℕ) (memory stored : Memory) → IsCodeSafe memory →
    store_of address n value memory ≡ Some stored →
    IsCodeSafe stored × ((pc : ℕ) → fetch_of pc stored ≡ fetch_of pc memory)

-- What the areas hold are bytes.
abbrev pub AreBytes : Memory → Type 0
AreBytes memory = AllByRecursion (λ area. All (λ byte. byte < 256) area.bytes) memory.areas

-- What a buffer brings are bytes.
abbrev pub BringsBytes : Argument → Type 0
BringsBytes Arg.None = Unit {0}
BringsBytes (Arg.Scalar value) = Unit {0}
BringsBytes (Arg.Buffer bytes) = All (λ byte. byte < 256) bytes

-- They are at the start, if those of each buffer are,
abbrev pub StartsWithBytes : Type 0
StartsWithBytes =
    (image : ImageView) (params : List Param) (args : List Argument) → IsImage image →
    AllByRecursion BringsBytes args → AreBytes (start_memory image params args)

-- and after a store.
abbrev pub StoresKeepBytes : Type 0
StoresKeepBytes =
    (address n value : ℕ) (memory stored : Memory) → AreBytes memory →
    store_of address n value memory ≡ Some stored → AreBytes stored

-- The number in n of them is below 256 ^ n,
abbrev pub NumbersFit : Type 0
NumbersFit =
    (address n : ℕ) (memory : Memory) → AreBytes memory → number_at address n memory.areas < 256 ^ n

-- so what a load gives fits 32 bits.
abbrev pub LoadsFit : Type 0
LoadsFit =
    (memory : Memory) → AreBytes memory →
    (address n value : ℕ) → IsAccessSize n → load_of address n memory ≡ Some value → value < 2 ^ 32

-- A window to read has as many bytes as were asked for, and ends at the last address or before it.
abbrev pub WindowsToRead : Memory → Type 0
WindowsToRead memory =
    (address n : ℕ) (bytes : List ℕ) → window_of address n memory ≡ Some bytes →
    (length bytes ≡ n) × (address + n ≤ 2 ^ 32)

-- A load of k bytes within it is permitted, and gives their number.
abbrev pub LoadsInWindows : Memory → Type 0
LoadsInWindows memory =
    (address n i k : ℕ) (bytes : List ℕ) → window_of address n memory ≡ Some bytes → i + k ≤ n →
    (is_permitted Read (address + i) k memory ≡ true)
    × (load_of (address + i) k memory ≡ Some (number_of (take k (drop i bytes))))

-- A window to write ends at the last address or before it.
abbrev pub WindowsToWrite : Memory → Type 0
WindowsToWrite memory =
    (address n : ℕ) → has_window address n memory ≡ true → address + n ≤ 2 ^ 32

-- A store of k bytes within it is permitted.
abbrev pub StoresInWindows : Memory → Type 0
StoresInWindows memory =
    (address n i k : ℕ) → has_window address n memory ≡ true → i + k ≤ n →
    is_permitted Write (address + i) k memory ≡ true

-- Values of `size` bytes that are stored end to end, the first one first, fill it with their bytes.
-- `place` says where each is stored.
abbrev pub StoresFillWindows : Memory → Type 0
StoresFillWindows memory =
    (place : ℕ → ℕ) (address size : ℕ) (values : List ℕ) →
    has_window address (size * length values) memory ≡ true →
    ((i : ℕ) → i < length values → place i ≡ address + size * i) →
    fold (λ m i. unwrap_or (store_of (place i) size (slice_index values i) m) m) memory
    (range_with_len 0 (length values))
    ≡ with_window address (flat_map (bytes_of size) values) memory

-- What was written to a window that was lent stands there.
abbrev pub LentWindowsAreWritten : Memory → Type 0
LentWindowsAreWritten memory =
    (address : ℕ) (bytes : List ℕ) → 0 < length bytes →
    has_window address (length bytes) memory ≡ true →
    overlaid_window address memory bytes ≡ with_window address bytes memory
