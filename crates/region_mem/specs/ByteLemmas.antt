-- Memory holds bytes: at the start, and after each store; so what is read of it is a number of its size.
use Rattle.std.proofs.Common.{◌≡◌, inl, inr, ℕ, zero, suc, ◌+◌, ◌-◌, ◌^◌, ◌<◌, Bool, true, false, cond, List, [], ◌∷◌, length, map, find, Some, None, unwrap_or, slice_index, arith, refl, subst}
use Rattle.std.specs.List.{All, AllByRecursion, range_with_len}
use Rattle.std.specs.Option.{option_map}
use Rattle.std.specs.Int.{bytes_low_first}
use Rattle.std.specs.Int as int
use Rattle.std.proofs.lemmas.Bool.{cases_lt}
use Rattle.std.proofs.lemmas.List.{get_or_past}
use Rattle.std.proofs.lemmas.List.Elements.{All-set, All-append, All-replicate, All-get_or}
use Rattle.std.proofs.lemmas.List.FromFn.{get_or-map-range_with_len, length-map-range_with_len}
use Rattle.byteorder.specs.Numbers.{little_from-lt}
use Rattle.elf_image.specs.Image.{SegmentView, IsSegment}
use Rattle.region_mem.specs.Words.{Param, Arg, Read}
use Rattle.region_mem.specs.Areas.{Area, holds, byte_at, bytes_of, number_of, number_at, with_byte, with_bytes, with_number}
use Rattle.region_mem.specs.Memory.{Memory, IsAccessSize, is_permitted, load_of}
use Rattle.region_mem.specs.Parameter.{Argument}
use Rattle.region_mem.specs.Start.{zeros, segment_area, stack_area, buffer_area, buffer_areas, insert_area, insert_areas, start_areas, start_memory}
use Rattle.region_mem.specs.Laws.{AreBytes, BringsBytes, StartsWithBytes, StoresKeepBytes, NumbersFit, LoadsFit}
use Rattle.region_mem.specs.ApartLemmas.{all_insert, all_inserts}
use Rattle.region_mem.specs.KeptCodeLemmas.{read, stored_is}
use Rattle.region_mem.specs.WriteLemmas.{written}

abbrev HoldsBytes : Area → Type 0
HoldsBytes area = All (λ byte. byte < 256) area.bytes

-- The areas of the start hold bytes.
zeros_bytes : (n : ℕ) → All (λ byte. byte < 256) (zeros n)
unfolding zeros
zeros_bytes n = All-replicate (λ byte. byte < 256) n 0 (omega arith)

segments_bytes : (ss : List SegmentView) → AllByRecursion IsSegment ss → AllByRecursion HoldsBytes (map segment_area ss)
unfolding segment_area
segments_bytes [] all = tt
segments_bytes (s ∷ ss) all =
    (All-append (λ byte. byte < 256) s.bytes (zeros (s.memory_size - length s.bytes)) all.0.are_bytes (zeros_bytes (s.memory_size - length s.bytes)), segments_bytes ss all.1)

buffers_bytes : (params : List Param) (place : ℕ) (args : List Argument) → AllByRecursion BringsBytes args → AllByRecursion HoldsBytes (buffer_areas params place args)
unfolding buffer_areas buffer_area
buffers_bytes params place [] all = tt
buffers_bytes params place (Arg.None ∷ args) all = buffers_bytes params (place + 1) args all.1
buffers_bytes params place (Arg.Scalar value ∷ args) all = buffers_bytes params (place + 1) args all.1
buffers_bytes params place (Arg.Buffer bytes ∷ args) all = (all.0, buffers_bytes params (place + 1) args all.1)

stack_bytes : HoldsBytes stack_area
unfolding stack_area
stack_bytes = zeros_bytes _

pub starts_with_bytes : StartsWithBytes
unfolding start_memory start_areas
starts_with_bytes image params args is brings =
    let segments = map segment_area image.segments in
    let fixed = all_insert HoldsBytes stack_area (insert_areas segments []) stack_bytes (all_inserts HoldsBytes segments [] (segments_bytes image.segments is.each) tt) in
    all_inserts HoldsBytes (buffer_areas params 0 args) (insert_area stack_area (insert_areas segments [])) (buffers_bytes params 0 args brings) fixed

-- A store keeps that.
byte_step : (address byte : ℕ) (area : Area) (areas : List Area) (b : Bool) → byte < 256 → HoldsBytes area → AllByRecursion HoldsBytes areas →
    AllByRecursion HoldsBytes (with_byte address byte areas) → AllByRecursion HoldsBytes (cond b (written address byte area ∷ areas) (area ∷ with_byte address byte areas))
byte_step address byte area areas true small here all rest = (All-set (λ byte. byte < 256) area.bytes (address - area.first) byte small here, all)
byte_step address byte area areas false small here all rest = (here, rest)

byte_keeps : (address byte : ℕ) (areas : List Area) → byte < 256 → AllByRecursion HoldsBytes areas → AllByRecursion HoldsBytes (with_byte address byte areas)
unfolding with_byte
byte_keeps address byte [] small all = tt
byte_keeps address byte (area ∷ areas) small all = byte_step address byte area areas (holds address area) small all.0 all.1 (byte_keeps address byte areas small all.1)

bytes_keep : (address : ℕ) (bytes : List ℕ) (areas : List Area) → AllByRecursion (λ byte. byte < 256) bytes → AllByRecursion HoldsBytes areas → AllByRecursion HoldsBytes (with_bytes address bytes areas)
unfolding with_bytes
bytes_keep address [] areas small all = all
bytes_keep address (byte ∷ bytes) areas small all = bytes_keep (address + 1) bytes (with_byte address byte areas) small.1 (byte_keeps address byte areas small.0 all)

low_byte : (i x : ℕ) → int.byte_at i x < 256
low_byte zero x = omega arith
low_byte (suc i) x = omega arith

low_bytes : (i n x : ℕ) → AllByRecursion (λ byte. byte < 256) (bytes_low_first i n x)
low_bytes i zero x = tt
low_bytes i (suc n) x = (low_byte i x, low_bytes (suc i) n x)

number_keeps : (address n value : ℕ) (areas : List Area) → AllByRecursion HoldsBytes areas → AllByRecursion HoldsBytes (with_number address n value areas)
unfolding with_number bytes_of
number_keeps address n value areas all = bytes_keep address (bytes_low_first 0 n value) areas (low_bytes 0 n value) all

pub stores_keep_bytes : StoresKeepBytes
stores_keep_bytes address n value memory stored bytes e =
    let P : List Area → Type 0 = λ areas. AllByRecursion HoldsBytes areas in
    subst P (stored_is address n value memory stored e).1 (number_keeps address n value memory.areas bytes)

-- What is read is a number of its size.
slice_small : (bytes : List ℕ) (i : ℕ) → All (λ byte. byte < 256) bytes → slice_index bytes i < 256
slice_small bytes i all =
    elim (cases_lt i (length bytes)) [
      | inl lt ↦ All-get_or (λ byte. byte < 256) bytes i 0 lt all
      | inr ge ↦ rw (get_or_past bytes i 0 ge) (omega arith)
    ]

small_step : (x : ℕ) (area : Area) (areas : List Area) (b : Bool) → HoldsBytes area → unwrap_or (option_map (read x) (find (holds x) areas)) 0 < 256 →
    unwrap_or (option_map (read x) (cond b (Some area) (find (holds x) areas))) 0 < 256
unfolding read
small_step x area areas true here rest = slice_small area.bytes (x - area.first) here
small_step x area areas false here rest = rest

found_small : (x : ℕ) (areas : List Area) → AllByRecursion HoldsBytes areas → unwrap_or (option_map (read x) (find (holds x) areas)) 0 < 256
found_small x [] all = omega arith
found_small x (area ∷ areas) all = small_step x area areas (holds x area) all.0 (found_small x areas all.1)

byte_small : (x : ℕ) (areas : List Area) → AllByRecursion HoldsBytes areas → unwrap_or (byte_at x areas) 0 < 256
unfolding byte_at read
byte_small x areas all = found_small x areas all

bytes_small : (address n k : ℕ) (areas : List Area) → AllByRecursion HoldsBytes areas → slice_index (map (λ at. unwrap_or (byte_at at areas) 0) (range_with_len address n)) k < 256
bytes_small address n k areas all =
    elim (cases_lt k n) [
      | inl lt ↦ rw (get_or-map-range_with_len (λ at. unwrap_or (byte_at at areas) 0) address n k (address + k) 0 lt refl) (byte_small (address + k) areas all)
      | inr ge ↦
          let past = get_or_past (map (λ at. unwrap_or (byte_at at areas) 0) (range_with_len address n)) k 0
          (omega (arith, ge, length-map-range_with_len (λ at. unwrap_or (byte_at at areas) 0) address n)) in
          rw past (omega arith)
    ]

-- the number in n bytes of a memory
pub read_fits : (address n : ℕ) (memory : Memory) → AreBytes memory → number_at address n memory.areas < 256 ^ n
unfolding number_at number_of
read_fits address n memory bytes =
    let xs = map (λ at. unwrap_or (byte_at at memory.areas) 0) (range_with_len address n) in
    let size : length xs ≡ n = length-map-range_with_len (λ at. unwrap_or (byte_at at memory.areas) 0) address n in
    subst (λ k. number_of xs < 256 ^ k) size (little_from-lt 0 (length xs) xs (λ k. bytes_small address n k memory.areas bytes))

pub numbers_fit : NumbersFit
numbers_fit = read_fits

size_fits : (n x : ℕ) → IsAccessSize n → x < 256 ^ n → x < 2 ^ 32
size_fits n x (inl is) lt = let below : x < 256 ^ 1 = rw is at lt in omega (arith, below)
size_fits n x (inr (inl is)) lt = let below : x < 256 ^ 2 = rw is at lt in omega (arith, below)
size_fits n x (inr (inr is)) lt = let below : x < 256 ^ 4 = rw is at lt in omega (arith, below)

load_step : (memory : Memory) (address n value : ℕ) (b : Bool) → number_at address n memory.areas < 256 ^ n → IsAccessSize n →
    cond b (Some (number_at address n memory.areas)) None ≡ Some value → value < 2 ^ 32
load_step memory address n value true fits size e =
    let same : number_at address n memory.areas ≡ value = cc in rw (← same) (size_fits n (number_at address n memory.areas) size fits)
load_step memory address n value false fits size e = absurd (cc)

pub loads_fit : LoadsFit
unfolding load_of
loads_fit memory bytes address n value size e =
    load_step memory address n value (is_permitted Read address n memory) (read_fits address n memory bytes) size e
