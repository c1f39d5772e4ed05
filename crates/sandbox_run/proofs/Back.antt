-- What comes back of the arguments, since a run keeps the map of memory and what may not be written.
use Rattle.std.proofs.Common.{◌≡◌, ◌∙◌, ℕ, suc, ◌+◌, ◌-◌, ◌<◌, ◌≤◌, Bool, true, false, ◌&&◌, ◌||◌, List, [], ◌∷◌, ◌++◌, length, map, filter, get_or, Option, Some, unwrap_or, slice_index, ap, refl, sym, arith, append_assoc, length-append}
use Rattle.std.specs.Prelude.{if◌then◌else◌}
use Rattle.std.specs.List.{zip, position, position_or_len}
use Rattle.std.proofs.lemmas.List.{ext_get_or}
use Rattle.region_mem.specs.Areas.{Area, AreInOrder, byte_at, has_right, holds, is_open}
use Rattle.elf_image.specs.Image.{ImageView}
use Rattle.region_mem.specs.Laws.{ForEachStart, extent_of}
use Rattle.region_mem.specs.Memory.{Memory, arg_with, args_of, args_with, byte_of, is_buffer_area, left_after}
use Rattle.region_mem.specs.Parameter.{AreArguments, argument_error, is_out_of_interval, is_wrong_kind, is_wrong_size}
use Rattle.region_mem.specs.Start.{buffer_area, buffer_areas, is_writable, passed_of, start_memory}
use Rattle.region_mem.specs.declared.arguments.Arg.TheVariants as argument
use Rattle.region_mem.specs.declared.faults.Right.TheVariants.{Write}
use Rattle.region_mem.specs.declared.parameter.Param.{Param}
use Rattle.region_mem.specs.declared.parameter.Param.TheVariants as parameter
use Rattle.region_mem.specs.ApartLemmas.{end_of, starts_in_order, at_middle}
use Rattle.region_mem.specs.SearchLemmas.{not_past}
use Rattle.region_mem.specs.StartCodeLemmas.{closed_below}
use Rattle.region_mem.specs.StartLemmas.{buffers_of_start}
use Rattle.region_mem.specs.AccessLemmas.{holds_from}
use Rattle.machine.specs.Kept.{Keeps, RunsKeep}
use Rattle.machine.specs.Start.{start}
use Rattle.vreg_groups.specs.declared.policies.Agnostic.{Agnostic}
use Rattle.sandbox_run.specs.Back.{ComesBack, HasShapeOf, RunsHandBack}
use Rattle.sandbox_run.specs.Words.{Argument, scalars_of}
use Rattle.block_checker.specs.Bound.{scalar_of}

-- ---- areas: each lies where it lay, and those that may not be written have their bytes

record IsKept (a b : Area) : Type 0 where
  first : b.first ≡ a.first
  size : length b.bytes ≡ length a.bytes
  bytes : a.write ≡ false → b.bytes ≡ a.bytes

abbrev AreKept : List Area → List Area → Type 0
AreKept [] [] = Unit {0}
AreKept [] (b ∷ bs) = ⊥
AreKept (a ∷ xs) [] = ⊥
AreKept (a ∷ xs) (b ∷ bs) = IsKept a b × AreKept xs bs

-- From an address on each byte that may not be written is the same.
abbrev AreSame : ℕ → List Area → List Area → Type 0
AreSame from xs bs = (x : ℕ) → from ≤ x → is_open Write xs x ≡ false → byte_at x bs ≡ byte_at x xs

byte_here : (x : ℕ) (a : Area) (areas : List Area) → holds x a ≡ true → byte_at x (a ∷ areas) ≡ Some (slice_index a.bytes (x - a.first))
unfolding byte_at
byte_here x a areas is = rw is refl

byte_past : (x : ℕ) (a : Area) (areas : List Area) → holds x a ≡ false → byte_at x (a ∷ areas) ≡ byte_at x areas
unfolding byte_at
byte_past x a areas is = rw is refl

open_past : (x : ℕ) (a : Area) (areas : List Area) → holds x a ≡ false → is_open Write (a ∷ areas) x ≡ is_open Write areas x
unfolding is_open
open_past x a areas is = rw is refl

open_here : (x : ℕ) (a : Area) (areas : List Area) → a.write ≡ false → is_open Write areas x ≡ false → is_open Write (a ∷ areas) x ≡ false
unfolding is_open has_right
open_here x a areas shut rest = by_test (holds x a)
  where
    by_test : (b : Bool) → ((b && a.write) || is_open Write areas x) ≡ false
    by_test true = rw shut rest
    by_test false = rest

head_kept : (from : ℕ) (a b : Area) (xs bs : List Area) → b.first ≡ a.first → length b.bytes ≡ length a.bytes → AreInOrder from (a ∷ xs)
    → AreSame from (a ∷ xs) (b ∷ bs) → a.write ≡ false → b.bytes ≡ a.bytes
unfolding AreInOrder
head_kept from a b xs bs first size order same shut =
    ext_get_or 0 b.bytes a.bytes size each
  where
    each : (i : ℕ) → i < length b.bytes → get_or b.bytes i 0 ≡ get_or a.bytes i 0
    each i below =
        let x : ℕ = a.first + i in
        let here = holds_from x a (omega arith) (omega (arith, below, size)) in
        let there = holds_from x b (omega (arith, first)) (omega (arith, below, first)) in
        let rest = closed_below Write x (end_of a) xs order.1 (omega (arith, below, size)) in
        let equal = sym (byte_here x b bs there) ∙ same x (omega (arith, order.0)) (open_here x a xs shut rest) ∙ byte_here x a xs here in
        let at : x - a.first ≡ i = omega arith in
        let other : x - b.first ≡ i = omega (arith, first) in
        let values : slice_index b.bytes (x - b.first) ≡ slice_index a.bytes (x - a.first) = ap (λ (o : Option ℕ). unwrap_or o 0) equal in
        rw (at, other) at values

kept_areas : (from : ℕ) (xs bs : List Area) → map extent_of bs ≡ map extent_of xs → AreInOrder from xs → AreSame from xs bs → AreKept xs bs
unfolding AreInOrder extent_of
kept_areas from [] [] extents order same = tt
kept_areas from [] (b ∷ bs) extents order same = absurd (cc extents)
kept_areas from (a ∷ xs) [] extents order same = absurd (cc extents)
kept_areas from (a ∷ xs) (b ∷ bs) extents order same =
    let heads : extent_of b ≡ extent_of a = cc extents in
    let tails : map extent_of bs ≡ map extent_of xs = cc extents in
    let first : b.first ≡ a.first = ap (λ e. e.first) heads in
    let size : length b.bytes ≡ length a.bytes = ap (λ e. e.size) heads in
    let later : AreSame (end_of a) xs bs =
    λ x low shut.
    let past = not_past x a low in
    let gone = not_past x b (omega (arith, low, first, size)) in
    sym (byte_past x b bs gone) ∙ same x (omega (arith, low, order.0)) (open_past x a xs past ∙ shut) ∙ byte_past x a xs past in (
      record { first = first; size = size; bytes = head_kept from a b xs bs first size order same },
      kept_areas (end_of a) xs bs tails order.1 later,
    )

buffer_alike : (a b : Area) → b.first ≡ a.first → is_buffer_area b ≡ is_buffer_area a
unfolding is_buffer_area
buffer_alike a b first = rw first refl

kept_filter : (xs bs : List Area) → AreKept xs bs → AreKept (filter is_buffer_area xs) (filter is_buffer_area bs)
kept_filter [] [] kept = tt
kept_filter [] (b ∷ bs) kept = absurd kept
kept_filter (a ∷ xs) [] kept = absurd kept
kept_filter (a ∷ xs) (b ∷ bs) kept =
    by_test (is_buffer_area a) (is_buffer_area b) (buffer_alike a b kept.0.first) (kept_filter xs bs kept.1)
  where
    by_test : (s t : Bool) → t ≡ s → AreKept (filter is_buffer_area xs) (filter is_buffer_area bs)
        → AreKept (if s then a ∷ filter is_buffer_area xs else filter is_buffer_area xs) (if t then b ∷ filter is_buffer_area bs else filter is_buffer_area bs)
    by_test true true is rest = (kept.0, rest)
    by_test false false is rest = rest
    by_test true false is rest = absurd (cc is)
    by_test false true is rest = absurd (cc is)

-- ---- arguments

write_of : (done todo params : List Param) (param : Param) (place : ℕ) (bytes : List ℕ) → params ≡ done ++ param ∷ todo → place ≡ length done
    → (buffer_area params place bytes).write ≡ is_writable param
unfolding buffer_area
write_of done todo params param place bytes whole at = rw (whole, at, at_middle done todo param) refl

size_of_buffer : (params : List Param) (place : ℕ) (bytes : List ℕ) → (buffer_area params place bytes).bytes ≡ bytes
unfolding buffer_area
size_of_buffer params place bytes = refl

back_from : (done todo : List Param) (args : List Argument) (params : List Param) (place : ℕ) (bs : List Area)
    → params ≡ done ++ todo → place ≡ length done → length args ≤ length todo → AreKept (buffer_areas params place args) bs
    → ComesBack todo args (args_with (map passed_of args) bs)
unfolding buffer_areas args_with arg_with left_after passed_of
back_from done todo [] params place bs whole at few kept = refl
back_from done [] (arg ∷ args) params place bs whole at few kept = absurd (omega (arith, few))
back_from done (param ∷ todo) (argument.None ∷ args) params place bs whole at few kept = (
  refl,
  λ read. refl,
  back_from (done ++ param ∷ []) todo args params (place + 1) bs
      (whole ∙ sym (append_assoc done (param ∷ []) todo)) (omega (arith, at, length-append done (param ∷ []))) (omega (arith, few)) kept,
)
back_from done (param ∷ todo) (argument.Scalar value ∷ args) params place bs whole at few kept = (
  refl,
  λ read. refl,
  back_from (done ++ param ∷ []) todo args params (place + 1) bs
      (whole ∙ sym (append_assoc done (param ∷ []) todo)) (omega (arith, at, length-append done (param ∷ []))) (omega (arith, few)) kept,
)
back_from done (param ∷ todo) (argument.Buffer bytes ∷ args) params place [] whole at few kept = absurd kept
back_from done (param ∷ todo) (argument.Buffer bytes ∷ args) params place (b ∷ bs) whole at few kept =
    let same = size_of_buffer params place bytes in
    let size : length b.bytes ≡ length bytes = kept.0.size ∙ ap length same in
    let equal : is_writable param ≡ false → argument.Buffer b.bytes ≡ argument.Buffer bytes =
    λ read. ap argument.Buffer (kept.0.bytes (write_of done todo params param place bytes whole at ∙ read) ∙ same) in (
      (b.bytes, refl, size),
      equal,
      back_from (done ++ param ∷ []) todo args params (place + 1) bs
          (whole ∙ sym (append_assoc done (param ∷ []) todo)) (omega (arith, at, length-append done (param ∷ []))) (omega (arith, few)) kept.1,
    )

-- What was passed and the areas give what comes back.
back_of : (params : List Param) (args : List Argument) (memory next : Memory) → length params ≡ 8 → length args ≡ 8
    → AreInOrder 0 memory.areas → filter is_buffer_area memory.areas ≡ buffer_areas params 0 args → memory.passed ≡ map passed_of args
    → Keeps memory next → ComesBack params args (args_of next)
unfolding args_of byte_of
back_of params args memory next places eight order buffers passed keeps =
    let areas = kept_areas 0 memory.areas next.areas keeps.extents.0 order (λ x low shut. keeps.unwritable x shut) in
    let found : AreKept (buffer_areas params 0 args) (filter is_buffer_area next.areas) = rw (← buffers) (kept_filter _ _ areas) in
    rw (keeps.extents.1, passed) (back_from [] params args params 0 _ refl refl (omega (arith, places, eight)) found)

passed_at_start : (image : ImageView) (params : List Param) (args : List Argument) → (start_memory image params args).passed ≡ map passed_of args
unfolding start_memory
passed_at_start image params args = refl

-- from the start of any image
pub starts_come_back : ForEachStart (λ image params args. (next : Memory) → Keeps (start_memory image params args) next
    → ComesBack params args (args_of next))
starts_come_back image params args is valid places eight matching next keeps =
    back_of params args (start_memory image params args) next places eight
    (starts_in_order image params args is valid places eight matching)
    (buffers_of_start image params args is valid places eight matching) (passed_at_start image params args) keeps

memory_at_start : (vlenb : ℕ) (agnostic : Agnostic) (image : ImageView) (params : List Param) (args : List Argument) (next : Memory)
    → Keeps (start vlenb agnostic image params args).memory next → Keeps (start_memory image params args) next
unfolding start
memory_at_start vlenb agnostic image params args next keeps = keeps

pub runs_hand_back : RunsKeep → RunsHandBack
runs_hand_back keep image params args is valid places eight matching vlenb k agnostic m leads =
    starts_come_back image params args is valid places eight matching m.memory
    (memory_at_start vlenb agnostic image params args m.memory (keep vlenb (start vlenb agnostic image params args) m k leads))

-- ---- what comes back matches the parameters again

-- A test that does not see a buffer's bytes, but for their number.
abbrev SeesShape : (Param × Argument → Bool) → Type 0
SeesShape test = (param : Param) (arg other : Argument) → HasShapeOf arg other → test (param, other) ≡ test (param, arg)

kind_alike : SeesShape is_wrong_kind
unfolding is_wrong_kind
kind_alike param argument.None other shape = rw shape refl
kind_alike param (argument.Scalar value) other shape = rw shape refl
kind_alike parameter.None (argument.Buffer bytes) other (new, is, size) = rw is refl
kind_alike (parameter.Scalar lo hi) (argument.Buffer bytes) other (new, is, size) = rw is refl
kind_alike (parameter.Buffer mode n) (argument.Buffer bytes) other (new, is, size) = rw is refl

interval_alike : SeesShape is_out_of_interval
unfolding is_out_of_interval
interval_alike param argument.None other shape = rw shape refl
interval_alike param (argument.Scalar value) other shape = rw shape refl
interval_alike parameter.None (argument.Buffer bytes) other (new, is, size) = refl
interval_alike (parameter.Scalar lo hi) (argument.Buffer bytes) other (new, is, size) = rw is refl
interval_alike (parameter.Buffer mode n) (argument.Buffer bytes) other (new, is, size) = refl

size_alike : SeesShape is_wrong_size
unfolding is_wrong_size
size_alike param argument.None other shape = rw shape refl
size_alike param (argument.Scalar value) other shape = rw shape refl
size_alike parameter.None (argument.Buffer bytes) other (new, is, size) = refl
size_alike (parameter.Scalar lo hi) (argument.Buffer bytes) other (new, is, size) = refl
size_alike (parameter.Buffer mode n) (argument.Buffer bytes) other (new, is, size) = rw (is, size) refl

lengths_alike : (params : List Param) (args back : List Argument) → ComesBack params args back → length (zip params back) ≡ length (zip params args)
lengths_alike params [] back same = rw same refl
lengths_alike [] (arg ∷ args) back same = absurd same
lengths_alike (param ∷ params) (arg ∷ args) [] same = absurd same
lengths_alike (param ∷ params) (arg ∷ args) (other ∷ back) same = ap suc (lengths_alike params args back same.2)

places_alike : (test : Param × Argument → Bool) → SeesShape test → (params : List Param) (args back : List Argument) → ComesBack params args back
    → position_or_len test (zip params back) ≡ position_or_len test (zip params args)
places_alike test sees params [] back same = rw same refl
places_alike test sees [] (arg ∷ args) back same = absurd same
places_alike test sees (param ∷ params) (arg ∷ args) [] same = absurd same
places_alike test sees (param ∷ params) (arg ∷ args) (other ∷ back) same =
    rw (sees param arg other same.0, places_alike test sees params args back same.2) refl

position_alike : (test : Param × Argument → Bool) → SeesShape test → (params : List Param) (args back : List Argument) → ComesBack params args back
    → position test (zip params back) ≡ position test (zip params args)
position_alike test sees params args back same =
    rw (places_alike test sees params args back same, lengths_alike params args back same) refl

pub matches_again : (params : List Param) (args back : List Argument) → ComesBack params args back → AreArguments params args → AreArguments params back
unfolding argument_error
matches_again params args back same matching =
    rw (
      position_alike is_wrong_kind kind_alike params args back same,
      position_alike is_out_of_interval interval_alike params args back same,
      position_alike is_wrong_size size_alike params args back same,
    ) matching

scalar_alike : (arg other : Argument) → HasShapeOf arg other → scalar_of other ≡ scalar_of arg
scalar_alike argument.None other shape = rw shape refl
scalar_alike (argument.Scalar value) other shape = rw shape refl
scalar_alike (argument.Buffer bytes) other (new, is, size) = rw is refl

pub scalars_again : (params : List Param) (args back : List Argument) → ComesBack params args back → scalars_of back ≡ scalars_of args
scalars_again params [] back same = rw same refl
scalars_again [] (arg ∷ args) back same = absurd same
scalars_again (param ∷ params) (arg ∷ args) [] same = absurd same
scalars_again (param ∷ params) (arg ∷ args) (other ∷ back) same =
    rw (scalar_alike arg other same.0, scalars_again params args back same.2) refl
