-- The registers of the hart that a run starts with, and the numbers that are passed in them.
use Rattle.std.proofs.Common.{◌≡◌, ℕ, zero, suc, ◌<◌, ◌≤◌, ◌+◌, ◌^◌, ◌&&◌, ◌||◌, not, Bool, true, false, arith, refl, sym, ◌∙◌, subst, inl, inr, length, take, get_or, List, [], ◌∷◌, Option, Some, None, sum_by}
use Rattle.std.specs.Prelude.{nat_le, if◌then◌else◌, unwrap_or, IsTrue}
use Rattle.std.specs.List.{AllByRecursion, list_all, list_any, slice_get, zip}
use Rattle.std.specs.Option.{option_and_then}
use Rattle.std.proofs.lemmas.Bool.{and_from, leb-true, and_parts, not-false}
use Rattle.std.proofs.lemmas.Bool.Decides.{nat_tests}
use Rattle.std.proofs.lemmas.Option.{slice_get-get_or}
use Rattle.std.proofs.Math.ListN.{replicate}
use Rattle.elf_image.specs.Image.{SegmentView, IsInPlace, IsSegment, holds_code}
use Rattle.region_mem.specs.declared.layout.TheConstants.{BUFFERS}
use Rattle.region_mem.specs.declared.parameter.Param.{Param}
use Rattle.region_mem.specs.declared.parameter.Param.TheVariants as parameter
use Rattle.region_mem.specs.declared.arguments.Arg.TheVariants as argument
use Rattle.region_mem.specs.Parameter.{Argument, AreArguments, address_of, argument_error, is_buffer, is_out_of_interval, is_valid, is_wrong_kind, room_of}
use Rattle.region_mem.specs.MatchingLemmas.{NonePasses, map_none, none_passes, nothing_wrong, or_none}
use Rattle.region_mem.specs.RoomLemmas.{sum_by_room}
use Rattle.scalar_core.specs.Hart.{IsHart}
use Rattle.scalar_core.specs.EntryLemmas.{entry_hart-is_hart, entry_number-same, reg_of-entry_hart}
use Rattle.machine.specs.Start.{passed_at, passed_number, start_hart}
use Rattle.cert_note.specs.Certificate.{FitsWords, IsParameter}
use Rattle.abs_domain.specs.BlockLaws.{ArePassed, IsEntry, IsPassed}
use Rattle.abs_state.specs.EntryLemmas.{pair_at}

-- ---- the hart that a run starts with

abbrev pub all_zeros : ℕ → List ℕ
all_zeros n = replicate n 0

all_zero : (n i : ℕ) → get_or (all_zeros n) i 0 ≡ 0
all_zero zero i = refl
all_zero (suc n) zero = refl
all_zero (suc n) (suc i) = all_zero n i

pub zeros_small : (n i m : ℕ) → 0 < m → get_or (all_zeros n) i 0 < m
zeros_small n i m l = (let none = all_zero n i in omega (arith, none, l))

pub zeros_count : (n : ℕ) → length (all_zeros n) ≡ n
zeros_count zero = refl
zeros_count (suc n) = (let rest = zeros_count n in omega (arith, rest))

module _ (entry : ℕ) (params : List Param) (args : List Argument) where
  pub start_is_hart : entry < 2 ^ 32 → ((k : ℕ) → k < 8 → passed_at params args k < 2 ^ 32)
      → IsHart (start_hart entry params args)
  unfolding start_hart
  start_is_hart = entry_hart-is_hart entry (passed_at params args)

  pub start_is_entry : (passed : ℕ → ℕ) → ((place : ℕ) → place < 8 → passed place ≡ passed_at params args place)
      → IsEntry passed (start_hart entry params args)
  unfolding start_hart
  start_is_entry passed are i l =
      reg_of-entry_hart entry (passed_at params args) i l
      ∙ entry_number-same (passed_at params args) passed i (λ place low. sym (are place low))

-- ---- the entry

low_in : (address : ℕ) (s : SegmentView) → IsSegment s → holds_code address s ≡ true → address < 2 ^ 32
low_in address s is holds = by_place is.in_place
  where
    by_place : IsInPlace s.address s.memory_size → address < 2 ^ 32
    by_place (inl h) = grind (arith, nat_tests, holds, h.1)
    by_place (inr h) = grind (arith, nat_tests, holds, h.1)

-- the address of code lies below 2 ^ 32
pub code_low : (segments : List SegmentView) (address : ℕ) → AllByRecursion IsSegment segments → list_any (holds_code address) segments ≡ true
    → address < 2 ^ 32
code_low [] address are e = absurd (cc)
code_low (s ∷ ss) address are e = by_test (holds_code address s) refl e (code_low ss address are.1)
  where
    by_test : (t : Bool) → holds_code address s ≡ t → (t || list_any (holds_code address) ss) ≡ true
        → (list_any (holds_code address) ss ≡ true → address < 2 ^ 32) → address < 2 ^ 32
    by_test true h f more = low_in address s are.0 h
    by_test false h f more = more f

-- ---- arguments that match

-- no scalar lies outside its interval
none_outside : (params : List Param) (args : List Argument) → AreArguments params args → NonePasses is_out_of_interval (zip params args)
unfolding argument_error
none_outside params args h =
    let kind = or_none _ _ h in
    let rest = or_none _ _ kind.1 in
    none_passes is_out_of_interval (zip params args) (map_none _ _ rest.0)

item_at : {X : Type 0} (P : X → Type 0) (xs : List X) (i : ℕ) (d : X) → AllByRecursion P xs → i < length xs → P (get_or xs i d)
item_at P [] i d all l = absurd (omega (arith, l))
item_at P (x ∷ xs) zero d all l = all.0
item_at P (x ∷ xs) (suc i) d all l = item_at P xs i d all.1 (omega (arith, l))

is_true : (b : Bool) → IsTrue b → b ≡ true
is_true true h = refl
is_true false h = cc

-- parameters of a certificate are valid
pub all_valid : (params : List Param) → AllByRecursion IsParameter params → list_all is_valid params ≡ true
all_valid [] all = refl
all_valid (p ∷ ps) all = and_from (is_valid p) (list_all is_valid ps) (is_true (is_valid p) all.0.0) (all_valid ps all.1)

between : (lo x hi : ℕ) → not (nat_le lo x && nat_le x hi) ≡ false → (lo ≤ x) × (x ≤ hi)
between lo x hi e =
    let parts = and_parts (nat_le lo x) (nat_le x hi) (not-false (nat_le lo x && nat_le x hi) e) in
    (leb-true lo x parts.0, leb-true x hi parts.1)

address_small : (params : List Param) (place : ℕ) → list_all is_valid params ≡ true → length params ≡ 8 → place < 8
    → unwrap_or (address_of place params) 0 < 2 ^ 32
unfolding address_of
address_small params place valid eight l = by_param (slice_get params place)
  where
    room : sum_by room_of (take place params) < 2 ^ 30
    room = sum_by_room place params valid (omega (arith, eight, l)) (omega (arith, eight))

    by_test : (t : Bool) → unwrap_or (if t then Some (BUFFERS + sum_by room_of (take place params)) else None) 0 < 2 ^ 32
    by_test true = omega (arith, room)
    by_test false = omega arith

    by_param : (o : Option Param)
        → unwrap_or (option_and_then (λ param. if is_buffer param then Some (BUFFERS + sum_by room_of (take place params)) else None) o) 0 < 2 ^ 32
    by_param None = omega arith
    by_param (Some p) = by_test (is_buffer p)

-- the number of an argument is what its parameter asks for
number_is : (params : List Param) (place : ℕ) (param : Param) (arg : Argument) → is_wrong_kind (param, arg) ≡ false
    → is_out_of_interval (param, arg) ≡ false → IsPassed params place (Some param) (passed_number params place arg)
unfolding is_wrong_kind is_out_of_interval passed_number
number_is params place parameter.None argument.None kind interval = refl
number_is params place parameter.None (argument.Scalar value) kind interval = absurd (cc)
number_is params place parameter.None (argument.Buffer bytes) kind interval = absurd (cc)
number_is params place (parameter.Scalar lo hi) argument.None kind interval = absurd (cc)
number_is params place (parameter.Scalar lo hi) (argument.Scalar value) kind interval = between lo value hi interval
number_is params place (parameter.Scalar lo hi) (argument.Buffer bytes) kind interval = absurd (cc)
number_is params place (parameter.Buffer access size) argument.None kind interval = absurd (cc)
number_is params place (parameter.Buffer access size) (argument.Scalar value) kind interval = absurd (cc)
number_is params place (parameter.Buffer access size) (argument.Buffer bytes) kind interval = refl

-- it has 32 bits
number_fits : (params : List Param) (place x : ℕ) (param : Param) → FitsWords param → unwrap_or (address_of place params) 0 < 2 ^ 32
    → IsPassed params place (Some param) x → x < 2 ^ 32
number_fits params place x parameter.None fits small is = omega (arith, is)
number_fits params place x (parameter.Scalar lo hi) fits small is = omega (arith, is.1, fits)
number_fits params place x (parameter.Buffer access size) fits small is = omega (arith, is, small)

module _ (params : List Param) (args : List Argument) (count : length params ≡ 8) (all : AllByRecursion IsParameter params)
    (eight : length args ≡ 8) (matching : AreArguments params args) where
  param_at : (place : ℕ) → place < 8 → slice_get params place ≡ Some (get_or params place parameter.None)
  param_at place l = slice_get-get_or params place parameter.None (omega (arith, count, l))

  passed_there : (place : ℕ) → place < 8
      → IsPassed params place (Some (get_or params place parameter.None)) (passed_at params args place)
  passed_there place l =
      let within : place < length params = omega (arith, count, l) in
      let below : place < length args = omega (arith, eight, l) in
      number_is params place (get_or params place parameter.None) (get_or args place argument.None)
      (pair_at is_wrong_kind params args place (nothing_wrong params args matching).0 within below)
      (pair_at is_out_of_interval params args place (none_outside params args matching) within below)

  pub numbers_fit : (place : ℕ) → place < 8 → passed_at params args place < 2 ^ 32
  numbers_fit place l =
      number_fits params place (passed_at params args place) (get_or params place parameter.None)
      (item_at IsParameter params place parameter.None all (omega (arith, count, l))).1
      (address_small params place (all_valid params all) count l) (passed_there place l)

  -- numbers that were passed are what the parameters ask for
  pub are_passed : (passed : ℕ → ℕ)
      → ((place : ℕ) → place < 8 → passed place ≡ passed_at params args place)
      → ((place : ℕ) → 8 ≤ place → passed place < 2 ^ 32) → ArePassed params passed
  are_passed passed are past = record { fit = λ place. by_place place (nat_le 8 place) refl; each = each }
    where
      by_place : (place : ℕ) (t : Bool) → nat_le 8 place ≡ t → passed place < 2 ^ 32
      by_place place true e = (let l : 8 ≤ place = grind (arith, nat_tests) in past place l)
      by_place place false e =
          let l : place < 8 = grind (arith, nat_tests) in
          subst (λ (x : ℕ). x < 2 ^ 32) (sym (are place l)) (numbers_fit place l)

      each : (place : ℕ) → place < 8 → IsPassed params place (slice_get params place) (passed place)
      each place l =
          subst (λ (x : ℕ). IsPassed params place (slice_get params place) x) (sym (are place l))
          (subst (λ (o : Option Param). IsPassed params place o (passed_at params args place)) (sym (param_at place l))
          (passed_there place l))
