-- What a loop that was read has: its count is a scalar that is passed, and its pointers are buffers with room.
use Rattle.std.proofs.Common.{◌≡◌, ℕ, ◌+◌, ◌*◌, ◌^◌, ◌<◌, ◌≤◌, true, false, refl, sym, subst, arith, Option, Some, None, List, take, sum_by}
use Rattle.std.specs.Prelude.{Result, Ok, Err, IfOk, if◌then◌else◌, nat_le, unwrap_or}
use Rattle.std.specs.List.{slice_get}
use Rattle.std.specs.Option.{option_and_then, option_map_or}
use Rattle.std.proofs.lemmas.Bool.{le-leb, and_parts}
use Rattle.std.proofs.lemmas.Bool.Decides.{nat_tests}
use Rattle.elf_image.specs.Image.{ImageView}
use Rattle.rv_decode.specs.declared.instructions.Direction.TheVariants.{Load}
use Rattle.region_mem.specs.declared.layout.TheConstants.{BUFFERS}
use Rattle.region_mem.specs.declared.parameter.Param.{Param}
use Rattle.region_mem.specs.declared.parameter.Param.TheVariants as parameter
use Rattle.region_mem.specs.Parameter.{address_of, is_buffer, is_valid, room_of}
use Rattle.region_mem.specs.RoomLemmas.{sum_by_room}
use Rattle.cert_note.specs.Certificate.{is_scalar}
use Rattle.cert_maker.specs.declared.loops.Loop.{Loop}
use Rattle.cert_maker.specs.declared.loops.Reading.TheVariants.{Works}
use Rattle.cert_maker.specs.Loops.{size_of, is_buffer_for, may_be, is_flagged, loop_of}
use Rattle.cert_maker.specs.Certificates.{base_of}
use Rattle.cert_maker.specs.Make.{AreParameters, IsFor, has_room}
use Rattle.region_mem.specs.declared.parameter.Mode.{Mode}
use Rattle.cert_maker.proofs.IsRounds.{IsRead, count_same, keeps, read_all, room_in, scalar_there}
use Rattle.cert_maker.proofs.LoopWalks.{inside}
use Rattle.cert_maker.proofs.Rounds.{valid_at}

-- ---- the class

room_read : (params : List Param) (loop : Loop) (place size : ℕ) (access : Mode) → slice_get params place ≡ Some (parameter.Buffer access size)
    → loop.most * size_of loop ≤ size → has_room params loop place ≡ true
unfolding is_buffer_for may_be
room_read params loop place size access is l = rw (is, le-leb (loop.most * size_of loop) size l) refl

is_for : (image : ImageView) (params : List Param) (through : Loop × ℕ) → IsRead image params through → IsFor params through.0
unfolding is_scalar
is_for image params through read =
    let kept = keeps image params through read in
    record {
      flags = kept.flags;
      from = subst (λ (c : ℕ). 10 ≤ c) (sym (count_same image params through read)) read.first_is.from;
      to = subst (λ (c : ℕ). c < 18) (sym (count_same image params through read)) read.first_is.to;
      count = rw (scalar_there image params through read) refl;
      rooms = λ place l e. (
          let buffer = kept.buffers place l e in
          room_read params through.0 place buffer.size buffer.access buffer.is (room_in image params through read place buffer)
          );
    }

some_words : (image : ImageView) (params : List Param) (through : Loop × ℕ) → IsRead image params through → 0 < through.1
some_words image params through read =
    let far = inside image params (image.entry + 4) read.fuel (image.entry + 4 + 4) (Works read.of) through (omega arith) read.rest in
    omega (arith, far)

pub class_is : (image : ImageView) (params : List Param) (r : Result (Loop × ℕ) ℕ) → r ≡ loop_of image params → IfOk r (λ x. IsFor params x.0)
class_is image params (Ok through) e = is_for image params through (read_all image params through (sym e))
class_is image params (Err address) e = tt

pub some_read : (image : ImageView) (params : List Param) (r : Result (Loop × ℕ) ℕ) → r ≡ loop_of image params → IfOk r (λ x. 0 < x.1)
some_read image params (Ok through) e = some_words image params through (read_all image params through (sym e))
some_read image params (Err address) e = tt

-- ---- room

-- A pointer stays below 2^32.
pub room_fits : (params : List Param) (loop : Loop) (place : ℕ) → AreParameters params → IsFor params loop → place < 8
    → is_flagged (place + 10) loop.pointers ≡ true → base_of params place + size_of loop * loop.most < 2 ^ 32
unfolding address_of is_buffer_for is_buffer is_valid
room_fits params loop place are is l flag = by_param (slice_get params place) refl (is.rooms place l flag)
  where
    behind : sum_by room_of (take place params) < 2 ^ 30
    behind = sum_by_room place params are.valid (omega (arith, are.eight, l)) (omega (arith, are.eight))

    base_by : Option Param → ℕ
    base_by o = unwrap_or (option_and_then (λ param. if is_buffer param then Some (BUFFERS + sum_by room_of (take place params)) else None) o) 0

    by_param : (o : Option Param) → slice_get params place ≡ o → option_map_or (is_buffer_for Load (loop.most * size_of loop)) o false ≡ true
        → base_by o + size_of loop * loop.most < 2 ^ 32
    by_param None e h = absurd (cc)
    by_param (Some parameter.None) e h = absurd (cc)
    by_param (Some (parameter.Scalar lo hi)) e h = absurd (cc)
    by_param (Some (parameter.Buffer access size)) e h =
        let fits : nat_le (loop.most * size_of loop) size ≡ true = (and_parts _ _ h).0 in
        let small : nat_le size 16777216 ≡ true = valid_at params place (parameter.Buffer access size) are.valid e in
        let first : loop.most * size_of loop ≤ size = grind (arith, nat_tests) in
        let second : size ≤ 16777216 = grind (arith, nat_tests) in
        omega (arith, first, second, behind)
