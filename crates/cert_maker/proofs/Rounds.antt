-- A loop that is read through is a round, and all that the check needs is true of it.
use Rattle.std.proofs.Common.{◌≡◌, ◌≢◌, ℕ, ◌+◌, ◌-◌, ◌*◌, ◌^◌, ◌<◌, ◌≤◌, ◌⊎◌, inl, inr, zero, suc, Bool, true, false, refl, sym, ap, ◌∙◌, subst, arith, Option, Some, None, List, [], ◌∷◌, length}
use Rattle.std.proofs.Common.{get_or-set_other}
use Rattle.std.proofs.Math.ListN.{length-set}
use Rattle.std.specs.Prelude.{Ok, if◌then◌else◌, slice_set, take, sum_by, unwrap_or}
use Rattle.std.specs.List.{list_all, slice_get}
use Rattle.std.specs.Option.{option_map_or}
use Rattle.std.proofs.lemmas.Bool.{cases_eq, leb-true, and_parts}
use Rattle.elf_image.specs.Image.{ImageView}
use Rattle.rv_decode.specs.declared.instructions.Condition.TheVariants.{Ne}
use Rattle.rv_decode.specs.declared.instructions.Direction.{Direction}
use Rattle.rv_decode.specs.declared.instructions.Insn.{Insn}
use Rattle.rv_decode.specs.declared.instructions.Insn.TheVariants.{Scalar, VMem}
use Rattle.rv_decode.specs.declared.instructions.RegisterOp.TheVariants.{Add, Sub}
use Rattle.rv_decode.specs.declared.instructions.ScalarInsn.TheVariants.{Branch, Register, ShiftImmediate}
use Rattle.rv_decode.specs.declared.instructions.ShiftOp.TheVariants.{Slli}
use Rattle.rv_decode.specs.declared.instructions.VMem as mem
use Rattle.rv_decode.specs.declared.instructions.Width.{Width}
use Rattle.region_mem.specs.RoomLemmas.{sum_by_room}
use Rattle.region_mem.specs.Parameter.{address_of, is_buffer, is_valid, room_of}
use Rattle.region_mem.specs.declared.parameter.Mode.{Mode}
use Rattle.region_mem.specs.declared.parameter.Param.{Param}
use Rattle.region_mem.specs.declared.parameter.Param.TheVariants as parameter
use Rattle.vreg_groups.specs.Legality.{is_legal}
use Rattle.rv_decode.specs.Instructions.{bytes_of_width}
use Rattle.cert_maker.specs.declared.loops.Loop.{Loop}
use Rattle.cert_maker.specs.declared.loops.Reading.{Reading}
use Rattle.cert_maker.specs.declared.loops.Reading.TheVariants.{Works, Moves, Back, Through}
use Rattle.cert_maker.specs.Loops.{size_of, is_flagged, is_arithmetic, is_buffer_for, is_access, with_pointer, moved_by, shift_of, step_by, works_on, back_by, next_of, loop_from}
use Rattle.cert_maker.specs.Certificates.{base_of}
use Rattle.cert_maker.specs.Known.{AreAlike, HasRoom, bytes_of, is_pointer}
use Rattle.cert_maker.proofs.Flags.{flag_at}
use Rattle.cert_maker.proofs.Going.{test_of}
use Rattle.cert_maker.proofs.LoopWalks.{alike_with_pointer, ends}
use Rattle.cert_maker.proofs.Working.{access_parts, differ}

-- ---- buffers

pub valid_at : (params : List Param) (place : ℕ) (param : Param) → list_all is_valid params ≡ true → slice_get params place ≡ Some param → is_valid param ≡ true
valid_at [] place param all e = cc
valid_at (x ∷ xs) zero param all e = subst (λ (p : Param). is_valid p ≡ true) (same x param e) (and_parts _ _ all).0
  where
    same : (a b : Param) → Some a ≡ Some b → a ≡ b
    same a b f = cc
valid_at (x ∷ xs) (suc place) param all e = valid_at xs place param (and_parts _ _ all).1 e

size_small : (access : Mode) (size : ℕ) → is_valid (parameter.Buffer access size) ≡ true → size ≤ 16777216
unfolding is_valid
size_small access size e = leb-true size 16777216 e

address_is : (params : List Param) (place size : ℕ) (access : Mode) → slice_get params place ≡ Some (parameter.Buffer access size)
    → address_of place params ≡ Some (1073741824 + sum_by room_of (take place params))
unfolding address_of is_buffer
address_is params place size access is = rw is refl

above : (bytes size sum base : ℕ) → bytes ≤ size → size ≤ 16777216 → base ≡ 1073741824 + sum → bytes ≤ base
above bytes size sum base l m e = omega (arith, l, m, e)

below : (bytes size sum base : ℕ) → bytes ≤ size → size ≤ 16777216 → base ≡ 1073741824 + sum → sum < 2 ^ 30 → base + bytes + bytes < 2 ^ 32
below bytes size sum base l m e s = omega (arith, l, m, e, s)

pub room_there : (params : List Param) (loop : Loop) (place size : ℕ) (access : Mode) → list_all is_valid params ≡ true → length params ≡ 8 → place < 8
    → slice_get params place ≡ Some (parameter.Buffer access size) → bytes_of loop ≤ size → HasRoom params loop place
room_there params loop place size access valid eight l is room =
    let at = address_is params place size access is in
    let base : base_of params place ≡ 1073741824 + sum_by room_of (take place params) = ap (λ (o : Option ℕ). unwrap_or o 0) at in
    let small = size_small access size (valid_at params place (parameter.Buffer access size) valid is) in
    let sum = sum_by_room place params valid (omega (arith, eight, l)) (omega (arith, eight)) in
    record {
      access = access;
      size = size;
      is = is;
      room = room;
      address = at ∙ ap (λ (x : ℕ). Some x) (sym base);
      low = above _ size _ _ room small base;
      high = below _ size _ _ room small base sum;
    }

-- ---- the loop of each reading

abbrev loop_in : Reading → Loop
loop_in (Works of) = of
loop_in (Moves of step left) = of
loop_in (Back of) = of
loop_in (Through of) = of

moved_keeps : (of : Loop) (step : ℕ) (left : List Bool) (insn : Insn) (next : Reading) → moved_by of step left insn ≡ Some next → loop_in next ≡ of
unfolding moved_by
moved_keeps of step left (Scalar (Register Add rd rs1 rs2)) next e =
    sym (ap (λ (r : Reading). loop_in r) (test_of _ (Moves of step (slice_set left (rd - 10) false)) next e).1)
moved_keeps of step left (Scalar (Register Sub rd rs1 rs2)) next e = sym (ap (λ (r : Reading). loop_in r) (test_of _ (Back of) next e).1)
moved_keeps of step left other next e = cc

step_keeps : (of : Loop) (wanted : Option ℕ) (insn : Insn) (next : Reading) → step_by of wanted insn ≡ Some next → loop_in next ≡ of
unfolding step_by
step_keeps of None insn next e = moved_keeps of of.length of.pointers insn next e
step_keeps of (Some wanted) (Scalar (ShiftImmediate Slli rd rs1 amount)) next e =
    sym (ap (λ (r : Reading). loop_in r) (test_of _ (Moves of rd of.pointers) next e).1)
step_keeps of (Some wanted) other next e = cc

back_keeps : (of : Loop) (start pc : ℕ) (insn : Insn) (next : Reading) → back_by of start pc insn ≡ Some next → loop_in next ≡ of
unfolding back_by
back_keeps of start pc (Scalar (Branch Ne rs1 rs2 offset)) next e = sym (ap (λ (r : Reading). loop_in r) (test_of _ (Through of) next e).1)
back_keeps of start pc other next e = cc

-- a pointer's buffer has room for the most elements, and the pointer is not vl's register
pub record HasBuffer (params : List Param) (first : Loop) (place : ℕ) : Type 0 where
  pub access : Mode
  pub size : ℕ
  pub is : slice_get params place ≡ Some (parameter.Buffer access size)
  pub room : first.most * size_of first ≤ size
  pub apart : place + 10 ≢ first.length

-- what stays of the loop that is read, and what its pointers are
pub record Keeps (params : List Param) (first of : Loop) : Type 0 where
  pub flags : length of.pointers ≡ 8
  pub alike : AreAlike of first
  pub buffers : (place : ℕ) → place < 8 → is_pointer of place ≡ true → HasBuffer params first place

buffer_is : (d : Direction) (bytes : ℕ) (o : Option Param) → option_map_or (is_buffer_for d bytes) o false ≡ true
    → (access : Mode) × (size : ℕ) × (o ≡ Some (parameter.Buffer access size)) × (bytes ≤ size)
unfolding is_buffer_for
buffer_is d bytes None e = cc
buffer_is d bytes (Some parameter.None) e = cc
buffer_is d bytes (Some (parameter.Scalar lo hi)) e = cc
buffer_is d bytes (Some (parameter.Buffer access size)) e = (access, size, refl, leb-true bytes size (and_parts _ _ e).0)

module _ (params : List Param) (first : Loop) where
  set_keeps : (of : Loop) (r : ℕ) → 10 ≤ r → r < 18 → Keeps params first of → HasBuffer params first (r - 10) → Keeps params first (with_pointer r of)
  unfolding with_pointer
  set_keeps of r l g keeps buffer = record {
    flags = length-set of.pointers (r - 10) true ∙ keeps.flags;
    alike = alike_with_pointer of first r keeps.alike;
    buffers = λ place m e. by_place place m e (cases_eq place (r - 10));
  }
    where
      by_place : (place : ℕ) → place < 8 → is_flagged (place + 10) (slice_set of.pointers (r - 10) true) ≡ true → (place ≡ r - 10) ⊎ (place ≢ r - 10)
          → HasBuffer params first place
      by_place place m e (inl same) = subst (λ (q : ℕ). HasBuffer params first q) (sym same) buffer
      by_place place m e (inr other) =
          keeps.buffers place m
          (flag_at place of.pointers m
          ∙ (sym (get_or-set_other of.pointers (r - 10) place true false other)
          ∙ (sym (flag_at place (slice_set of.pointers (r - 10) true) m) ∙ e)))

  access_keeps : (of : Loop) (insn : mem.VMem) → is_access params of insn ≡ true → Keeps params first of → Keeps params first (with_pointer insn.rs1 of)
  access_keeps of insn e keeps =
      let parts = access_parts params of insn e in
      let is = buffer_is insn.direction (of.most * size_of of) _ parts.3 in
      set_keeps of insn.rs1 parts.1 parts.2 keeps
      record {
        access = is.0;
        size = is.1;
        is = is.2;
        room = subst (λ (x : ℕ). x * size_of first ≤ is.1) keeps.alike.most
            (subst (λ (s : Width). of.most * bytes_of_width s ≤ is.1) keeps.alike.sew is.3);
        apart = apart_by insn.rs1 parts.1 (differ insn.rs1 of.length parts.4);
      }
    where
      apart_by : (r : ℕ) → 10 ≤ r → r ≢ of.length → r - 10 + 10 ≢ first.length
      apart_by r l ne f = (let long = keeps.alike.length in ne (omega (arith, l, f, long)))

  works_keeps : (of : Loop) (insn : Insn) (next : Reading) → works_on params of insn ≡ Some next → Keeps params first of → Keeps params first (loop_in next)
  unfolding works_on
  works_keeps of (VMem insn) next e keeps =
      let read = test_of _ (Works (with_pointer insn.rs1 of)) next e in
      subst (λ (r : Reading). Keeps params first (loop_in r)) read.1 (access_keeps of insn (and_parts _ _ read.0).0 keeps)
  works_keeps of other next e keeps = by_tests (is_arithmetic other) (is_legal record { vtype = of.vtype; vl = 0 } other) _ next e (λ f. step_keeps of (shift_of of.sew) other next f)
    where
      by_tests : (t u : Bool) (o : Option Reading) (next : Reading) → (if t then (if u then Some (Works of) else None) else o) ≡ Some next
          → (o ≡ Some next → loop_in next ≡ of) → Keeps params first (loop_in next)
      by_tests true u o next f more = subst (λ (r : Reading). Keeps params first (loop_in r)) (test_of u (Works of) next f).1 keeps
      by_tests false u o next f more = subst (λ (l : Loop). Keeps params first l) (sym (more f)) keeps

  next_keeps : (start pc : ℕ) (r next : Reading) (insn : Insn) → next_of params start pc r insn ≡ Some next → Keeps params first (loop_in r)
      → Keeps params first (loop_in next)
  unfolding next_of
  next_keeps start pc (Works of) next insn e keeps = works_keeps of insn next e keeps
  next_keeps start pc (Moves of step left) next insn e keeps = subst (λ (l : Loop). Keeps params first l) (sym (moved_keeps of step left insn next e)) keeps
  next_keeps start pc (Back of) next insn e keeps = subst (λ (l : Loop). Keeps params first l) (sym (back_keeps of start pc insn next e)) keeps
  next_keeps start pc (Through of) next insn e keeps = cc

  pub through_keeps : (image : ImageView) (start fuel pc : ℕ) (of : Loop) (through : Loop × ℕ) → Keeps params first of
      → loop_from image params start fuel pc (Works of) ≡ Ok through → Keeps params first through.0
  through_keeps image start fuel pc of through keeps e =
      ends image params start (λ r at. Keeps params first (loop_in r)) (λ loop words. Keeps params first loop)
      (λ at r next insn code is going p. next_keeps start at r next insn is p) (λ at r loop insn code is p. next_keeps start at r (Through loop) insn is p)
      fuel pc (Works of) through keeps e
