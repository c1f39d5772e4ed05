-- The loops for which a certificate is made: the count `n` of elements that are left is an
-- argument, and each round sets vl from it, works on that many elements of the buffers, moves the
-- pointers on and takes vl from the count. Words are read from the entry on, and the first that
-- breaks a condition together with those before it does not fit.
use Rattle.std.specs.Prelude.{ℕ, zero, suc, ◌+◌, ◌*◌, ◌/◌, ◌-◌, ◌==◌, ◌&&◌, not, nat_le, nat_lt, Bool, true, false, if◌then◌else◌, List, replicate, slice_set, slice_index_or, Option, Some, None, Result, Ok, Err, ok_or}
use Rattle.std.specs.List.{list_any, slice_get}
use Rattle.std.specs.Option.{option_map, option_and_then, option_map_or}
use Rattle.elf_image.specs.Image.{code_at}
use Rattle.rv_decode.specs.Decode.{meaning_of}
use Rattle.rv_decode.specs.Needs.{needs_of}
use Rattle.rv_decode.specs.declared.extents.Extent.{Extent}
use Rattle.rv_decode.specs.declared.extents.Extent.TheVariants as extent
use Rattle.rv_decode.specs.declared.extents.Eew.TheVariants as eew
use Rattle.rv_decode.specs.declared.extents.Operand.{Operand}
use Rattle.rv_decode.specs.declared.instructions.Condition.TheVariants.{Eq, Ne}
use Rattle.rv_decode.specs.declared.instructions.Direction.{Direction}
use Rattle.rv_decode.specs.declared.instructions.Direction.TheVariants as direction
use Rattle.rv_decode.specs.declared.instructions.Insn.TheVariants as class
use Rattle.rv_decode.specs.declared.instructions.Addressing.{Addressing}
use Rattle.rv_decode.specs.declared.instructions.Addressing.TheVariants as place
use Rattle.rv_decode.specs.declared.instructions.RegisterOp.TheVariants.{Add, Sub}
use Rattle.rv_decode.specs.declared.instructions.ScalarInsn.TheVariants.{Branch, Jalr, Register, ShiftImmediate}
use Rattle.rv_decode.specs.declared.instructions.ShiftOp.TheVariants.{Slli}
use Rattle.rv_decode.specs.declared.instructions.VMem.{VMem}
use Rattle.rv_decode.specs.declared.instructions.VSet.TheVariants.{Vsetvli}
use Rattle.rv_decode.specs.declared.instructions.Width.TheVariants.{W8, W16, W32}
use Rattle.region_mem.specs.declared.parameter.Mode.{Mode}
use Rattle.region_mem.specs.declared.parameter.Mode.TheVariants as mode
use Rattle.region_mem.specs.declared.parameter.Param.TheVariants as parameter
use Rattle.vreg_groups.specs.Legality.{is_legal}
use Rattle.rv_decode.specs.Instructions.{bytes_of_width}
use Rattle.vreg_groups.specs.VectorType.{vtype_of}
use Rattle.scalar_core.specs.Arithmetic.{unsigned}
use Rattle.scalar_core.specs.Step.{offset_by}
use Rattle.cert_maker.specs.declared.loops.Head.{Head}
use Rattle.cert_maker.specs.declared.loops.Loop.{Loop}
use Rattle.cert_maker.specs.declared.loops.Reading.{Reading}
use Rattle.cert_maker.specs.declared.loops.Reading.TheVariants.{Works, Moves, Back, Through}
use Rattle.cert_maker.specs.Words.{ImageView, Param, Insn, Vtype, Width}

-- what follows an answer, or its error
infixl 10 ◌>>=◌
abbrev pub ◌>>=◌ : {X Y : Type 0} → Result X ℕ → (X → Result Y ℕ) → Result Y ℕ
(Ok x) >>= f = f x
(Err e) >>= f = Err e

-- bytes of an element
abbrev pub size_of : Loop → ℕ
size_of loop = bytes_of_width loop.sew

-- ---- registers and what they are at entry

-- the parameter that an argument register, a0 (x10) to a7 (x17), holds
unfoldable pub parameter_in : List Param → ℕ → Option Param
parameter_in params register =
    if nat_le 10 register && nat_lt register 18 then slice_get params (register - 10) else None

-- the upper end of a scalar
unfoldable pub most_of : Param → Option ℕ
most_of parameter.None = None
most_of (parameter.Scalar lo hi) = Some hi
most_of (parameter.Buffer access size) = None

unfoldable pub may_be : Direction → Mode → Bool
may_be direction.Load access = true
may_be direction.Store mode.Read = false
may_be direction.Store mode.ReadWrite = true

-- a buffer of at least `bytes` bytes, to which this may be done
unfoldable pub is_buffer_for : Direction → ℕ → Param → Bool
is_buffer_for d bytes parameter.None = false
is_buffer_for d bytes (parameter.Scalar lo hi) = false
is_buffer_for d bytes (parameter.Buffer access size) = nat_le bytes size && may_be d access

-- the argument register is one of the flagged ones, by place
unfoldable pub is_flagged : ℕ → List Bool → Bool
is_flagged register flags =
    if nat_le 10 register && nat_lt register 18 then slice_index_or flags (register - 10) false
    else false

-- a register for a number of the loop's own: neither x0 nor ra
abbrev pub is_free : ℕ → Loop → Bool
is_free register loop =
    not (register == 0) && not (register == 1) && not (register == loop.count)
    && not (is_flagged register loop.pointers)

-- ---- the words, one by one

-- `beqz n,end`: n, its greatest value, and the end
unfoldable pub count_by : List Param → ℕ → Insn → Option Head
count_by params pc (class.Scalar (Branch Eq rs1 rs2 offset)) =
    if rs2 == 0
    then option_map (λ most. record { count = rs1; most = most; end = offset_by pc offset })
    (option_and_then most_of (parameter_in params rs1))
    else None
count_by params pc other = None

-- the loop of a head, with vl in a register, under the type that bits say
abbrev pub loop_begun : Head → ℕ → ℕ → Vtype → Loop
loop_begun head rd bits vtype = record {
  count = head.count;
  most = head.most;
  length = rd;
  vtype = bits;
  sew = vtype.sew;
  pointers = replicate 8 false;
  end = head.end;
}

-- `vsetvli t,n`, of a supported type
unfoldable pub length_by : Head → Insn → Option Loop
length_by head (class.VSet (Vsetvli rd rs1 vtype)) =
    if (rs1 == head.count) && not (rd == 0) && not (rd == 1) && not (rd == head.count)
    then option_map (loop_begun head rd vtype) (vtype_of vtype)
    else None
length_by head other = None

abbrev pub is_double : Extent → Bool
is_double (extent.Group eew.Double) = true
is_double (extent.Single eew.Double) = true
is_double other = false

abbrev pub is_mask : Extent → Bool
is_mask extent.Mask = true
is_mask other = false

-- elements are written, of SEW, and no mask
abbrev pub writes_elements : Option Operand → Bool
writes_elements None = false
writes_elements (Some operand) = not (is_mask operand.extent) && not (is_double operand.extent)

abbrev pub reads_double : Option Operand → Bool
reads_double None = false
reads_double (Some operand) = is_double operand.extent

-- vector arithmetic, which accesses no memory
unfoldable pub is_vector_class : Insn → Bool
is_vector_class (class.Scalar insn) = false
is_vector_class (class.Csr insn) = false
is_vector_class (class.VSet insn) = false
is_vector_class (class.VArith insn) = true
is_vector_class (class.VMask insn) = true
is_vector_class (class.VPerm insn) = true
is_vector_class (class.VReduce insn) = true
is_vector_class (class.VMem insn) = false
is_vector_class (class.VMove insn) = true

-- arithmetic that is not masked, writes elements, and neither widens nor narrows
unfoldable pub is_arithmetic : Insn → Bool
is_arithmetic insn =
    is_vector_class insn && not (needs_of insn).is_masked
    && writes_elements (needs_of insn).destination
    && not (reads_double (needs_of insn).vs2)

-- the loop with one pointer more
unfoldable pub with_pointer : ℕ → Loop → Loop
with_pointer pointer loop = record loop { pointers = slice_set loop.pointers (pointer - 10) true }

-- elements of SEW one after another, not masked
unfoldable pub is_plain : Width → Addressing → Bool
is_plain sew (place.Unit width masked) = (bytes_of_width width == bytes_of_width sew) && not masked
is_plain sew other = false

-- an access of all elements below vl, through a pointer to a buffer that has room for the most
unfoldable pub is_access : List Param → Loop → VMem → Bool
is_access params loop insn =
    is_plain loop.sew insn.place && not (insn.rs1 == loop.length)
    && option_map_or (is_buffer_for insn.direction (loop.most * size_of loop))
    (parameter_in params insn.rs1) false

-- ---- reading

-- `add p,p,step`, or `sub n,n,t` once no pointer is left
unfoldable pub moved_by : Loop → ℕ → List Bool → Insn → Option Reading
moved_by loop step left (class.Scalar (Register Add rd rs1 rs2)) =
    if is_flagged rd left && (rs1 == rd) && (rs2 == step)
    then Some (Moves loop step (slice_set left (rd - 10) false)) else None
moved_by loop step left (class.Scalar (Register Sub rd rs1 rs2)) =
    if not (list_any (λ is_left. is_left) left) && (rd == loop.count) && (rs1 == loop.count)
    && (rs2 == loop.length)
    then Some (Back loop) else None
moved_by loop step left other = None

-- log2 of the bytes of an element; none at one byte, where vl is the step itself
unfoldable pub shift_of : Width → Option ℕ
shift_of W8 = None
shift_of W16 = Some 1
shift_of W32 = Some 2

-- `slli t1,t,log2(SEW/8)`
unfoldable pub step_by : Loop → Option ℕ → Insn → Option Reading
step_by loop None insn = moved_by loop loop.length loop.pointers insn
step_by loop (Some wanted) (class.Scalar (ShiftImmediate Slli rd rs1 amount)) =
    if (rs1 == loop.length) && (amount == wanted) && is_free rd loop && not (rd == loop.length)
    then Some (Moves loop rd loop.pointers) else None
step_by loop (Some wanted) other = None

unfoldable pub works_on : List Param → Loop → Insn → Option Reading
works_on params loop (class.VMem insn) =
    if is_access params loop insn
    && is_legal record { vtype = loop.vtype; vl = 0 } (class.VMem insn)
    then Some (Works (with_pointer insn.rs1 loop)) else None
works_on params loop other =
    if is_arithmetic other
    then (if is_legal record { vtype = loop.vtype; vl = 0 } other then Some (Works loop) else None)
    else step_by loop (shift_of loop.sew) other

-- `bnez n` to the loop's first word, where the first branch leads to the word after it
unfoldable pub back_by : Loop → ℕ → ℕ → Insn → Option Reading
back_by loop start pc (class.Scalar (Branch Ne rs1 rs2 offset)) =
    if (rs1 == loop.count) && (rs2 == 0) && (offset_by pc offset == start) && (loop.end == pc + 4)
    then Some (Through loop) else None
back_by loop start pc other = None

unfoldable pub next_of : List Param → ℕ → ℕ → Reading → Insn → Option Reading
next_of params start pc (Works loop) insn = works_on params loop insn
next_of params start pc (Moves loop step left) insn = moved_by loop step left insn
next_of params start pc (Back loop) insn = back_by loop start pc insn
next_of params start pc (Through loop) insn = None

-- the instruction at an address of code
unfoldable pub insn_at : ℕ → ImageView → Option Insn
insn_at pc image = option_and_then meaning_of (code_at pc image)

-- what an instruction is read as, or the address of the word that does not fit
abbrev pub read_at : {A : Type 0} → ℕ → (Insn → Option A) → ImageView → Result A ℕ
read_at pc wanted image = ok_or (option_and_then wanted (insn_at pc image)) pc

abbrev pub is_through : Reading → Bool
is_through (Works loop) = false
is_through (Moves loop step left) = false
is_through (Back loop) = false
is_through (Through loop) = true

-- what follows the word at an address: the loop and how many words it has, once it is read through,
-- or the words behind
abbrev pub then_read : ℕ → ℕ → Option Reading → (Reading → Result (Loop × ℕ) ℕ)
    → Result (Loop × ℕ) ℕ
then_read start pc None more = Err pc
then_read start pc (Some (Works loop)) more = more (Works loop)
then_read start pc (Some (Moves loop step left)) more = more (Moves loop step left)
then_read start pc (Some (Back loop)) more = more (Back loop)
then_read start pc (Some (Through loop)) more = Ok (loop, (pc - start) / 4 + 1)

-- No word of code lies at 0xC000_0000 or above. So 0x3000_0000 words from the entry on are never
-- read.
unfoldable pub loop_from : ImageView → List Param → ℕ → ℕ → ℕ → Reading → Result (Loop × ℕ) ℕ
loop_from image params start zero pc reading = Err pc
loop_from image params start (suc more) pc reading =
    then_read start pc (option_and_then (next_of params start pc reading) (insn_at pc image))
    (λ next. loop_from image params start more (pc + 4) next)

-- `ret`
unfoldable pub is_return : Insn → Bool
is_return (class.Scalar (Jalr rd rs1 offset)) = (rd == 0) && (rs1 == 1) && (unsigned offset == 0)
is_return other = false

abbrev pub return_by : Insn → Option Insn
return_by insn = if is_return insn then Some insn else None

-- the loop from the entry on, and how many instructions it has; or the address of the first word
-- that does not fit
unfoldable pub loop_of : ImageView → List Param → Result (Loop × ℕ) ℕ
loop_of image params = do
  head ← read_at image.entry (count_by params image.entry) image
  loop ← read_at (image.entry + 4) (length_by head) image
  through ← loop_from image params (image.entry + 4) 0x3000_0000 (image.entry + 8) (Works loop)
  last ← read_at (image.entry + 4 + 4 * through.1) return_by image
  Ok through
