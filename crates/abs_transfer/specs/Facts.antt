-- What is known of the elements of groups of vector registers: what an instruction reads, what it
-- states of its destination, and which facts stay true where registers are written or vl changes.
use Rattle.std.specs.Prelude.{ℕ, ◌+◌, ◌-◌, ◌*◌, ◌/◌, ◌%◌, ◌^◌, ◌==◌, nat_lt, nat_le, ◌&&◌, ◌||◌, not, min, max, Bool, if◌then◌else◌, List, [], ◌∷◌, ◌++◌, map, filter, find, Option, Some, None}
use Rattle.std.specs.Option.{option_and_then, option_map_or}
use Rattle.abs_transfer.specs.Words.{Range, Operand, Insn, Logic, Count, First, SetFirst, Iota, Index, needs_of, unsigned, Vtype, vlmax_of, vtype_of, VectorFact}
use Rattle.rv_decode.specs.declared.extents.Eew.{Eew}
use Rattle.rv_decode.specs.declared.extents.Eew.TheVariants.{Same, Double}
use Rattle.rv_decode.specs.declared.instructions.Insn.TheVariants as class
use Rattle.rv_decode.specs.declared.instructions.Source.{Source}
use Rattle.rv_decode.specs.declared.instructions.Source.TheVariants.{Vector, Scalar, Immediate}
use Rattle.rv_decode.specs.declared.instructions.VArith.{VArith}
use Rattle.rv_decode.specs.declared.instructions.VArith.TheVariants.{Int, MultiplyAdd, Carry, CarryOut, Merge, Copy, Compare, Fixed, Widen, Wide, WidenMultiplyAdd, Narrow, Clip, Extend}
use Rattle.rv_decode.specs.declared.instructions.IntOp.{IntOp}
use Rattle.rv_decode.specs.declared.instructions.IntOp.TheVariants as int
use Rattle.rv_decode.specs.declared.instructions.NarrowOp.{NarrowOp}
use Rattle.rv_decode.specs.declared.instructions.NarrowOp.TheVariants as narrow
use Rattle.rv_decode.specs.declared.instructions.VMask.{VMask}
use Rattle.rv_decode.specs.Needs.{eew_of}
use Rattle.rv_decode.specs.Instructions.{bits_of_width}
use Rattle.vreg_groups.specs.Legality.{count_of, eew_bits, group_count}
use Rattle.abs_domain.specs.Effects.{fitting, multiple_range}
use Rattle.abs_domain.specs.Values.{just, known_of, up_to}
use Rattle.abs_domain.specs.Numbers.{NumbersView, value_at}

-- the vector type, where vtype is known
abbrev pub known_type : Option ℕ → Option Vtype
known_type vtype = option_and_then vtype_of vtype

-- ---- what an instruction reads

-- all numbers of this many bits
abbrev pub all_of_bits : ℕ → Range
all_of_bits bits = up_to (2 ^ bits - 1)

-- the fact speaks of this group, and of all its elements below vl
unfoldable pub is_source : Range → ℕ → ℕ → ℕ → VectorFact → Bool
is_source vl first width registers fact =
    (fact.register == first) && (fact.width == width) && (fact.registers == registers)
    && ((fact.count == 0) || nat_le vl.hi fact.count)

abbrev pub fact_range : VectorFact → Range
fact_range fact = record { lo = fact.low; hi = fact.high }

-- the range of the elements below vl of the group that begins at a register; no legal
-- EEW is above 32
unfoldable pub source_range : Vtype → Range → ℕ → Eew → List VectorFact → Range
source_range t vl first eew facts =
    option_map_or fact_range
    (find (is_source vl first (eew_bits t.sew eew) (group_count t eew)) facts)
    (all_of_bits (min 32 (eew_bits t.sew eew)))

-- the range of the low bits of a number
unfoldable pub low_range : ℕ → Range → Range
low_range bits r = if nat_lt r.hi (2 ^ bits) then r else all_of_bits bits

-- the range of the elements of the second operand
unfoldable pub second_range : Vtype → NumbersView → List VectorFact → Source → Range
second_range t s facts (Vector vs1) = source_range t (value_at s 32).range vs1 Same facts
second_range t s facts (Scalar rs1) = low_range (bits_of_width t.sew) (value_at s rs1).range
second_range t s facts (Immediate imm) = just (unsigned imm % 2 ^ bits_of_width t.sew)

-- ---- what an operation makes of elements, where that is known

-- a shift to the left by the low bits of an amount, where it is known
unfoldable pub left_elements : ℕ → Range → Option ℕ → Option Range
left_elements bits a None = None
left_elements bits a (Some n) = multiple_range bits (2 ^ (n % bits)) a

-- a shift to the right of elements with `of` bits, where what it leaves has `bits`
unfoldable pub right_elements : ℕ → ℕ → Range → Option ℕ → Option Range
right_elements of bits a None = None
right_elements of bits a (Some n) = fitting bits (a.lo / 2 ^ (n % of)) (a.hi / 2 ^ (n % of))

-- the remainder by a number that is known and not 0
unfoldable pub remainder_elements : Range → Option ℕ → Option Range
remainder_elements a None = None
remainder_elements a (Some c) = if c == 0 then None else Some (up_to (min a.hi (c - 1)))

-- vremu by an x register only
unfoldable pub remainder_by : Source → Range → Option ℕ → Option Range
remainder_by (Vector vs1) a c = None
remainder_by (Scalar rs1) a c = remainder_elements a c
remainder_by (Immediate imm) a c = None

-- the range of what an operation gives for elements of vs2 and of the second operand
-- that lie in these
unfoldable pub int_range : ℕ → IntOp → Source → Range → Range → Option Range
int_range bits int.Add b x y = fitting bits (x.lo + y.lo) (x.hi + y.hi)
int_range bits int.Sub b x y = None
int_range bits int.Rsub b x y = None
int_range bits int.Minu b x y = Some record { lo = min x.lo y.lo; hi = min x.hi y.hi }
int_range bits int.Min b x y = None
int_range bits int.Maxu b x y = Some record { lo = max x.lo y.lo; hi = max x.hi y.hi }
int_range bits int.Max b x y = None
int_range bits int.And b x y = Some (up_to (min x.hi y.hi))
int_range bits int.Or b x y = None
int_range bits int.Xor b x y = None
int_range bits int.Sll b x y = left_elements bits x (known_of y)
int_range bits int.Srl b x y = right_elements bits bits x (known_of y)
int_range bits int.Sra b x y = None
int_range bits int.Mul b x y = None
int_range bits int.Mulh b x y = None
int_range bits int.Mulhu b x y = None
int_range bits int.Mulhsu b x y = None
int_range bits int.Divu b x y = None
int_range bits int.Div b x y = None
int_range bits int.Remu b x y = remainder_by b x (known_of y)
int_range bits int.Rem b x y = None

unfoldable pub narrow_range : ℕ → NarrowOp → Range → Range → Option Range
narrow_range bits narrow.Srl x y = right_elements (2 * bits) bits x (known_of y)
narrow_range bits narrow.Sra x y = None

-- ---- what an instruction states of its destination's elements below vl: none where it is masked

abbrev pub unless_masked : Bool → Option Range → Option Range
unless_masked masked r = if masked then None else r

unfoldable pub arith_range : Vtype → NumbersView → List VectorFact → VArith → Option Range
arith_range t s facts (Int op vd vs2 b masked) =
    unless_masked masked (int_range (bits_of_width t.sew) op b
    (source_range t (value_at s 32).range vs2 Same facts) (second_range t s facts b))
arith_range t s facts (MultiplyAdd op vd vs2 b masked) = None
arith_range t s facts (Carry op vd vs2 b) = None
arith_range t s facts (CarryOut op vd vs2 b with_carry) = None
arith_range t s facts (Merge vd vs2 b) = None
arith_range t s facts (Copy vd b) = Some (second_range t s facts b)
arith_range t s facts (Compare op vd vs2 b masked) = None
arith_range t s facts (Fixed op vd vs2 b masked) = None
arith_range t s facts (Widen op vd vs2 b masked) = None
arith_range t s facts (Wide op vd vs2 b masked) = None
arith_range t s facts (WidenMultiplyAdd op vd vs2 b masked) = None
arith_range t s facts (Narrow op vd vs2 b masked) =
    unless_masked masked (narrow_range (bits_of_width t.sew) op
    (source_range t (value_at s 32).range vs2 Double facts) (second_range t s facts b))
arith_range t s facts (Clip op vd vs2 b masked) = None
arith_range t s facts (Extend signed of vd vs2 masked) =
    unless_masked (masked || signed)
    (Some (source_range t (value_at s 32).range vs2 (eew_of of) facts))

-- numbers of elements, where all of them fit
abbrev pub place_range : ℕ → Vtype → Option Range
place_range vlenb t = fitting (bits_of_width t.sew) 0 (vlmax_of vlenb t - 1)

unfoldable pub mask_range : ℕ → Vtype → VMask → Option Range
mask_range vlenb t (Logic op vd vs2 vs1) = None
mask_range vlenb t (Count rd vs2 masked) = None
mask_range vlenb t (First rd vs2 masked) = None
mask_range vlenb t (SetFirst op vd vs2 masked) = None
mask_range vlenb t (Iota vd vs2 masked) = unless_masked masked (place_range vlenb t)
mask_range vlenb t (Index vd masked) = unless_masked masked (place_range vlenb t)

unfoldable pub stated_range : ℕ → Vtype → NumbersView → List VectorFact → Insn → Option Range
stated_range vlenb t s facts (class.Scalar insn) = None
stated_range vlenb t s facts (class.Csr insn) = None
stated_range vlenb t s facts (class.VSet insn) = None
stated_range vlenb t s facts (class.VArith insn) = arith_range t s facts insn
stated_range vlenb t s facts (class.VMask insn) = mask_range vlenb t insn
stated_range vlenb t s facts (class.VPerm insn) = None
stated_range vlenb t s facts (class.VReduce insn) = None
stated_range vlenb t s facts (class.VMem insn) = None
stated_range vlenb t s facts (class.VMove insn) = None

-- a fact for vl on a group of SEW; one on all numbers says nothing
abbrev pub group_fact : Vtype → ℕ → Range → VectorFact
group_fact t first r = record {
  register = first;
  width = bits_of_width t.sew;
  registers = group_count t Same;
  count = 0;
  low = r.lo;
  high = r.hi;
}

unfoldable pub fact_if : Vtype → ℕ → Option Range → List VectorFact
fact_if t first None = []
fact_if t first (Some r) =
    if (r.lo == 0) && (r.hi == 2 ^ bits_of_width t.sew - 1) then [] else group_fact t first r ∷ []

unfoldable pub stated_at : ℕ → Vtype → NumbersView → List VectorFact → Insn → Option Operand
    → List VectorFact
stated_at vlenb t s facts insn None = []
stated_at vlenb t s facts insn (Some destination) =
    fact_if t destination.first (stated_range vlenb t s facts insn)

unfoldable pub stated_by : ℕ → Option Vtype → NumbersView → List VectorFact → Insn → List VectorFact
stated_by vlenb None s facts insn = []
stated_by vlenb (Some t) s facts insn = stated_at vlenb t s facts insn (needs_of insn).destination

-- ---- what stays true

-- the fact's group has none of `count` registers from `first` on
unfoldable pub is_apart : ℕ → ℕ → VectorFact → Bool
is_apart first count fact =
    nat_le (fact.register + fact.registers) first || nat_le (first + count) fact.register

-- the facts that a write to a destination leaves
unfoldable pub untouched : Option Vtype → Option Operand → List VectorFact → List VectorFact
untouched t None facts = facts
untouched t (Some destination) facts =
    filter (is_apart destination.first (count_of t destination.extent)) facts

-- the facts after an instruction that leaves vl as it is
unfoldable pub groups_after : ℕ → Option ℕ → NumbersView → Insn → List VectorFact → List VectorFact
groups_after vlenb vtype s insn facts =
    untouched (known_type vtype) (needs_of insn).destination facts
    ++ stated_by vlenb (known_type vtype) s facts insn

-- how many elements a group has
abbrev pub elements_in : ℕ → VectorFact → ℕ
elements_in vlenb fact = fact.registers * vlenb / (fact.width / 8)

-- Where vl changes, a fact for vl becomes one for as many elements as vl was at least, and says
-- nothing where that may have been 0.
unfoldable pub is_lasting : ℕ → VectorFact → Bool
is_lasting least fact = not (fact.count == 0) || nat_lt 0 least

unfoldable pub counted : ℕ → ℕ → VectorFact → VectorFact
counted vlenb least fact =
    if fact.count == 0 then record fact { count = min least (elements_in vlenb fact) } else fact

unfoldable pub cut_groups : ℕ → ℕ → List VectorFact → List VectorFact
cut_groups vlenb least facts = map (counted vlenb least) (filter (is_lasting least) facts)
