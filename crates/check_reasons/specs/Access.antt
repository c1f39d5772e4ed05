-- Accesses that the check refused, and in which words they are told.
use Rattle.std.specs.Prelude.{ℕ, ℤ, pos, ◌+◌, ◌-◌, ◌++◌, ◌==◌, nat_lt, slice_index_or, Bool, true, false, List, [], ◌∷◌, codes, Option, Some, None, option_map, not, if◌then◌else◌}
use Rattle.std.specs.Fmt.{decimal, signed_decimal}
use Rattle.linear_facts.specs.declared.ranges.Range.{Range}
use Rattle.rv_decode.specs.declared.instructions.Insn.{Insn}
use Rattle.rv_decode.specs.declared.instructions.Insn.TheVariants as insn
use Rattle.rv_decode.specs.declared.instructions.ScalarInsn.{ScalarInsn}
use Rattle.rv_decode.specs.declared.instructions.ScalarInsn.TheVariants as scalar
use Rattle.rv_decode.specs.declared.instructions.Addressing.{Addressing}
use Rattle.rv_decode.specs.declared.instructions.Addressing.TheVariants as place
use Rattle.rv_decode.specs.declared.instructions.VMem.{VMem}
use Rattle.rv_decode.specs.declared.instructions.Direction.{Direction}
use Rattle.rv_decode.specs.declared.instructions.Direction.TheVariants as direction
use Rattle.region_mem.specs.declared.parameter.Param.{Param}
use Rattle.region_mem.specs.declared.parameter.Param.TheVariants as parameter
use Rattle.scalar_core.specs.Arithmetic.{unsigned}
use Rattle.scalar_core.specs.Step.{size_of_load, size_of_store}
use Rattle.abs_domain.specs.Numbers.{NumbersView, value_at}
use Rattle.abs_domain.specs.declared.numbers.TheConstants.{VL}
use Rattle.abs_domain.specs.declared.zones.Zone.{Zone}
use Rattle.abs_transfer.specs.Scalar.{address_range}
use Rattle.abs_transfer.specs.declared.accesses.Reach.{Reach}
use Rattle.abs_state.specs.After.{reach_of}
use Rattle.abs_state.specs.State.{AbstractView}
use Rattle.explanations.specs.Address.{address_text}
use Rattle.check_reasons.specs.Groups.{group_at, vector_text}
use Rattle.check_reasons.specs.Spans.{span_text, vl_line}
use Rattle.check_reasons.specs.declared.access.Access.{Access}
use Rattle.check_reasons.specs.declared.access.Apart.{Apart}
use Rattle.check_reasons.specs.declared.access.Apart.TheVariants as apart
use Rattle.check_reasons.specs.declared.access.Elements.{Elements}
use Rattle.check_reasons.specs.declared.access.Operand.{Operand}

abbrev pub operand : Bool → ℕ → ℤ → ℕ → Option Operand
operand is_store base offset size =
    Some record { is_store = is_store; base = base; offset = offset; size = size }

-- of a load or store: whether it is a store, its base register, its offset, and how many
-- bytes it accesses
abbrev pub scalar_operand : ScalarInsn → Option Operand
scalar_operand (scalar.Load kind rd rs1 offset) = operand false rs1 offset (size_of_load kind)
scalar_operand (scalar.Store size rs1 rs2 offset) = operand true rs1 offset (size_of_store size)
scalar_operand (scalar.Lui rd imm) = None
scalar_operand (scalar.Auipc rd imm) = None
scalar_operand (scalar.Jal rd offset) = None
scalar_operand (scalar.Jalr rd rs1 offset) = None
scalar_operand (scalar.Branch condition rs1 rs2 offset) = None
scalar_operand (scalar.Immediate op rd rs1 imm) = None
scalar_operand (scalar.ShiftImmediate op rd rs1 amount) = None
scalar_operand (scalar.Register op rd rs1 rs2) = None
scalar_operand scalar.Fence = None
scalar_operand scalar.Ecall = None

abbrev pub is_store : Direction → Bool
is_store direction.Load = false
is_store direction.Store = true

-- the same of any instruction; of a vector instruction the number of bytes is not told
abbrev pub operand_of : Insn → Option Operand
operand_of (insn.Scalar i) = scalar_operand i
operand_of (insn.VMem i) = operand (is_store i.direction) i.rs1 (pos 0) 0
operand_of (insn.Csr i) = None
operand_of (insn.VSet i) = None
operand_of (insn.VArith i) = None
operand_of (insn.VMask i) = None
operand_of (insn.VPerm i) = None
operand_of (insn.VReduce i) = None
operand_of (insn.VMove i) = None

-- where `size` bytes may lie, with the address of the first one in a range
abbrev pub reach_from : Range → ℕ → Reach
reach_from r size = record { first = r.lo; end = r.hi + size }

-- where the bytes of a load or store may lie
unfoldable pub scalar_reach : NumbersView → ScalarInsn → Option Reach
scalar_reach s i =
    option_map (λ o. reach_from (address_range o.base (unsigned o.offset) s) o.size)
    (scalar_operand i)

-- the same of any instruction, with what is known before it, if that says where
unfoldable pub reach_in : Insn → AbstractView → Option Reach
reach_in (insn.Scalar i) a = scalar_reach a.numbers i
reach_in (insn.VMem i) a = reach_of a i
reach_in (insn.Csr i) a = None
reach_in (insn.VSet i) a = None
reach_in (insn.VArith i) a = None
reach_in (insn.VMask i) a = None
reach_in (insn.VPerm i) a = None
reach_in (insn.VReduce i) a = None
reach_in (insn.VMove i) a = None

-- how far the elements of a vector access lie apart, with what is known before it
abbrev pub apart_in : AbstractView → Addressing → Apart
apart_in a (place.Unit width masked) = apart.Close
apart_in a (place.Strided width rs2 masked) = apart.Stride rs2 (value_at a.numbers rs2).range
apart_in a (place.Indexed width vs2 ordered masked) = apart.Indices vs2 (group_at vs2 a.groups)
apart_in a place.Mask = apart.Close
apart_in a (place.Whole width count) = apart.Close

abbrev pub elements_on : AbstractView → VMem → Elements
elements_on a i =
    record { vl = (value_at a.numbers VL).range; apart = apart_in a i.place }

-- the elements of a vector access
unfoldable pub elements_in : Insn → AbstractView → Option Elements
elements_in (insn.VMem i) a = Some (elements_on a i)
elements_in (insn.Scalar i) a = None
elements_in (insn.Csr i) a = None
elements_in (insn.VSet i) a = None
elements_in (insn.VArith i) a = None
elements_in (insn.VMask i) a = None
elements_in (insn.VPerm i) a = None
elements_in (insn.VReduce i) a = None
elements_in (insn.VMove i) a = None

abbrev pub is_buffer : Param → Bool
is_buffer parameter.None = false
is_buffer (parameter.Scalar lo hi) = false
is_buffer (parameter.Buffer mode size) = true

-- the place of a parameter, if it asks for a buffer
unfoldable pub buffer_place : ℕ → Param → List ℕ
buffer_place place param = if is_buffer param then place ∷ [] else []

-- the places of the parameters that ask for buffers, from one place on
unfoldable pub buffer_places : ℕ → List Param → List ℕ
buffer_places place [] = []
buffer_places place (param ∷ others) =
    buffer_place place param ++ buffer_places (place + 1) others

-- ---- the words

abbrev pub rights_in : Bool → Bool → List ℕ
rights_in true true = codes "read and write"
rights_in true false = codes "read"
rights_in false true = codes "write"
rights_in false false = codes "neither read nor write"

abbrev pub rights_text : Zone → List ℕ
rights_text zone = rights_in zone.read zone.write

-- the name of a zone: the segments come first, then the stack, and then the buffers of these places
unfoldable pub zone_name : ℕ → List ℕ → ℕ → List ℕ
zone_name segments buffers number =
    if nat_lt number segments then codes "segment " ++ decimal number
    else (if number == segments then codes "stack"
    else codes "a" ++ decimal (slice_index_or buffers (number - (segments + 1)) 0))

abbrev pub zone_line : ℕ → List ℕ → ℕ → Zone → List ℕ
zone_line segments buffers number zone = codes "    " ++ (zone_name segments buffers number
    ++ (codes ", from " ++ (address_text zone.first ++ (codes " and below "
    ++ (address_text zone.end ++ (codes ": " ++ (rights_text zone ++ codes "\n")))))))

-- the zones from a number on
unfoldable pub zones_from : ℕ → List ℕ → ℕ → List Zone → List ℕ
zones_from segments buffers number [] = []
zones_from segments buffers number (zone ∷ zones) =
    zone_line segments buffers number zone ++ zones_from segments buffers (number + 1) zones

abbrev pub zone_lines : ℕ → List ℕ → List Zone → List ℕ
zone_lines segments buffers zones = zones_from segments buffers 0 zones

abbrev pub base_line : ℕ → Range → List ℕ
base_line base interval =
    codes "  known: x" ++ (decimal base ++ (codes " in " ++ (span_text interval ++ codes "\n")))

unfoldable pub offset_text : ℤ → List ℕ
offset_text offset = signed_decimal offset

abbrev pub bytes_line : ℕ → List ℕ
bytes_line size = codes "  bytes of the access: " ++ (decimal size ++ codes "\n")

abbrev pub offset_line : ℤ → List ℕ
offset_line offset = codes "  offset from the base: " ++ (offset_text offset ++ codes "\n")

-- of a vector instruction, whose size is not told, nothing
unfoldable pub size_lines : ℤ → ℕ → List ℕ
size_lines offset size = if size == 0 then [] else bytes_line size ++ offset_line offset

abbrev pub apart_line : Apart → List ℕ
apart_line apart.Close = []
apart_line (apart.Stride register range) = codes "  known: the stride, x"
    ++ (decimal register ++ (codes ", in " ++ (span_text range ++ codes "\n")))
apart_line (apart.Indices register None) =
    codes "  known: nothing of the indices, v" ++ (decimal register ++ codes "\n")
apart_line (apart.Indices register (Some fact)) =
    codes "  known: the indices, " ++ (vector_text fact ++ codes "\n")

abbrev pub elements_lines : Option Elements → List ℕ
elements_lines None = []
elements_lines (Some told) = vl_line told.vl ++ apart_line told.apart

-- whether elements lie apart by what is not one number
abbrev pub is_varied : Apart → Bool
is_varied apart.Close = false
is_varied (apart.Stride register range) = not (range.lo == range.hi)
is_varied (apart.Indices register known) = false

abbrev pub is_varying : Option Elements → Bool
is_varying None = false
is_varying (Some told) = is_varied told.apart

-- A stride that is one number leaves no bounds where it is below 0, and the last byte may be.
abbrev pub no_reach : Bool → List ℕ
no_reach true = codes "the stride is not one number"
no_reach false = codes "they may reach below 0"

-- the first byte and the last one, or why they are not known
abbrev pub reach_line : Option Reach → Option Elements → List ℕ
reach_line None elements = codes "  known: no bounds of its bytes: "
    ++ (no_reach (is_varying elements) ++ codes "\n")
reach_line (Some r) elements = codes "  known: its bytes in " ++ (address_text r.first
    ++ (codes "..=" ++ (address_text (r.end - 1) ++ codes "\n")))

abbrev pub access_wanted : Operand → List ℕ
access_wanted o =
    if o.is_store then codes "  wanted: all bytes in one of these zones that may be written\n"
    else codes "  wanted: all bytes in one of these zones that may be read\n"

-- the lines of what is wanted of an access
unfoldable pub wanted_lines : Access → List ℕ
wanted_lines a =
    reach_line a.reach a.elements ++ (access_wanted a.operand
    ++ zone_lines a.segments a.buffers.items a.zones.items)

-- the lines of an access
unfoldable pub access_text : Access → List ℕ
access_text a = base_line a.operand.base a.interval
    ++ (size_lines a.operand.offset a.operand.size
    ++ (elements_lines a.elements ++ wanted_lines a))
