-- What an instruction needs of the vector registers.
use Rattle.std.specs.Prelude.{ℕ, Bool, true, false, Option, None, Some}
use Rattle.rv_decode.specs.Words.{Eew, Extent, Operand, Operands, Sharing, Count, Direction, Fraction, Insn, Addressing, Source, VArith, VMask}
use Rattle.rv_decode.specs.Words.{VMem, VMove, VPerm, VReduce, Logic, First, SetFirst, Iota, Index, SlideUp, SlideDown, SlideOneUp}
use Rattle.rv_decode.specs.Words.{SlideOneDown, Gather, Gather16, Compress, Fold, WidenSum, W16}
use Rattle.rv_decode.specs.declared.extents.Eew.TheVariants.{Quarter, Half, Same, Double, Fixed}

-- a group whose elements have this width
abbrev pub group : Eew → ℕ → Option Operand
group eew first = Some (record { first = first; extent = Extent.Group eew })

-- the first element, of this width, of a register
abbrev pub single : Eew → ℕ → Option Operand
single eew first = Some (record { first = first; extent = Extent.Single eew })

-- a mask: one register
abbrev pub mask : ℕ → Option Operand
mask first = Some (record { first = first; extent = Extent.Mask })

-- whole registers
abbrev pub whole : Count → ℕ → Option Operand
whole count first = Some (record { first = first; extent = Extent.Whole count })

-- the second operand, where it is a group of SEW
abbrev pub second : Source → Option Operand
second (Source.Vector vs1) = group Same vs1
second (Source.Scalar rs1) = None
second (Source.Immediate imm) = None

-- the width of what is extended to SEW
abbrev pub eew_of : Fraction → Eew
eew_of Fraction.Half = Half
eew_of Fraction.Quarter = Quarter

abbrev pub operands : Option Operand → Option Operand → Option Operand → Bool → Sharing → Operands
operands destination vs2 vs1 is_masked sharing =
    record {
      destination = destination;
      vs2 = vs2;
      vs1 = vs1;
      is_masked = is_masked;
      sharing = sharing;
    }

-- an instruction that touches no vector register
abbrev pub no_operands : Operands
no_operands = operands None None None false Sharing.ByWidth

-- vector arithmetic, a line for each shape
unfoldable pub needs_of_arith : VArith → Operands
needs_of_arith (VArith.Int op vd vs2 b masked) =
    operands (group Same vd) (group Same vs2) (second b) masked Sharing.ByWidth
needs_of_arith (VArith.MultiplyAdd op vd vs2 b masked) =
    operands (group Same vd) (group Same vs2) (second b) masked Sharing.ByWidth
needs_of_arith (VArith.Carry op vd vs2 b) =
    operands (group Same vd) (group Same vs2) (second b) true Sharing.ByWidth
needs_of_arith (VArith.CarryOut op vd vs2 b with_carry) =
    operands (mask vd) (group Same vs2) (second b) with_carry Sharing.ByWidth
needs_of_arith (VArith.Merge vd vs2 b) =
    operands (group Same vd) (group Same vs2) (second b) true Sharing.ByWidth
needs_of_arith (VArith.Copy vd b) = operands (group Same vd) None (second b) false Sharing.ByWidth
needs_of_arith (VArith.Compare op vd vs2 b masked) =
    operands (mask vd) (group Same vs2) (second b) masked Sharing.ByWidth
needs_of_arith (VArith.Fixed op vd vs2 b masked) =
    operands (group Same vd) (group Same vs2) (second b) masked Sharing.ByWidth
needs_of_arith (VArith.Widen op vd vs2 b masked) =
    operands (group Double vd) (group Same vs2) (second b) masked Sharing.ByWidth
needs_of_arith (VArith.Wide op vd vs2 b masked) =
    operands (group Double vd) (group Double vs2) (second b) masked Sharing.ByWidth
needs_of_arith (VArith.WidenMultiplyAdd op vd vs2 b masked) =
    operands (group Double vd) (group Same vs2) (second b) masked Sharing.ByWidth
needs_of_arith (VArith.Narrow op vd vs2 b masked) =
    operands (group Same vd) (group Double vs2) (second b) masked Sharing.ByWidth
needs_of_arith (VArith.Clip op vd vs2 b masked) =
    operands (group Same vd) (group Double vs2) (second b) masked Sharing.ByWidth
needs_of_arith (VArith.Extend signed of vd vs2 masked) =
    operands (group Same vd) (group (eew_of of) vs2) None masked Sharing.ByWidth

-- what works on masks
unfoldable pub needs_of_mask : VMask → Operands
needs_of_mask (Logic op vd vs2 vs1) = operands (mask vd) (mask vs2) (mask vs1) false Sharing.ByWidth
needs_of_mask (VMask.Count rd vs2 masked) = operands None (mask vs2) None masked Sharing.ByWidth
needs_of_mask (First rd vs2 masked) = operands None (mask vs2) None masked Sharing.ByWidth
needs_of_mask (SetFirst op vd vs2 masked) =
    operands (mask vd) (mask vs2) None masked Sharing.Nothing
needs_of_mask (Iota vd vs2 masked) = operands (group Same vd) (mask vs2) None masked Sharing.Nothing
needs_of_mask (Index vd masked) = operands (group Same vd) None None masked Sharing.ByWidth

-- what moves elements: all but the slides down share nothing with their sources
unfoldable pub needs_of_perm : VPerm → Operands
needs_of_perm (SlideUp vd vs2 offset masked) =
    operands (group Same vd) (group Same vs2) None masked Sharing.Nothing
needs_of_perm (SlideDown vd vs2 offset masked) =
    operands (group Same vd) (group Same vs2) None masked Sharing.ByWidth
needs_of_perm (SlideOneUp vd vs2 rs1 masked) =
    operands (group Same vd) (group Same vs2) None masked Sharing.Nothing
needs_of_perm (SlideOneDown vd vs2 rs1 masked) =
    operands (group Same vd) (group Same vs2) None masked Sharing.ByWidth
needs_of_perm (Gather vd vs2 b masked) =
    operands (group Same vd) (group Same vs2) (second b) masked Sharing.Nothing
needs_of_perm (Gather16 vd vs2 vs1 masked) =
    operands (group Same vd) (group Same vs2) (group (Fixed W16) vs1) masked Sharing.Nothing
needs_of_perm (Compress vd vs2 vs1) =
    operands (group Same vd) (group Same vs2) (mask vs1) false Sharing.Nothing

-- a reduction of a group of SEW to one element
unfoldable pub needs_of_reduce : VReduce → Operands
needs_of_reduce (Fold op vd vs2 vs1 masked) =
    operands (single Same vd) (group Same vs2) (single Same vs1) masked Sharing.ByWidth
needs_of_reduce (WidenSum signed vd vs2 vs1 masked) =
    operands (single Double vd) (group Same vs2) (single Double vs1) masked Sharing.ByWidth

unfoldable pub needs_of_move : VMove → Operands
needs_of_move (VMove.ToScalar rd vs2) = operands None (single Same vs2) None false Sharing.ByWidth
needs_of_move (VMove.FromScalar vd rs1) = operands (single Same vd) None None false Sharing.ByWidth
needs_of_move (VMove.Whole count vd vs2) =
    operands (whole count vd) (whole count vs2) None false Sharing.ByWidth

-- a load's values are its destination; a store's stand in vs1
unfoldable pub access_operands : Direction → Option Operand → Option Operand → Bool → Operands
access_operands Direction.Load values vs2 is_masked =
    operands values vs2 None is_masked Sharing.ByWidth
access_operands Direction.Store values vs2 is_masked =
    operands None vs2 values is_masked Sharing.ByWidth

-- the indices of an indexed access stand in vs2, and its data is of SEW
unfoldable pub needs_of_place : Addressing → Direction → ℕ → Operands
needs_of_place (Addressing.Unit width masked) direction values =
    access_operands direction (group (Fixed width) values) None masked
needs_of_place (Addressing.Strided width rs2 masked) direction values =
    access_operands direction (group (Fixed width) values) None masked
needs_of_place (Addressing.Indexed width vs2 ordered masked) direction values =
    access_operands direction (group Same values) (group (Fixed width) vs2) masked
needs_of_place Addressing.Mask direction values = access_operands direction (mask values) None false
needs_of_place (Addressing.Whole width count) direction values =
    access_operands direction (whole count values) None false

unfoldable pub needs_of_access : VMem → Operands
needs_of_access access = needs_of_place access.place access.direction access.values

unfoldable pub needs_of : Insn → Operands
needs_of (Insn.Scalar s) = no_operands
needs_of (Insn.Csr c) = no_operands
needs_of (Insn.VSet v) = no_operands
needs_of (Insn.VArith a) = needs_of_arith a
needs_of (Insn.VMask m) = needs_of_mask m
needs_of (Insn.VPerm p) = needs_of_perm p
needs_of (Insn.VReduce r) = needs_of_reduce r
needs_of (Insn.VMem m) = needs_of_access m
needs_of (Insn.VMove m) = needs_of_move m
