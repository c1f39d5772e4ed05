-- How an instruction of another width than its lanes' is one of their operations: which one, and
-- how its sources of SEW are extended where it works at 2*SEW.
use Rattle.std.specs.Prelude.{Bool, true, false}
use Rattle.rv_decode.specs.declared.instructions.CarryOutOp.TheVariants.{Madc, Msbc}
use Rattle.rv_decode.specs.declared.instructions.CarryOp.TheVariants.{Adc, Sbc}
use Rattle.rv_decode.specs.declared.instructions.IntOp.TheVariants.{Add, Sub, Mul, Srl, Sra}
use Rattle.rv_decode.specs.declared.instructions.WidenMultiplyAddOp.TheVariants.{Maccu, Macc}
use Rattle.rv_decode.specs.declared.instructions.WidenMultiplyAddOp.TheVariants.{Maccus, Maccsu}
use Rattle.rv_decode.specs.declared.instructions.WidenOp.TheVariants as widen
use Rattle.rv_decode.specs.declared.instructions.WideOp.TheVariants as wide
use Rattle.rv_decode.specs.declared.instructions.NarrowOp.TheVariants as narrow
use Rattle.vector_core.specs.Words.{CarryOp, CarryOutOp, IntOp, NarrowOp, WideOp}
use Rattle.vector_core.specs.Words.{WidenMultiplyAddOp, WidenOp}
use Rattle.vector_core.specs.declared.operations.Signs.{Signs}

unfoldable pub carry_out_lanes : CarryOutOp → CarryOp
carry_out_lanes Madc = Adc
carry_out_lanes Msbc = Sbc

unfoldable pub widen_lanes : WidenOp → IntOp
widen_lanes widen.Addu = Add
widen_lanes widen.Add = Add
widen_lanes widen.Subu = Sub
widen_lanes widen.Sub = Sub
widen_lanes widen.Mulu = Mul
widen_lanes widen.Mulsu = Mul
widen_lanes widen.Mul = Mul

-- which sources are signed: vs2 first, then b
abbrev pub signs : Bool → Bool → Signs
signs vs2 b = record { vs2 = vs2; b = b }

unfoldable pub widen_signs : WidenOp → Signs
widen_signs widen.Addu = signs false false
widen_signs widen.Add = signs true true
widen_signs widen.Subu = signs false false
widen_signs widen.Sub = signs true true
widen_signs widen.Mulu = signs false false
widen_signs widen.Mulsu = signs true false
widen_signs widen.Mul = signs true true

unfoldable pub wide_lanes : WideOp → IntOp
wide_lanes wide.Addu = Add
wide_lanes wide.Add = Add
wide_lanes wide.Subu = Sub
wide_lanes wide.Sub = Sub

-- whether b is signed
unfoldable pub is_wide_signed : WideOp → Bool
is_wide_signed wide.Addu = false
is_wide_signed wide.Add = true
is_wide_signed wide.Subu = false
is_wide_signed wide.Sub = true

unfoldable pub widen_multiply_add_signs : WidenMultiplyAddOp → Signs
widen_multiply_add_signs Maccu = signs false false
widen_multiply_add_signs Macc = signs true true
widen_multiply_add_signs Maccus = signs true false
widen_multiply_add_signs Maccsu = signs false true

unfoldable pub narrow_lanes : NarrowOp → IntOp
narrow_lanes narrow.Srl = Srl
narrow_lanes narrow.Sra = Sra
