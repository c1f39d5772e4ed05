-- What each fixed-point operation makes of one element ("Vector Fixed-Point Arithmetic
-- Instructions"): a is the element of vs2, and b that of vs1, the scalar or the immediate. A result
-- is an exact whole number, from which the lowest bits are rounded off, and which is then clipped
-- to the width where the instruction saturates.
use Rattle.std.specs.Prelude.{ℕ, ◌-◌, ◌%◌, Bool, not, ◌&&◌, ℤ, pos, ◌+ℤ◌, ◌-ℤ◌, ◌*ℤ◌, List}
use Rattle.std.specs.Int.{Width, cast_signed, saturate_signed, saturate_unsigned}
use Rattle.std.specs.Ordering.{int_eq}
use Rattle.std.specs.List.{list_any}
use mir.Val.{bits}
use lib.Lanes.{zip2}
use Rattle.lane_fixed.specs.Rounding.{rounded, low_bits}
use Rattle.lane_fixed.specs.declared.operations.RoundingMode.{RoundingMode}
use Rattle.rv_decode.specs.declared.instructions.FixedOp.{FixedOp}
use Rattle.rv_decode.specs.declared.instructions.FixedOp.TheVariants.{Saddu, Sadd, Ssubu, Ssub, Aaddu, Aadd, Asubu, Asub, Smul, Ssrl, Ssra}
use Rattle.rv_decode.specs.declared.instructions.ClipOp.{ClipOp}
use Rattle.rv_decode.specs.declared.instructions.ClipOp.TheVariants.{Clipu, Clip}

-- the exact number
unfoldable pub exact : FixedOp → Width → ℕ → ℕ → ℤ
exact Saddu w a b = pos a +ℤ pos b
exact Sadd w a b = cast_signed w a +ℤ cast_signed w b
exact Ssubu w a b = pos a -ℤ pos b
exact Ssub w a b = cast_signed w a -ℤ cast_signed w b
exact Aaddu w a b = pos a +ℤ pos b
exact Aadd w a b = cast_signed w a +ℤ cast_signed w b
exact Asubu w a b = pos a -ℤ pos b
exact Asub w a b = cast_signed w a -ℤ cast_signed w b
exact Smul w a b = cast_signed w a *ℤ cast_signed w b
exact Ssrl w a b = pos a
exact Ssra w a b = cast_signed w a

-- how many of its lowest bits are rounded off; a shift reads the low log2(SEW) bits of b alone
unfoldable pub dropped : FixedOp → Width → ℕ → ℕ
dropped Saddu w b = 0
dropped Sadd w b = 0
dropped Ssubu w b = 0
dropped Ssub w b = 0
dropped Aaddu w b = 1
dropped Aadd w b = 1
dropped Asubu w b = 1
dropped Asub w b = 1
dropped Smul w b = bits w - 1
dropped Ssrl w b = b % bits w
dropped Ssra w b = b % bits w

-- the number after it was clipped; averages and shifts are not
unfoldable pub clipped : FixedOp → Width → ℤ → ℤ
clipped Saddu w v = pos (saturate_unsigned w v)
clipped Sadd w v = saturate_signed w v
clipped Ssubu w v = pos (saturate_unsigned w v)
clipped Ssub w v = saturate_signed w v
clipped Aaddu w v = v
clipped Aadd w v = v
clipped Asubu w v = v
clipped Asub w v = v
clipped Smul w v = saturate_signed w v
clipped Ssrl w v = v
clipped Ssra w v = v

-- the number before it is clipped
unfoldable pub unclipped : FixedOp → RoundingMode → Width → ℕ → ℕ → ℤ
unclipped op mode w a b = rounded mode (exact op w a b) (dropped op w b)

-- the result, modulo 2^SEW, and whether it was clipped
unfoldable pub element : FixedOp → RoundingMode → Width → ℕ → ℕ → ℕ
element op mode w a b = low_bits (bits w) (clipped op w (unclipped op mode w a b))

unfoldable pub saturates : FixedOp → RoundingMode → Width → ℕ → ℕ → Bool
saturates op mode w a b =
    not (int_eq (clipped op w (unclipped op mode w a b)) (unclipped op mode w a b))

-- vnclipu and vnclip: a has the wide width, the result the narrow one, and the shift reads the low
-- log2 bits of the wide width
unfoldable pub clip_exact : ClipOp → Width → ℕ → ℤ
clip_exact Clipu wide a = pos a
clip_exact Clip wide a = cast_signed wide a

unfoldable pub clip_to : ClipOp → Width → ℤ → ℤ
clip_to Clipu w v = pos (saturate_unsigned w v)
clip_to Clip w v = saturate_signed w v

unfoldable pub clip_unclipped : ClipOp → RoundingMode → Width → ℕ → ℕ → ℤ
clip_unclipped op mode wide a b = rounded mode (clip_exact op wide a) (b % bits wide)

unfoldable pub clip_element : ClipOp → RoundingMode → Width → Width → ℕ → ℕ → ℕ
clip_element op mode wide narrow a b =
    low_bits (bits narrow) (clip_to op narrow (clip_unclipped op mode wide a b))

unfoldable pub clip_saturates : ClipOp → RoundingMode → Width → Width → ℕ → ℕ → Bool
clip_saturates op mode wide narrow a b =
    not (int_eq (clip_to op narrow (clip_unclipped op mode wide a b))
    (clip_unclipped op mode wide a b))

-- whether one of the active elements saturates: vxsat becomes 1 by an active element alone
unfoldable pub any_active : (ℕ → ℕ → Bool) → List ℕ → List ℕ → List Bool → Bool
any_active test xs ys active =
    list_any (λ is_saturated. is_saturated)
    (zip2 (λ is_active saturates. is_active && saturates) active (zip2 test xs ys))
