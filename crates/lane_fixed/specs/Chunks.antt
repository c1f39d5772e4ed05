-- The operations of the chunk calls, as those of `FixedPoint`.
use Rattle.std.specs.Prelude.{ℕ, ◌-◌, ◌^◌, ◌<◌, Bool, Option, Some, None, if◌then◌else◌}
use Rattle.std.specs.Int.{Width}
use mir.Val.{bits}
use Rattle.lane_fixed.specs.FixedPoint.{element, saturates}
use Rattle.lane_fixed.specs.declared.operations.RoundingMode.{RoundingMode}
use Rattle.lane_fixed.specs.declared.operations.RoundingMode.TheVariants.{Down}
use Rattle.rv_decode.specs.declared.instructions.FixedOp.{FixedOp}
use Rattle.rv_decode.specs.declared.instructions.FixedOp.TheVariants as fixed
use Rattle.lane_fixed.specs.declared.operations.Op.{Op}
use Rattle.lane_fixed.specs.declared.operations.Op.TheVariants.{Saddu, Sadd, Ssubu, Ssub, Aaddu, Aadd, Asubu, Asub, Ssrl, Ssra}

abbrev pub operation : Op → FixedOp
operation Saddu = fixed.Saddu
operation Sadd = fixed.Sadd
operation Ssubu = fixed.Ssubu
operation Ssub = fixed.Ssub
operation (Aaddu mode) = fixed.Aaddu
operation (Aadd mode) = fixed.Aadd
operation (Asubu mode) = fixed.Asubu
operation (Asub mode) = fixed.Asub
operation (Ssrl mode) = fixed.Ssrl
operation (Ssra mode) = fixed.Ssra

-- how it rounds; a saturating operation rounds nothing off, so that it is the same in each mode
abbrev pub mode_of : Op → RoundingMode
mode_of Saddu = Down
mode_of Sadd = Down
mode_of Ssubu = Down
mode_of Ssub = Down
mode_of (Aaddu mode) = mode
mode_of (Aadd mode) = mode
mode_of (Asubu mode) = mode
mode_of (Asub mode) = mode
mode_of (Ssrl mode) = mode
mode_of (Ssra mode) = mode

-- the first n lanes are numbers of the width
abbrev pub AllFit : Width → ℕ → (ℕ → ℕ) → Type 0
AllFit w n lane = (i : ℕ) → i < n → lane i < 2 ^ bits w

-- one lane of the results, and of the second chunk: all ones where it saturated
abbrev pub lane_result : Op → Width → ℕ → ℕ → ℕ
lane_result op = element (operation op) (mode_of op)

abbrev pub lane_saturates : Op → Width → ℕ → ℕ → Bool
lane_saturates op = saturates (operation op) (mode_of op)

abbrev pub lane_flag : Op → Width → ℕ → ℕ → ℕ
lane_flag op w a b = if lane_saturates op w a b then 2 ^ bits w - 1 else 0

-- the chunk calls' operation that is the kernels'; vsmul has none
abbrev pub chunk_op : FixedOp → RoundingMode → Option Op
chunk_op fixed.Saddu mode = Some Saddu
chunk_op fixed.Sadd mode = Some Sadd
chunk_op fixed.Ssubu mode = Some Ssubu
chunk_op fixed.Ssub mode = Some Ssub
chunk_op fixed.Aaddu mode = Some (Aaddu mode)
chunk_op fixed.Aadd mode = Some (Aadd mode)
chunk_op fixed.Asubu mode = Some (Asubu mode)
chunk_op fixed.Asub mode = Some (Asub mode)
chunk_op fixed.Smul mode = None
chunk_op fixed.Ssrl mode = Some (Ssrl mode)
chunk_op fixed.Ssra mode = Some (Ssra mode)
