-- What an operation of the chunk calls makes of one lane: a is the lane of vs2, b that of vs1, the
-- scalar or the immediate, d the old one of vd.
use Rattle.std.specs.Prelude.{ℕ, ◌+◌, ◌-◌, ◌%◌, ◌^◌, Bool, true, false, if◌then◌else◌}
use Rattle.std.specs.Int.{Width}
use mir.Val.{bits, hbits}
use Rattle.lane_int.specs.Integer.{element, compares, multiply_added}
use Rattle.rv_decode.specs.declared.instructions.IntOp.{IntOp}
use Rattle.rv_decode.specs.declared.instructions.IntOp.TheVariants as int
use Rattle.lane_int.specs.declared.operations.Op.{Op}
use Rattle.lane_int.specs.declared.operations.Op.TheVariants.{Add, Sub, Rsub, Minu, Min, Maxu, Max, And, Or, Xor, Sll, Srl, Sra, Mul, Compare, MultiplyAdd}

-- all ones where a compare holds, else 0
abbrev pub all_ones : Width → Bool → ℕ
all_ones w holds = if holds then 2 ^ bits w - 1 else 0

-- the top bit of a turned over: 2^(SEW-1) more than the signed number that a stands for
abbrev pub turned : Width → ℕ → ℕ
turned w a = (a + 2 ^ hbits w) % 2 ^ bits w

unfoldable pub lane_of : Op → Width → ℕ → ℕ → ℕ → ℕ
lane_of Add w a b d = element int.Add w a b
lane_of Sub w a b d = element int.Sub w a b
lane_of Rsub w a b d = element int.Rsub w a b
lane_of Minu w a b d = element int.Minu w a b
lane_of Min w a b d = element int.Min w a b
lane_of Maxu w a b d = element int.Maxu w a b
lane_of Max w a b d = element int.Max w a b
lane_of And w a b d = element int.And w a b
lane_of Or w a b d = element int.Or w a b
lane_of Xor w a b d = element int.Xor w a b
lane_of Sll w a b d = element int.Sll w a b
lane_of Srl w a b d = element int.Srl w a b
lane_of Sra w a b d = element int.Sra w a b
lane_of Mul w a b d = element int.Mul w a b
lane_of (Compare op) w a b d = all_ones w (compares op w a b)
lane_of (MultiplyAdd op) w a b d = multiply_added op w a b d

-- the operations of the kernels that a chunk call has
abbrev pub has_chunk : IntOp → Bool
has_chunk int.Mulhu = false
has_chunk int.Mulhsu = false
has_chunk int.Mulh = false
has_chunk int.Divu = false
has_chunk int.Div = false
has_chunk int.Remu = false
has_chunk int.Rem = false
has_chunk op = true

-- its name there
abbrev pub chunk_op : IntOp → Op
chunk_op int.Add = Add
chunk_op int.Sub = Sub
chunk_op int.Rsub = Rsub
chunk_op int.Minu = Minu
chunk_op int.Min = Min
chunk_op int.Maxu = Maxu
chunk_op int.Max = Max
chunk_op int.And = And
chunk_op int.Or = Or
chunk_op int.Xor = Xor
chunk_op int.Sll = Sll
chunk_op int.Srl = Srl
chunk_op int.Sra = Sra
chunk_op op = Mul
