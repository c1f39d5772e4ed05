-- What the mask instructions make of lists of bits ("Vector Mask Instructions"): bit i is that of
-- element i of the body.
use Rattle.std.specs.Prelude.{ℕ, ◌%◌, ◌^◌, ◌==◌, nat_lt, nat_le, Bool, true, false, not, ◌&&◌, ◌||◌, List, length, take, map, Option, Some, None}
use Rattle.std.specs.List.{count_by, position, range_with_len}
use Rattle.std.specs.Int.{Width}
use mir.Val.{bits}
use Rattle.rv_decode.specs.declared.instructions.LogicOp.{LogicOp}
use Rattle.rv_decode.specs.declared.instructions.LogicOp.TheVariants.{And, Nand, Andn, Xor, Or, Nor, Orn, Xnor}
use Rattle.rv_decode.specs.declared.instructions.FirstOp.{FirstOp}
use Rattle.rv_decode.specs.declared.instructions.FirstOp.TheVariants.{Before, Including, Only}

abbrev pub differ : Bool → Bool → Bool
differ true b = not b
differ false b = b

-- a is vs2's bit, b vs1's
unfoldable pub logic_of : LogicOp → Bool → Bool → Bool
logic_of And a b = a && b
logic_of Nand a b = not (a && b)
logic_of Andn a b = a && not b
logic_of Xor a b = differ a b
logic_of Or a b = a || b
logic_of Nor a b = not (a || b)
logic_of Orn a b = a || not b
logic_of Xnor a b = not (differ a b)

-- how many bits are set, and the first that is
abbrev pub set_count : List Bool → ℕ
set_count mask = count_by (λ bit. bit) mask

abbrev pub first_set : List Bool → Option ℕ
first_set mask = position (λ bit. bit) mask

-- bit i of a mask that is set before, up to and including, or only at the first set bit; with none,
-- every bit is before it
unfoldable pub set_at : FirstOp → Option ℕ → ℕ → Bool
set_at Before (Some first) i = nat_lt i first
set_at Before None i = true
set_at Including (Some first) i = nat_le i first
set_at Including None i = true
set_at Only (Some first) i = i == first
set_at Only None i = false

unfoldable pub set_first_of : FirstOp → List Bool → List Bool
set_first_of op mask = map (set_at op (first_set mask)) (range_with_len 0 (length mask))

-- viota: the number of set bits below each, modulo 2^SEW; vid: each index
unfoldable pub iota_of : Width → List Bool → List ℕ
iota_of w mask = map (λ i. set_count (take i mask) % 2 ^ bits w) (range_with_len 0 (length mask))

unfoldable pub index_of : Width → ℕ → List ℕ
index_of w count = map (λ i. i % 2 ^ bits w) (range_with_len 0 count)
