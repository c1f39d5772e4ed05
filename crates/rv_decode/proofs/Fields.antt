-- The fields of a word that is put together from them.
use Rattle.std.proofs.Common.{◌≡◌, ℕ, ◌+◌, ◌*◌, ◌^◌, ◌<◌, arith}
use Rattle.rv_decode.specs.Bits.{bits}
use Rattle.rv_decode.proofs.Places.{bits_of_parts}

pub opcode_of : (high opcode word : ℕ) → opcode < 2 ^ 7 → word ≡ high * 2 ^ 7 + opcode → bits 0 7 word ≡ opcode
opcode_of high opcode word o w = bits_of_parts 0 7 high opcode 0 word (omega arith) o (omega arith)

pub rd_at : (high rd low word : ℕ) → rd < 32 → low < 2 ^ 7 → word ≡ (high * 32 + rd) * 2 ^ 7 + low → bits 7 5 word ≡ rd
rd_at high rd low word r l w = bits_of_parts 7 5 high rd low word (omega arith) r l

pub f3_at : (high f3 low word : ℕ) → f3 < 8 → low < 2 ^ 12 → word ≡ (high * 8 + f3) * 2 ^ 12 + low → bits 12 3 word ≡ f3
f3_at high f3 low word r l w = bits_of_parts 12 3 high f3 low word (omega arith) r l

pub rs1_at : (high rs1 low word : ℕ) → rs1 < 32 → low < 2 ^ 15 → word ≡ (high * 32 + rs1) * 2 ^ 15 + low → bits 15 5 word ≡ rs1
rs1_at high rs1 low word r l w = bits_of_parts 15 5 high rs1 low word (omega arith) r l

pub rs2_at : (high rs2 low word : ℕ) → rs2 < 32 → low < 2 ^ 20 → word ≡ (high * 32 + rs2) * 2 ^ 20 + low → bits 20 5 word ≡ rs2
rs2_at high rs2 low word r l w = bits_of_parts 20 5 high rs2 low word (omega arith) r l

pub f7_at : (high f7 low word : ℕ) → f7 < 128 → low < 2 ^ 25 → word ≡ (high * 128 + f7) * 2 ^ 25 + low → bits 25 7 word ≡ f7
f7_at high f7 low word r l w = bits_of_parts 25 7 high f7 low word (omega arith) r l
