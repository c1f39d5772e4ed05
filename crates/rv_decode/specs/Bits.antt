-- The fields of a word, and the immediates that they make.
use Rattle.std.specs.Prelude.{ℕ, ◌+◌, ◌*◌, ◌/◌, ◌%◌, ◌^◌, ltb, ℤ, pos, ◌-ℤ◌, if◌then◌else◌}

-- the `width` bits of a word from bit `low` on, as a number
unfoldable pub bits : ℕ → ℕ → ℕ → ℕ
bits low width word = word / 2 ^ low % 2 ^ width

-- the signed number whose two's complement is `n`, where `sign` is the value of its topmost bit
unfoldable pub signed : ℕ → ℕ → ℤ
signed sign n = if ltb n sign then pos n else pos n -ℤ pos (2 * sign)

-- the registers that a word names
abbrev pub rd_of : ℕ → ℕ
rd_of word = bits 7 5 word

abbrev pub rs1_of : ℕ → ℕ
rs1_of word = bits 15 5 word

abbrev pub rs2_of : ℕ → ℕ
rs2_of word = bits 20 5 word

-- the immediates, as the standard's figure "Types of immediate produced by RISC-V
-- instructions" shows them

-- I: imm[11:0] in bits 31:20
unfoldable pub immediate_i : ℕ → ℤ
immediate_i word = signed 2048 (bits 20 12 word)

-- S: imm[11:5] in bits 31:25, imm[4:0] in bits 11:7
unfoldable pub immediate_s : ℕ → ℤ
immediate_s word = signed 2048 (bits 25 7 word * 32 + bits 7 5 word)

-- B: imm[12] in bit 31, imm[11] in bit 7, imm[10:5] in bits 30:25, imm[4:1] in bits 11:8
unfoldable pub immediate_b : ℕ → ℤ
immediate_b word =
    signed 4096
    (bits 31 1 word * 4096 + bits 7 1 word * 2048 + bits 25 6 word * 32 + bits 8 4 word * 2)

-- U: imm[31:12] in bits 31:12, above twelve zeros
unfoldable pub immediate_u : ℕ → ℕ
immediate_u word = bits 12 20 word * 4096

-- J: imm[20] in bit 31, imm[19:12] in bits 19:12, imm[11] in bit 20, imm[10:1] in bits 30:21
unfoldable pub immediate_j : ℕ → ℤ
immediate_j word =
    signed 1048576
    (bits 31 1 word * 1048576 + bits 12 8 word * 4096 + bits 20 1 word * 2048 + bits 21 10 word * 2)
