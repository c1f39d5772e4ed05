-- The table of all words, and the meaning of a word.
use Rattle.std.specs.Prelude.{ℕ, ◌==◌, Bool, ◌||◌, Option, List, [], ◌∷◌, if◌then◌else◌}
use Rattle.rv_decode.specs.Bits.{bits}
use Rattle.rv_decode.specs.Rows.{Section, section, opcode, meanings, first}
use Rattle.rv_decode.specs.Scalar.{lui_groups, auipc_groups, jal_groups, jalr_groups, branch_groups, load_groups, store_groups, immediate_groups, register_groups, fence_groups}
use Rattle.rv_decode.specs.System.{system_groups}
use Rattle.rv_decode.specs.Vector.{vector_groups}
use Rattle.rv_decode.specs.Access.{vector_load_groups, vector_store_groups}
use Rattle.rv_decode.specs.Words.{Insn}

unfoldable pub table : List Section
table =
    section (opcode 0x03 ∷ []) load_groups ∷
    section (opcode 0x07 ∷ []) vector_load_groups ∷
    section (opcode 0x0f ∷ []) fence_groups ∷
    section (opcode 0x13 ∷ []) immediate_groups ∷
    section (opcode 0x17 ∷ []) auipc_groups ∷
    section (opcode 0x23 ∷ []) store_groups ∷
    section (opcode 0x27 ∷ []) vector_store_groups ∷
    section (opcode 0x33 ∷ []) register_groups ∷
    section (opcode 0x37 ∷ []) lui_groups ∷
    section (opcode 0x57 ∷ []) vector_groups ∷
    section (opcode 0x63 ∷ []) branch_groups ∷
    section (opcode 0x67 ∷ []) jalr_groups ∷
    section (opcode 0x6f ∷ []) jal_groups ∷
    section (opcode 0x73 ∷ []) system_groups ∷
    []

-- a word means the one row that it matches; a word that matches none means nothing
unfoldable pub meaning_of : ℕ → Option Insn
meaning_of word = first (meanings table word)

-- the opcodes of RV32I and M but those of fence and SYSTEM
unfoldable pub is_scalar_opcode : ℕ → Bool
is_scalar_opcode n =
    n == 0x03 || n == 0x13 || n == 0x17 || n == 0x23 || n == 0x33 || n == 0x37 || n == 0x63
    || n == 0x67 || n == 0x6f

-- the meanings of a word of these opcodes
unfoldable pub scalar_meanings : ℕ → List Insn
scalar_meanings word = if is_scalar_opcode (bits 0 7 word) then meanings table word else []
