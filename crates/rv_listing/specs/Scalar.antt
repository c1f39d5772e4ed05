-- The scalar instructions as text ("RV32/64G Instruction Set Listings"). A jump or branch shows
-- where it leads to.
use Rattle.std.specs.Prelude.{ℕ, ◌+◌, ◌%◌, ◌^◌, ℤ, List, [], ◌∷◌, codes}
use Rattle.std.specs.Int.{w32, cast_unsigned}
use Rattle.rv_decode.specs.declared.instructions.{CsrAction.CsrAction, CsrInsn.CsrInsn, CsrName.CsrName, CsrSource.CsrSource, ScalarInsn.ScalarInsn}
use Rattle.rv_decode.specs.declared.instructions.ScalarInsn.TheVariants.{Lui, Auipc, Jal, Jalr, Branch, Load, Store, Immediate, ShiftImmediate, Register, Fence, Ecall}
use Rattle.rv_listing.specs.Fields.{line_text}
use Rattle.rv_listing.specs.Names.{branch_name, csr_name, immediate_name, load_name, register_name, shift_name, store_name}
use Rattle.rv_listing.specs.declared.fields.Field.TheVariants.{Rd, Rs1, Rs2, Imm, Upper, Amount, Csr, To}

-- where a jump or branch at an address leads to: its offset is signed, and addresses are modulo
-- 2^32
abbrev pub target : ℕ → ℤ → ℕ
target address offset = (address + cast_unsigned w32 offset) % 2 ^ 32

unfoldable pub scalar_text : ℕ → ScalarInsn → List ℕ
scalar_text address (Lui rd imm) = line_text (codes "lui") [] (Rd rd ∷ Upper imm ∷ [])
scalar_text address (Auipc rd imm) = line_text (codes "auipc") [] (Rd rd ∷ Upper imm ∷ [])
scalar_text address (Jal rd offset) =
    line_text (codes "jal") [] (Rd rd ∷ To (target address offset) ∷ [])
scalar_text address (Jalr rd rs1 offset) =
    line_text (codes "jalr") [] (Rd rd ∷ Rs1 rs1 ∷ Imm offset ∷ [])
scalar_text address (Branch condition rs1 rs2 offset) =
    line_text (branch_name condition) [] (Rs1 rs1 ∷ Rs2 rs2 ∷ To (target address offset) ∷ [])
scalar_text address (Load kind rd rs1 offset) =
    line_text (load_name kind) [] (Rd rd ∷ Rs1 rs1 ∷ Imm offset ∷ [])
scalar_text address (Store size rs1 rs2 offset) =
    line_text (store_name size) [] (Rs1 rs1 ∷ Rs2 rs2 ∷ Imm offset ∷ [])
scalar_text address (Immediate op rd rs1 imm) =
    line_text (immediate_name op) [] (Rd rd ∷ Rs1 rs1 ∷ Imm imm ∷ [])
scalar_text address (ShiftImmediate op rd rs1 amount) =
    line_text (shift_name op) [] (Rd rd ∷ Rs1 rs1 ∷ Amount amount ∷ [])
scalar_text address (Register op rd rs1 rs2) =
    line_text (register_name op) [] (Rd rd ∷ Rs1 rs1 ∷ Rs2 rs2 ∷ [])
scalar_text address Fence = line_text (codes "fence") [] []
scalar_text address Ecall = line_text (codes "ecall") [] []

-- an instruction on a CSR, by its source: csrrw and csrrwi, say ("Zicsr")
abbrev pub csr_text_by : CsrAction → CsrName → ℕ → CsrSource → List ℕ
csr_text_by action csr rd (CsrSource.Register rs1) =
    line_text (csr_name action) [] (Rd rd ∷ Rs1 rs1 ∷ Csr csr ∷ [])
csr_text_by action csr rd (CsrSource.Immediate imm) =
    line_text (csr_name action) (codes "i") (Rd rd ∷ Amount imm ∷ Csr csr ∷ [])

unfoldable pub csr_text : CsrInsn → List ℕ
csr_text i = csr_text_by i.action i.csr i.rd i.source
