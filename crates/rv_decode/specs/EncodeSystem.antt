-- The word of an instruction on CSRs, as the chapter "Zicsr" lays it out: csr, rs1 or an immediate,
-- f3, rd, opcode.
use Rattle.std.specs.Prelude.{◌≡◌, ℕ, ◌+◌, ◌*◌, ◌/◌, ◌^◌, ◌<◌, ◌==◌, Bool, true, false, ◌&&◌, not}
use Rattle.rv_decode.specs.Encode.{low_fields, IsRegister}
use Rattle.rv_decode.specs.Words.{CsrAction, CsrInsn, CsrName, CsrSource, Write, Set, Clear, Vxsat, Vxrm, Vcsr, Vl, Vtype, Vlenb}

abbrev pub number_of_csr : CsrName → ℕ
number_of_csr Vxsat = 0x009
number_of_csr Vxrm = 0x00a
number_of_csr Vcsr = 0x00f
number_of_csr Vl = 0xc20
number_of_csr Vtype = 0xc21
number_of_csr Vlenb = 0xc22

-- f3: the action, and 4 more for the forms with an immediate
abbrev pub f3_of_action : CsrAction → ℕ
f3_of_action Write = 1
f3_of_action Set = 2
f3_of_action Clear = 3

abbrev pub f3_of_source : CsrSource → ℕ
f3_of_source (CsrSource.Register rs1) = 0
f3_of_source (CsrSource.Immediate imm) = 4

-- what stands in bits 19:15
abbrev pub number_of_source : CsrSource → ℕ
number_of_source (CsrSource.Register rs1) = rs1
number_of_source (CsrSource.Immediate imm) = imm

unfoldable pub encode_csr : CsrInsn → ℕ
encode_csr insn =
    number_of_csr insn.csr * 2 ^ 20 +
    low_fields 0x73 insn.rd (f3_of_action insn.action + f3_of_source insn.source)
    (number_of_source insn.source)

-- the top two bits of the number of a read-only CSR are 11
abbrev pub is_read_only : CsrName → Bool
is_read_only csr = number_of_csr csr / 2 ^ 10 == 3

-- the forms that set or clear bits don't write where their register is x0, or their immediate 0
abbrev pub writes : CsrAction → ℕ → Bool
writes Write number = true
writes Set number = not (number == 0)
writes Clear number = not (number == 0)

-- fields in range, and no write of a read-only CSR
abbrev pub CsrFits : CsrInsn → Type 0
CsrFits insn =
    IsRegister insn.rd × (number_of_source insn.source < 32) ×
    (is_read_only insn.csr && writes insn.action (number_of_source insn.source) ≡ false)
