-- The six forms of CSR instructions (Zicsr), over the CSRs of the vector extension.
use Rattle.std.specs.Prelude.{ℕ, ◌+◌, ◌-◌, ◌*◌, ◌/◌, ◌%◌, ◌^◌, ◌==◌, Bool, true, not, if◌then◌else◌, bit_and, bit_or}
use Rattle.scalar_core.specs.Words.{CsrInsn, CsrAction, CsrName, CsrSource, Vxsat, Vxrm, Vcsr, Vl, Vtype, Vlenb, Vconfig}
use Rattle.scalar_core.specs.Hart.{Hart, put, reg_of}

-- what a CSR reads as; vcsr has vxsat at bit 0 and vxrm at bits 2:1
unfoldable pub csr_value : CsrName → ℕ → Vconfig → Hart → ℕ
csr_value Vxsat vlenb config h = h.vxsat
csr_value Vxrm vlenb config h = h.vxrm
csr_value Vcsr vlenb config h = 2 * h.vxrm + h.vxsat
csr_value Vl vlenb config h = config.vl
csr_value Vtype vlenb config h = config.vtype
csr_value Vlenb vlenb config h = vlenb

-- the hart once a number was written to a CSR: bits that the CSR doesn't have are ignored, and vl,
-- vtype and vlenb are read-only
unfoldable pub with_csr : CsrName → ℕ → Hart → Hart
with_csr Vxsat v h = record h { vxsat = v % 2 }
with_csr Vxrm v h = record h { vxrm = v % 4 }
with_csr Vcsr v h = record h { vxrm = v / 2 % 4; vxsat = v % 2 }
with_csr Vl v h = h
with_csr Vtype v h = h
with_csr Vlenb v h = h

-- the operand: the number in rs1, or the immediate
unfoldable pub operand_of : CsrSource → Hart → ℕ
operand_of (CsrSource.Register r) h = reg_of r h
operand_of (CsrSource.Immediate n) h = n

-- rs1 is x0, or the immediate is 0
unfoldable pub is_zero_source : CsrSource → Bool
is_zero_source (CsrSource.Register r) = r == 0
is_zero_source (CsrSource.Immediate n) = n == 0

-- what the instruction makes of the CSR's old number: it is replaced, or the operand's bits are set
-- or cleared in it
unfoldable pub written : CsrAction → ℕ → ℕ → ℕ
written CsrAction.Write old operand = operand
written CsrAction.Set old operand = bit_or old operand
written CsrAction.Clear old operand = bit_and old (2 ^ 32 - 1 - operand)

-- csrrw and csrrwi always write; the other forms do unless rs1 is x0 or the immediate is 0
unfoldable pub does_write : CsrAction → CsrSource → Bool
does_write CsrAction.Write s = true
does_write CsrAction.Set s = not (is_zero_source s)
does_write CsrAction.Clear s = not (is_zero_source s)

-- the CSR's part of the step
unfoldable pub csr_written : CsrInsn → ℕ → Vconfig → Hart → Hart
csr_written insn vlenb config h =
    if does_write insn.action insn.source
    then with_csr insn.csr
    (written insn.action (csr_value insn.csr vlenb config h) (operand_of insn.source h)) h
    else h

-- the whole step: rd gets the CSR's old number
unfoldable pub csr_step : CsrInsn → ℕ → Vconfig → Hart → Hart
csr_step insn vlenb config h =
    put insn.rd (csr_value insn.csr vlenb config h) (csr_written insn vlenb config h)
