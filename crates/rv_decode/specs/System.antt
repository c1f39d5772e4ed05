-- The rows of opcode 73: ecall, and the six forms on CSRs.
use Rattle.std.specs.Prelude.{ℕ, List, [], ◌∷◌, ◌++◌}
use Rattle.rv_decode.specs.Bits.{bits, rd_of, rs1_of}
use Rattle.rv_decode.specs.Rows.{Field, Row, RowGroup, f3, field, row, group}
use Rattle.rv_decode.specs.Words.{CsrAction, CsrName, CsrSource, Insn, Scalar, Csr, Ecall, Write, Set, Clear, Vxsat, Vxrm, Vcsr, Vl, Vtype}
use Rattle.rv_decode.specs.Words.{Vlenb}

-- the CSR's number
abbrev pub csr : ℕ → Field
csr number = field 20 12 number

abbrev pub csr_form : CsrAction → CsrName → CsrSource → ℕ → Insn
csr_form action name source word =
    Csr (record { action = action; csr = name; source = source; rd = rd_of word })

-- the CSRs that any form may name
abbrev pub writable : CsrAction → (ℕ → CsrSource) → List Row
writable action source =
    row (csr 0x009 ∷ []) (λ word. csr_form action Vxsat (source word) word) ∷
    row (csr 0x00a ∷ []) (λ word. csr_form action Vxrm (source word) word) ∷
    row (csr 0x00f ∷ []) (λ word. csr_form action Vcsr (source word) word) ∷
    []

-- the CSRs that a form may only read: one whose register is x0, or whose immediate is 0
abbrev pub no_source : Field
no_source = field 15 5 0

abbrev pub read_only : CsrAction → (ℕ → CsrSource) → List Row
read_only action source =
    row (csr 0xc20 ∷ no_source ∷ []) (λ word. csr_form action Vl (source word) word) ∷
    row (csr 0xc21 ∷ no_source ∷ []) (λ word. csr_form action Vtype (source word) word) ∷
    row (csr 0xc22 ∷ no_source ∷ []) (λ word. csr_form action Vlenb (source word) word) ∷
    []

abbrev pub by_register : ℕ → CsrSource
by_register word = CsrSource.Register (rs1_of word)

abbrev pub by_immediate : ℕ → CsrSource
by_immediate word = CsrSource.Immediate (bits 15 5 word)

-- csrrw, csrrs, csrrc, csrrwi, csrrsi, csrrci; ecall is one word
unfoldable pub system_groups : List RowGroup
system_groups =
    group (f3 0 ∷ []) (row (field 7 5 0 ∷ field 15 17 0 ∷ []) (λ word. Scalar Ecall) ∷ []) ∷
    group (f3 1 ∷ []) (writable Write by_register) ∷
    group (f3 2 ∷ []) (writable Set by_register ++ read_only Set by_register) ∷
    group (f3 3 ∷ []) (writable Clear by_register ++ read_only Clear by_register) ∷
    group (f3 5 ∷ []) (writable Write by_immediate) ∷
    group (f3 6 ∷ []) (writable Set by_immediate ++ read_only Set by_immediate) ∷
    group (f3 7 ∷ []) (writable Clear by_immediate ++ read_only Clear by_immediate) ∷
    []
