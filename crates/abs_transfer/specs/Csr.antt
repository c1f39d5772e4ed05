-- What an instruction on a CSR makes of what is known.
use Rattle.std.specs.Prelude.{ℕ}
use Rattle.abs_transfer.specs.Words.{CsrInsn}
use Rattle.abs_domain.specs.Numbers.{NumbersView, value_at, with_result}
use Rattle.abs_domain.specs.Effects.{csr_effect}

-- an instruction on a CSR, with vlenb bytes in a vector register: rd gets the CSR's old number
unfoldable pub csr_after : ℕ → CsrInsn → NumbersView → NumbersView
csr_after vlenb insn s = with_result insn.rd (csr_effect insn.csr vlenb (value_at s 32)) s
