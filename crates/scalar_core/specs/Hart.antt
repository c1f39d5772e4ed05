-- The scalar half of a hart's state: pc, the 32 integer registers, and the two vector CSRs that
-- scalar instructions reach.
use Rattle.std.specs.Prelude.{ℕ, ◌≡◌, ◌<◌, ◌+◌, ◌%◌, ◌^◌, ◌==◌, if◌then◌else◌, List, length, slice_index, slice_set}
use Rattle.std.proofs.Math.ListN.{replicate}
use Rattle.scalar_core.specs.declared.hart.TheConstants.{EXIT}

-- pc, x0 to x31, the rounding mode and the saturation flag of fixed-point vector instructions
pub record Hart : Type 0 where
  pub pc : ℕ
  pub x : List ℕ
  pub vxrm : ℕ
  pub vxsat : ℕ

-- what holds of every hart: 32 registers of 32 bits, x0 is 0, two bits of vxrm and one of vxsat
pub record IsHart (h : Hart) : Type 0 where
  pub pc_fits : h.pc < 2 ^ 32
  pub registers : length h.x ≡ 32
  pub fit : (k : ℕ) → slice_index h.x k < 2 ^ 32
  pub x0 : slice_index h.x 0 ≡ 0
  pub vxrm_fits : h.vxrm < 4
  pub vxsat_fits : h.vxsat < 2

-- the address that ends a run: it has ended where pc is this
abbrev pub exit : ℕ
exit = EXIT

-- the hart whose registers are all 0, at this pc
abbrev pub new_hart : ℕ → Hart
new_hart pc = record { pc = pc; x = replicate 32 0; vxrm = 0; vxsat = 0 }

-- the number in x[r]
abbrev pub reg_of : ℕ → Hart → ℕ
reg_of r h = slice_index h.x r

-- x[r] becomes v; a write to x0 has no effect
unfoldable pub with_reg : ℕ → ℕ → Hart → Hart
with_reg r v h = if r == 0 then h else record h { x = slice_set h.x r v }

-- the address of the word after this one
abbrev pub next_pc : Hart → ℕ
next_pc h = (h.pc + 4) % 2 ^ 32

-- the hart at this address
abbrev pub at_pc : ℕ → Hart → Hart
at_pc pc h = record h { pc = pc }

-- the hart at the next word
abbrev pub advanced : Hart → Hart
advanced h = at_pc (next_pc h) h

-- an instruction that only puts a number into its register
abbrev pub put : ℕ → ℕ → Hart → Hart
put rd v h = advanced (with_reg rd v h)
