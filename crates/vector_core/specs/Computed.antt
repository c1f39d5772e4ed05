-- What an instruction that computes answers.
use Rattle.std.specs.Prelude.{ℕ, Bool, false, List}

-- the registers, and whether an active element saturated
pub record Computed : Type 0 where
  pub registers : List ℕ
  pub saturated : Bool

-- no element saturates
abbrev pub exact : List ℕ → Computed
exact registers = record { registers = registers; saturated = false }
