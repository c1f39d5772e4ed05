-- The vector half of a hart's state.
use Rattle.std.specs.Prelude.{ℕ, ◌*◌, List, replicate, Result, Ok}
use Rattle.vreg_groups.specs.VectorLength.{no_config, IsConfig, IsVlenb}
use Rattle.vector_core.specs.Words.{Agnostic, Fault, Hart, Memory, Vconfig, advanced, with_reg}

-- the bytes of the 32 registers end to end, vtype and vl, and what becomes of agnostic elements
-- throughout the run
pub record Vectors : Type 0 where
  pub registers : List ℕ
  pub config : Vconfig
  pub agnostic : Agnostic

-- where a run starts: registers of `vlenb` zero bytes, vill set, vl 0
abbrev pub new_vectors : ℕ → Agnostic → Vectors
new_vectors vlenb agnostic =
    record { registers = replicate (32 * vlenb) 0; config = no_config; agnostic = agnostic }

-- the state with these registers
abbrev pub with_registers : List ℕ → Vectors → Vectors
with_registers registers v = record v { registers = registers }

-- what a step of a hart answers
abbrev pub Stepped : Type 0
Stepped = Result (Hart × Vectors × Memory) Fault

-- the state where vector registers were written, and where an x register was
abbrev pub in_registers : List ℕ → Hart → Vectors → Memory → Stepped
in_registers registers hart v memory = Ok (advanced hart, with_registers registers v, memory)

abbrev pub in_scalar : ℕ → ℕ → Hart → Vectors → Memory → Stepped
in_scalar rd value hart v memory = Ok (advanced (with_reg rd value hart), v, memory)

-- what holds of every state: VLEN is 128, 256 or 512, and vl is at most VLMAX, or 0 where vill is
-- set
pub record IsVectors (vlenb : ℕ) (v : Vectors) : Type 0 where
  pub vlenb_is : IsVlenb vlenb
  pub config : IsConfig vlenb v.config
