-- Vector loads and stores ("Vector Loads and Stores"): the registers or memory are what the load or
-- store leaves.
use Rattle.std.specs.Prelude.{ℕ, List, Result, Ok, Err}
use Rattle.rv_decode.specs.declared.instructions.Addressing.TheVariants.{Unit, Strided, Indexed, Mask}
use Rattle.rv_decode.specs.declared.instructions.Addressing.TheVariants.{Whole}
use Rattle.vector_mem.specs.Transfers.{vector_load, vector_store}
use Rattle.rv_decode.specs.declared.instructions.VMem as mem
use Rattle.vector_core.specs.Words.{Addressing, Direction, Fault, Hart, Load, Memory, Setup, Store}
use Rattle.vector_core.specs.Words.{advanced, reg_of}
use Rattle.vector_core.specs.Vectors.{Stepped, Vectors, with_registers}

-- x[rs2], of a strided access
abbrev pub stride_of : Addressing → Hart → ℕ
stride_of (Strided width rs2 masked) hart = reg_of rs2 hart
stride_of (Unit width masked) hart = 0
stride_of (Indexed width vs2 ordered masked) hart = 0
stride_of Mask hart = 0
stride_of (Whole width count) hart = 0

-- pc moves on, unless there is a fault
abbrev pub loaded_step : Result (List ℕ) Fault → Hart → Vectors → Memory → Stepped
loaded_step (Ok registers) hart v memory = Ok (advanced hart, with_registers registers v, memory)
loaded_step (Err fault) hart v memory = Err fault

abbrev pub stored_step : Result Memory Fault → Hart → Vectors → Stepped
stored_step (Ok memory) hart v = Ok (advanced hart, v, memory)
stored_step (Err fault) hart v = Err fault

unfoldable pub direction_step : Direction → ℕ → Setup → mem.VMem → Hart → Vectors → Memory → Stepped
direction_step Load vlenb s insn hart v memory =
    loaded_step
    (vector_load vlenb s insn (reg_of insn.rs1 hart) (stride_of insn.place hart) v.registers memory)
    hart v memory
direction_step Store vlenb s insn hart v memory =
    stored_step
    (vector_store vlenb s insn (reg_of insn.rs1 hart) (stride_of insn.place hart) v.registers
    memory) hart v

unfoldable pub memory_step : ℕ → Setup → mem.VMem → Hart → Vectors → Memory → Stepped
memory_step vlenb s insn hart v memory = direction_step insn.direction vlenb s insn hart v memory
