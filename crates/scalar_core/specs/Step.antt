-- One step of the scalar half of a hart, by the instruction at pc: the new hart and
-- memory, or the fault.
use Rattle.std.specs.Prelude.{ℕ, ◌+◌, ◌-◌, ◌%◌, ◌^◌, ◌==◌, Bool, true, false, if◌then◌else◌, ℤ, Option, Some, None, Result, Ok, Err}
use Rattle.std.specs.Int.{w8, w16, cast_signed}
use Rattle.rv_decode.specs.Instructions.{bytes_of_width, width_of_load}
use Rattle.scalar_core.specs.Words.{Insn, ScalarInsn, Condition, LoadKind, Width, Lui, Auipc, Jal, Jalr, Branch, Load, Store}
use Rattle.scalar_core.specs.Words.{Immediate, ShiftImmediate, Register, Fence, Ecall, Fault, JumpMisaligned, LoadFault}
use Rattle.scalar_core.specs.Words.{StoreFault, Memory, load_of, store_of, Vconfig}
use Rattle.scalar_core.specs.Hart.{Hart, advanced, at_pc, exit, next_pc, put, reg_of, with_reg}
use Rattle.scalar_core.specs.Arithmetic.{immediate_result, is_taken, register_result, shift_result, unsigned}
use Rattle.scalar_core.specs.Csr.{csr_step}

-- a number and a sign-extended offset, modulo 2^32: the address of an access, the target of a jump
abbrev pub offset_by : ℕ → ℤ → ℕ
offset_by base offset = (base + unsigned offset) % 2 ^ 32

-- a jump to this target: it faults where the target is not a multiple of four
unfoldable pub jump_to : ℕ → Hart → Result Hart Fault
jump_to target h = if target % 4 == 0 then Ok (at_pc target h) else Err (JumpMisaligned target)

-- a jump that leaves the next word's address in rd
unfoldable pub jump_and_link : ℕ → ℕ → Hart → Result Hart Fault
jump_and_link rd target h = jump_to target (with_reg rd (next_pc h) h)

-- jalr clears bit 0 of its target
abbrev pub without_bit_0 : ℕ → ℕ
without_bit_0 n = n - n % 2

-- jal jumps by an offset from pc
unfoldable pub jal_step : ℕ → ℤ → Hart → Result Hart Fault
jal_step rd offset h = jump_and_link rd (offset_by h.pc offset) h

-- jalr jumps by an offset from rs1
unfoldable pub jalr_step : ℕ → ℕ → ℤ → Hart → Result Hart Fault
jalr_step rd rs1 offset h = jump_and_link rd (without_bit_0 (offset_by (reg_of rs1 h) offset)) h

-- a branch jumps where it is taken
unfoldable pub branch_to : Bool → ℕ → Hart → Result Hart Fault
branch_to true target h = jump_to target h
branch_to false target h = Ok (advanced h)

-- whether it is taken goes by rs1 and rs2, and its target by an offset from pc
unfoldable pub branch_step : Condition → ℕ → ℕ → ℤ → Hart → Result Hart Fault
branch_step condition rs1 rs2 offset h =
    branch_to (is_taken condition (reg_of rs1 h) (reg_of rs2 h)) (offset_by h.pc offset) h

-- the address of a load or store
abbrev pub address_of : ℕ → ℤ → Hart → ℕ
address_of rs1 offset h = offset_by (reg_of rs1 h) offset

-- how many bytes a load reads and a store writes
unfoldable pub size_of_load : LoadKind → ℕ
size_of_load kind = bytes_of_width (width_of_load kind)

unfoldable pub size_of_store : Width → ℕ
size_of_store width = bytes_of_width width

-- lb and lh extend their number by its sign, the others by zeros
unfoldable pub loaded : LoadKind → ℕ → ℕ
loaded LoadKind.Byte n = unsigned (cast_signed w8 (n % 2 ^ 8))
loaded LoadKind.Half n = unsigned (cast_signed w16 (n % 2 ^ 16))
loaded LoadKind.Word n = n
loaded LoadKind.ByteUnsigned n = n
loaded LoadKind.HalfUnsigned n = n

-- what a load does with what memory answers
unfoldable pub load_from : LoadKind → ℕ → ℕ → Hart → Option ℕ → Result Hart Fault
load_from kind rd address h None = Err (LoadFault address)
load_from kind rd address h (Some n) = Ok (advanced (with_reg rd (loaded kind n) h))

unfoldable pub load_step : LoadKind → ℕ → ℕ → ℤ → Hart → Memory → Result Hart Fault
load_step kind rd rs1 offset h m =
    load_from kind rd (address_of rs1 offset h) h
    (load_of (address_of rs1 offset h) (size_of_load kind) m)

-- what a store does with what memory answers
unfoldable pub store_from : ℕ → Hart → Option Memory → Result (Hart × Memory) Fault
store_from address h None = Err (StoreFault address)
store_from address h (Some m) = Ok (advanced h, m)

-- a store writes the low bytes of rs2
unfoldable pub store_step : Width → ℕ → ℕ → ℤ → Hart → Memory → Result (Hart × Memory) Fault
store_step size rs1 rs2 offset h m =
    store_from (address_of rs1 offset h) h
    (store_of (address_of rs1 offset h) (size_of_store size) (reg_of rs2 h) m)

-- beside a memory that doesn't change
unfoldable pub beside : Memory → Result Hart Fault → Result (Hart × Memory) Fault
beside m (Ok h) = Ok (h, m)
beside m (Err fault) = Err fault

-- the instructions of RV32I and M
unfoldable pub rv32im_step : ScalarInsn → Hart → Memory → Result (Hart × Memory) Fault
rv32im_step (Lui rd imm) h m = Ok (put rd imm h, m)
rv32im_step (Auipc rd imm) h m = Ok (put rd ((h.pc + imm) % 2 ^ 32) h, m)
rv32im_step (Jal rd offset) h m = beside m (jal_step rd offset h)
rv32im_step (Jalr rd rs1 offset) h m = beside m (jalr_step rd rs1 offset h)
rv32im_step (Branch condition rs1 rs2 offset) h m =
    beside m (branch_step condition rs1 rs2 offset h)
rv32im_step (Load kind rd rs1 offset) h m = beside m (load_step kind rd rs1 offset h m)
rv32im_step (Store size rs1 rs2 offset) h m = store_step size rs1 rs2 offset h m
rv32im_step (Immediate op rd rs1 imm) h m =
    Ok (put rd (immediate_result op (reg_of rs1 h) imm) h, m)
rv32im_step (ShiftImmediate op rd rs1 amount) h m =
    Ok (put rd (shift_result op (reg_of rs1 h) amount) h, m)
rv32im_step (Register op rd rs1 rs2) h m =
    Ok (put rd (register_result op (reg_of rs1 h) (reg_of rs2 h)) h, m)
rv32im_step Fence h m = Ok (advanced h, m)
rv32im_step Ecall h m = Ok (at_pc exit h, m)

-- the step of an instruction of the classes Scalar and Csr; one of a vector class does nothing here
unfoldable pub scalar_step : ℕ → Insn → Vconfig → Hart → Memory → Result (Hart × Memory) Fault
scalar_step vlenb (Insn.Scalar insn) config h m = rv32im_step insn h m
scalar_step vlenb (Insn.Csr insn) config h m = Ok (csr_step insn vlenb config h, m)
scalar_step vlenb (Insn.VSet insn) config h m = Ok (h, m)
scalar_step vlenb (Insn.VArith insn) config h m = Ok (h, m)
scalar_step vlenb (Insn.VMask insn) config h m = Ok (h, m)
scalar_step vlenb (Insn.VPerm insn) config h m = Ok (h, m)
scalar_step vlenb (Insn.VReduce insn) config h m = Ok (h, m)
scalar_step vlenb (Insn.VMem insn) config h m = Ok (h, m)
scalar_step vlenb (Insn.VMove insn) config h m = Ok (h, m)
