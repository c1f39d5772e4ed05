-- What a scalar instruction makes of what is known, or why it is refused. An access has to lie in
-- one zone, whatever its address may be.
use Rattle.std.specs.Prelude.{ℕ, ◌+◌, ◌%◌, ◌^◌, ℤ, List, Result, Ok, Err}
use Rattle.abs_transfer.specs.Words.{Range, range_of_form, ScalarInsn, Lui, Auipc, Jal, Jalr, Branch, ShiftImmediate, Register, Fence, Ecall, unsigned, size_of_load}
use Rattle.rv_decode.specs.declared.instructions.ScalarInsn.TheVariants.{Load, Store, Immediate}
use Rattle.scalar_core.specs.Step.{size_of_store}
use Rattle.abs_domain.specs.declared.why.Why.{Why}
use Rattle.abs_domain.specs.declared.zones.Zone.{Zone}
use Rattle.abs_domain.specs.Values.{computed_range}
use Rattle.abs_domain.specs.Zones.{load_allowed, store_allowed}
use Rattle.abs_domain.specs.Numbers.{NumbersView, table_of, value_at, with_result}
use Rattle.abs_domain.specs.Effects.{constant_effect, immediate_effect, load_effect, offset_form, offset_range, register_effect, shift_effect}

-- the range of an address: the number of rs1 and a signed offset, which is given by its bits
unfoldable pub address_range : ℕ → ℕ → NumbersView → Range
address_range rs1 n s =
    computed_range (offset_range n (value_at s rs1).range)
    (range_of_form (table_of s) (offset_form (value_at s rs1).form n))

-- what follows where a test allows it
unfoldable pub if_allowed : Result (Unit {0}) Why → NumbersView → Result NumbersView Why
if_allowed (Ok done) s = Ok s
if_allowed (Err why) s = Err why

-- the test of a load or store of size bytes
unfoldable pub load_check : ℕ → ℤ → ℕ → List Zone → NumbersView → Result (Unit {0}) Why
load_check rs1 offset size zones s =
    let r = address_range rs1 (unsigned offset) s in load_allowed r.lo (r.hi + size) zones

unfoldable pub store_check : ℕ → ℤ → ℕ → List Zone → NumbersView → Result (Unit {0}) Why
store_check rs1 offset size zones s =
    let r = address_range rs1 (unsigned offset) s in store_allowed r.lo (r.hi + size) zones

-- an instruction of RV32I or M at pc
unfoldable pub scalar_after : ℕ → ScalarInsn → List Zone → NumbersView → Result NumbersView Why
scalar_after pc (Lui rd imm) zones s = Ok (with_result rd (constant_effect imm) s)
scalar_after pc (Auipc rd imm) zones s =
    Ok (with_result rd (constant_effect ((pc + imm) % 2 ^ 32)) s)
scalar_after pc (Jal rd offset) zones s =
    Ok (with_result rd (constant_effect ((pc + 4) % 2 ^ 32)) s)
scalar_after pc (Jalr rd rs1 offset) zones s =
    Ok (with_result rd (constant_effect ((pc + 4) % 2 ^ 32)) s)
scalar_after pc (Branch condition rs1 rs2 offset) zones s = Ok s
scalar_after pc (Load kind rd rs1 offset) zones s =
    if_allowed (load_check rs1 offset (size_of_load kind) zones s)
    (with_result rd (load_effect kind) s)
scalar_after pc (Store size rs1 rs2 offset) zones s =
    if_allowed (store_check rs1 offset (size_of_store size) zones s) s
scalar_after pc (Immediate op rd rs1 imm) zones s =
    Ok (with_result rd (immediate_effect op (value_at s rs1) (unsigned imm)) s)
scalar_after pc (ShiftImmediate op rd rs1 amount) zones s =
    Ok (with_result rd (shift_effect op (value_at s rs1) amount) s)
scalar_after pc (Register op rd rs1 rs2) zones s =
    Ok (with_result rd (register_effect op (value_at s rs1) (value_at s rs2)) s)
scalar_after pc Fence zones s = Ok s
scalar_after pc Ecall zones s = Ok s
