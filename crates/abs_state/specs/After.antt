-- What an instruction makes of what is known, and where it leads.
use Rattle.std.specs.Prelude.{ℕ, ◌+◌, ◌%◌, ◌^◌, if◌then◌else◌, Option, Some, None, Result, Ok, Err}
use Rattle.abs_state.specs.Words.{Insn, Csr, VPerm, VReduce, VMove, Logic, Count, First, SetFirst, Iota, Index, ScalarInsn, Lui, Auipc, Jal, Jalr, Branch, ShiftImmediate, Register, Fence, Ecall, unsigned, exit, type_in}
use Rattle.rv_decode.specs.declared.instructions.Insn.TheVariants.{Scalar, VSet, VArith, VMask, VMem}
use Rattle.rv_decode.specs.declared.instructions.VMask as mask
use Rattle.rv_decode.specs.declared.instructions.VMove.TheVariants.{ToScalar, FromScalar, Whole}
use Rattle.rv_decode.specs.declared.instructions.VMem.{VMem as VectorAccess}
use Rattle.rv_decode.specs.declared.instructions.VMove as move
use Rattle.rv_decode.specs.declared.instructions.VSet as vset
use Rattle.rv_decode.specs.declared.instructions.ScalarInsn.TheVariants.{Load, Store, Immediate}
use Rattle.scalar_core.specs.Step.{offset_by, without_bit_0}
use Rattle.abs_domain.specs.declared.why.Why.{Why}
use Rattle.abs_domain.specs.declared.values.Effect.TheVariants.{Fresh}
use Rattle.abs_state.specs.declared.state.Way.{Way}
use Rattle.abs_state.specs.declared.state.Way.TheVariants.{To, Unknown, Fork}
use Rattle.abs_domain.specs.Values.{full_range, known_of, up_to}
use Rattle.abs_domain.specs.Numbers.{NumbersView, value_at, with_result}
use Rattle.abs_transfer.specs.Scalar.{address_range, scalar_after}
use Rattle.abs_transfer.specs.Csr.{csr_after}
use Rattle.abs_state.specs.State.{AbstractView}
use Rattle.abs_transfer.specs.Legal.{legal_check}
use Rattle.abs_transfer.specs.Vset.{configured, wanted_of, with_length_in}
use Rattle.abs_transfer.specs.Accesses.{reach_at, transfer_check}
use Rattle.abs_transfer.specs.declared.accesses.Reach.{Reach}
use Rattle.abs_transfer.specs.Facts.{cut_groups, groups_after, known_type}

-- the word after the one at pc
abbrev pub next_word : ℕ → ℕ
next_word pc = (pc + 4) % 2 ^ 32

-- a jump to an address, if it is known, with its bit 0 cleared
unfoldable pub jump_way : Option ℕ → Way
jump_way None = Unknown
jump_way (Some address) = To (without_bit_0 address)

-- where an instruction of RV32I or M at pc leads, with what is known before it
unfoldable pub way_of : ℕ → ScalarInsn → NumbersView → Way
way_of pc (Lui rd imm) s = To (next_word pc)
way_of pc (Auipc rd imm) s = To (next_word pc)
way_of pc (Jal rd offset) s = To (offset_by pc offset)
way_of pc (Jalr rd rs1 offset) s = jump_way (known_of (address_range rs1 (unsigned offset) s))
way_of pc (Branch condition rs1 rs2 offset) s =
    Fork condition rs1 rs2 (offset_by pc offset) (next_word pc)
way_of pc (Load kind rd rs1 offset) s = To (next_word pc)
way_of pc (Store size rs1 rs2 offset) s = To (next_word pc)
way_of pc (Immediate op rd rs1 imm) s = To (next_word pc)
way_of pc (ShiftImmediate op rd rs1 amount) s = To (next_word pc)
way_of pc (Register op rd rs1 rs2) s = To (next_word pc)
way_of pc Fence s = To (next_word pc)
way_of pc Ecall s = To exit

-- one instruction more was taken, which leads this way
unfoldable pub taken : Way → AbstractView → Result NumbersView Why → Result AbstractView Why
taken way a (Ok numbers) = Ok record a { numbers = numbers; words = a.words + 1; way = way }
taken way a (Err why) = Err why

-- ---- vector instructions

-- an instruction that sets vtype and vl; where vl may change, so may what is known of
-- elements below it
unfoldable pub vset_after : ℕ → vset.VSet → AbstractView → AbstractView
vset_after pc insn a =
    let wanted = wanted_of insn a.numbers in
    let next = configured a.vlenb a.vtype wanted.length wanted.vtype a.numbers in
    record a {
      numbers = with_length_in wanted.rd next.numbers;
      vtype = next.vtype;
      groups = if next.is_kept then a.groups
          else cut_groups a.vlenb (value_at a.numbers 32).range.lo a.groups;
      words = a.words + 1;
      way = To (next_word pc);
    }

-- a count of bits is at most vl
unfoldable pub mask_numbers : mask.VMask → NumbersView → NumbersView
mask_numbers (Logic op vd vs2 vs1) s = s
mask_numbers (Count rd vs2 masked) s = with_result rd (Fresh (up_to (value_at s 32).range.hi)) s
mask_numbers (First rd vs2 masked) s = with_result rd (Fresh full_range) s
mask_numbers (SetFirst op vd vs2 masked) s = s
mask_numbers (Iota vd vs2 masked) s = s
mask_numbers (Index vd masked) s = s

unfoldable pub move_numbers : move.VMove → NumbersView → NumbersView
move_numbers (ToScalar rd vs2) s = with_result rd (Fresh full_range) s
move_numbers (FromScalar vd rs1) s = s
move_numbers (Whole count vd vs2) s = s

-- what a vector instruction makes of the registers' numbers
unfoldable pub vector_numbers : Insn → NumbersView → NumbersView
vector_numbers (Scalar insn) s = s
vector_numbers (Csr insn) s = s
vector_numbers (VSet insn) s = s
vector_numbers (VArith insn) s = s
vector_numbers (VMask insn) s = mask_numbers insn s
vector_numbers (VPerm insn) s = s
vector_numbers (VReduce insn) s = s
vector_numbers (VMem insn) s = s
vector_numbers (VMove insn) s = move_numbers insn s

-- where the bytes of a vector load or store may lie, if that is known
unfoldable pub reach_of : AbstractView → VectorAccess → Option Reach
reach_of a insn =
    reach_at a.vlenb (type_in (known_type a.vtype)) a.numbers a.groups insn.place
    (value_at a.numbers insn.rs1)

-- the test of what an instruction accesses
unfoldable pub access_check : AbstractView → Insn → Result (Unit {0}) Why
access_check a (Scalar insn) = Ok tt
access_check a (Csr insn) = Ok tt
access_check a (VSet insn) = Ok tt
access_check a (VArith insn) = Ok tt
access_check a (VMask insn) = Ok tt
access_check a (VPerm insn) = Ok tt
access_check a (VReduce insn) = Ok tt
access_check a (VMem insn) =
    transfer_check a.vlenb (type_in (known_type a.vtype)) a.numbers a.groups a.zones insn
access_check a (VMove insn) = Ok tt

-- what is known where two tests are passed
unfoldable pub passed : Result (Unit {0}) Why → Result (Unit {0}) Why → AbstractView
    → Result AbstractView Why
passed (Ok first) (Ok second) b = Ok b
passed (Ok first) (Err why) b = Err why
passed (Err why) second b = Err why

-- a vector instruction of any other class: it is legal, and what it accesses is allowed
unfoldable pub vector_after : ℕ → Insn → AbstractView → Result AbstractView Why
vector_after pc insn a =
    passed (legal_check a.vtype insn) (access_check a insn) record a {
      numbers = vector_numbers insn a.numbers;
      groups = groups_after a.vlenb a.vtype a.numbers insn a.groups;
      words = a.words + 1;
      way = To (next_word pc);
    }

-- the instruction at pc, by its class
unfoldable pub after_of : ℕ → Insn → AbstractView → Result AbstractView Why
after_of pc (Scalar insn) a =
    taken (way_of pc insn a.numbers) a (scalar_after pc insn a.zones a.numbers)
after_of pc (Csr insn) a = taken (To (next_word pc)) a (Ok (csr_after a.vlenb insn a.numbers))
after_of pc (VSet insn) a = Ok (vset_after pc insn a)
after_of pc (VArith insn) a = vector_after pc (VArith insn) a
after_of pc (VMask insn) a = vector_after pc (VMask insn) a
after_of pc (VPerm insn) a = vector_after pc (VPerm insn) a
after_of pc (VReduce insn) a = vector_after pc (VReduce insn) a
after_of pc (VMem insn) a = vector_after pc (VMem insn) a
after_of pc (VMove insn) a = vector_after pc (VMove insn) a
