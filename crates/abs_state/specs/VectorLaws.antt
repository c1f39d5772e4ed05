-- Laws of one vector instruction: what is known after it is true of the machine that it leads to.
use Rattle.std.specs.Prelude.{ℕ, ◌≡◌, ◌≤◌, ◌%◌, true, List, Option, None, Ok, IfSome}
use Rattle.abs_state.specs.Words.{Operand, Insn, FieldsFit, Memory, Vconfig, Vtype, type_in, vtype_of, is_legal, Hart, reg_of, Machine, carry_out, Vectors, VectorFact}
use Rattle.rv_decode.specs.declared.instructions.Insn.TheVariants as class
use Rattle.rv_decode.specs.declared.instructions.VSet as vset
use Rattle.rv_decode.specs.declared.instructions.VMem as mem
use Rattle.vector_mem.specs.Accesses.{first_refused, stored}
use Rattle.vector_mem.specs.Transfers.{accesses_of}
use Rattle.vector_mem.specs.declared.plan.Access.{Access}
use Rattle.vector_core.specs.KeepLaws.{IsOutside}
use Rattle.vector_core.specs.LoadsStores.{stride_of}
use Rattle.vector_core.specs.Setup.{setup_of}
use Rattle.vector_core.specs.Step.{vector_step}
use Rattle.std.specs.Prelude.{get_or}
use Rattle.abs_state.specs.State.{AbstractView}
use Rattle.abs_transfer.specs.Legal.{legal_check}
use Rattle.abs_transfer.specs.Accesses.{transfer_check}
use Rattle.abs_transfer.specs.Facts.{cut_groups, known_type, stated_by, untouched}
use Rattle.abs_state.specs.After.{vset_after}
use Rattle.abs_state.specs.Held.{Setting, Held, AreTrueOf, vlenb_in}
use Rattle.abs_domain.specs.Memories.{KeepsMemory}
use Rattle.abs_state.specs.StepLaws.{MachineIsHeld}

-- ---- vtype and vl

-- What is known after an instruction that sets vtype and vl is true of the machine
-- that it leads to.
abbrev pub VsetsAreHeld : Type 0
VsetsAreHeld =
    (e : Setting) (n : ℕ) (a : AbstractView) (s : Machine) (word : ℕ) (insn : vset.VSet)
    → Held e n a s → s.hart.pc % 4 ≡ 0 → FieldsFit (class.VSet insn)
    → MachineIsHeld e n (vset_after s.hart.pc insn a)
    (carry_out (vlenb_in e) word s (class.VSet insn))

-- ---- legality

-- An instruction that passes is legal under the vtype that there is.
abbrev pub ChecksAreLegal : Type 0
ChecksAreLegal =
    (vtype : Option ℕ) (insn : Insn) (config : Vconfig) → IfSome vtype (λ t. config.vtype ≡ t)
    → legal_check vtype insn ≡ Ok tt → is_legal config insn ≡ true

-- ---- memory

-- The accesses of a load or store that passes are permitted.
abbrev pub TransfersArePermitted : Type 0
TransfersArePermitted =
    (e : Setting) (n : ℕ) (a : AbstractView) (s : Machine) (insn : mem.VMem) → Held e n a s
    → FieldsFit (class.VMem insn) → legal_check a.vtype (class.VMem insn) ≡ Ok tt
    → transfer_check a.vlenb (type_in (known_type a.vtype)) a.numbers a.groups a.zones insn ≡ Ok tt
    → first_refused
    (accesses_of (vlenb_in e) (setup_of (type_in (vtype_of s.vectors.config.vtype)) s.vectors) insn
    (reg_of insn.rs1 s.hart) (stride_of insn.place s.hart) s.vectors.registers) s.memory ≡ None

-- Stores keep of memory what a step has to keep.
abbrev pub TransfersKeepMemory : Type 0
TransfersKeepMemory =
    (list : List Access) (values : List ℕ) (m : Memory) → KeepsMemory m (stored list values m)

-- ---- facts on vector registers

-- What a legal instruction states of its destination is true of the registers that it leaves.
abbrev pub StatedAreTrue : Type 0
StatedAreTrue =
    (e : Setting) (n : ℕ) (a : AbstractView) (s : Machine) (word : ℕ) (insn : Insn) (h : Hart)
    (v : Vectors) (m : Memory) → Held e n a s → FieldsFit insn
    → is_legal s.vectors.config insn ≡ true
    → vector_step (vlenb_in e) insn word s.hart s.vectors s.memory ≡ Ok (h, v, m)
    → AreTrueOf (vlenb_in e) v (stated_by (vlenb_in e) (known_type a.vtype) a.numbers a.groups insn)

-- Facts on groups that share no register with a destination stay true where only that is written.
abbrev pub UntouchedAreTrue : Type 0
UntouchedAreTrue =
    (vlenb : ℕ) (t : Option Vtype) (destination : Option Operand) (v next : Vectors)
    (facts : List VectorFact) → next.config.vl ≡ v.config.vl
    → ((i : ℕ) → IsOutside vlenb t destination i
    → get_or next.registers i 0 ≡ get_or v.registers i 0)
    → AreTrueOf vlenb v facts → AreTrueOf vlenb next (untouched t destination facts)

-- Facts that are cut stay true where vl changes.
abbrev pub CutAreTrue : Type 0
CutAreTrue =
    (vlenb least : ℕ) (v next : Vectors) (facts : List VectorFact) → next.registers ≡ v.registers
    → least ≤ v.config.vl → AreTrueOf vlenb v facts
    → AreTrueOf vlenb next (cut_groups vlenb least facts)
