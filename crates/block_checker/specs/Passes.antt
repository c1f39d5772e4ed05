-- The check of an image against its certificate, in the order in which it looks.
use Rattle.std.specs.Prelude.{ℕ, zero, suc, ◌+◌, ◌==◌, Bool, true, false, ◌||◌, is_some, List, [], ◌∷◌, find, Option, Some, None, Result, Ok, Err, if◌then◌else◌}
use Rattle.block_checker.specs.Words.{ImageView, vlenb_of, Vlen, Block, CertificateView, Why, AbstractView, jumps, CheckError, code_at}
use Rattle.rv_decode.specs.Decode.{meaning_of}
use Rattle.rv_decode.specs.declared.instructions.Insn.{Insn}
use Rattle.rv_decode.specs.declared.instructions.Insn.TheVariants.{Scalar, Csr, VSet, VArith, VMask, VPerm, VReduce, VMem, VMove}
use Rattle.rv_decode.specs.declared.instructions.ScalarInsn.{ScalarInsn}
use Rattle.rv_decode.specs.declared.instructions.ScalarInsn.TheVariants.{Lui, Auipc, Jal, Jalr, Branch, Load, Store, Immediate, ShiftImmediate, Register, Fence, Ecall}
use Rattle.scalar_core.specs.Hart.{exit}
use Rattle.abs_state.specs.declared.state.TheConstants.{MOST_WORDS}
use Rattle.abs_state.specs.After.{after_of}
use Rattle.abs_state.specs.Blocks.{at_block_of, at_entry_of}
use Rattle.abs_state.specs.Branches.{EdgeView, refined}
use Rattle.abs_state.specs.Edges.{implied_by}
use Rattle.block_checker.specs.declared.errors.CheckError.TheVariants.{WrongVlen, NoEntryBlock, NotCode, IllegalWord, BlockTooLong}
use Rattle.block_checker.specs.Refusals.{refusal}

abbrev pub Checked : Type 0
Checked = Result (Unit {0}) CheckError

-- Of two parts the first one's error comes first.
abbrev pub both : Checked → Checked → Checked
both (Ok done) next = next
both (Err error) next = Err error

-- ---- where blocks begin, and which words have two ways out

unfoldable pub block_at : ℕ → List Block → Option Block
block_at address blocks = find (λ block. block.start == address) blocks

unfoldable pub is_branch_insn : ScalarInsn → Bool
is_branch_insn (Branch condition rs1 rs2 offset) = true
is_branch_insn (Lui rd imm) = false
is_branch_insn (Auipc rd imm) = false
is_branch_insn (Jal rd offset) = false
is_branch_insn (Jalr rd rs1 offset) = false
is_branch_insn (Load kind rd rs1 offset) = false
is_branch_insn (Store size rs1 rs2 offset) = false
is_branch_insn (Immediate op rd rs1 imm) = false
is_branch_insn (ShiftImmediate op rd rs1 amount) = false
is_branch_insn (Register op rd rs1 rs2) = false
is_branch_insn Fence = false
is_branch_insn Ecall = false

-- A branch has two ways out.
unfoldable pub is_branch : Insn → Bool
is_branch (Scalar insn) = is_branch_insn insn
is_branch (Csr insn) = false
is_branch (VSet insn) = false
is_branch (VArith insn) = false
is_branch (VMask insn) = false
is_branch (VPerm insn) = false
is_branch (VReduce insn) = false
is_branch (VMem insn) = false
is_branch (VMove insn) = false

-- ---- edges

-- the block to which an edge leads, if its target is known, the run goes on there, and a
-- block begins there
unfoldable pub block_for : Option ℕ → List Block → Option Block
block_for None blocks = None
block_for (Some address) blocks = if address == exit then None else block_at address blocks

-- an edge's answer, told at the word at pc
abbrev pub told_at : ℕ → Result (Unit {0}) Why → Checked
told_at pc (Ok done) = Ok tt
told_at pc (Err why) = Err (refusal why pc)

-- What is known on the edge has to give what the block to which it leads states, or else the
-- end of the run.
unfoldable pub edge_passes : CertificateView → ℕ → EdgeView → Checked
edge_passes certificate pc edge =
    told_at pc (implied_by edge (block_for edge.target certificate.blocks))

-- An edge that can't be taken passes.
unfoldable pub possible_passes : CertificateView → ℕ → Option EdgeView → Checked
possible_passes certificate pc None = Ok tt
possible_passes certificate pc (Some edge) = edge_passes certificate pc edge

-- A branch has two edges, the one where it is taken first; every other word has one.
unfoldable pub edges_pass : CertificateView → ℕ → Insn → AbstractView → Checked
edges_pass certificate pc insn a =
    if is_branch insn
    then both (possible_passes certificate pc (refined true a))
    (possible_passes certificate pc (refined false a))
    else possible_passes certificate pc (refined false a)

-- ---- one word

-- The block ends, or goes on to the next word with what is known there.
pub data Progress : Type 0 where
  Ended : Progress
  On : AbstractView → Progress

abbrev pub ends : Checked → Result Progress CheckError
ends (Ok done) = Ok Ended
ends (Err error) = Err error

-- A block ends with a branch, a jump or ecall, or before the next block.
unfoldable pub followed : CertificateView → ℕ → Insn → Result AbstractView Why
    → Result Progress CheckError
followed certificate pc insn (Err why) = Err (refusal why pc)
followed certificate pc insn (Ok a) =
    if jumps insn || is_some (block_at (pc + 4) certificate.blocks)
    then ends (edges_pass certificate pc insn a)
    else Ok (On a)

unfoldable pub decoded : CertificateView → ℕ → AbstractView → Option Insn
    → Result Progress CheckError
decoded certificate pc a None = Err (IllegalWord pc)
decoded certificate pc a (Some insn) = followed certificate pc insn (after_of pc insn a)

unfoldable pub fetched : CertificateView → ℕ → AbstractView → Option ℕ → Result Progress CheckError
fetched certificate pc a None = Err (NotCode pc)
fetched certificate pc a (Some word) = decoded certificate pc a (meaning_of word)

-- The word at pc, with what is known there, has to be code, to mean an instruction,
-- and to be allowed.
unfoldable pub word_passes : ImageView → CertificateView → ℕ → AbstractView
    → Result Progress CheckError
word_passes image certificate pc a = fetched certificate pc a (code_at pc image)

-- ---- blocks

abbrev pub then_on : Result Progress CheckError → (AbstractView → Checked) → Checked
then_on (Err error) on = Err error
then_on (Ok Ended) on = Ok tt
then_on (Ok (On a)) on = on a

-- The words from pc on until the block ends. The first number is the most that there may be.
unfoldable pub walk : ImageView → CertificateView → ℕ → ℕ → AbstractView → Checked
walk image certificate zero pc a = Err (BlockTooLong pc)
walk image certificate (suc more) pc a =
    then_on (word_passes image certificate pc a)
    (λ next. walk image certificate more (pc + 4) next)

unfoldable pub block_passes : ImageView → CertificateView → Block → Checked
block_passes image certificate block =
    walk image certificate MOST_WORDS block.start (at_block_of image certificate block)

unfoldable pub blocks_pass : ImageView → CertificateView → List Block → Checked
blocks_pass image certificate [] = Ok tt
blocks_pass image certificate (block ∷ blocks) =
    both (block_passes image certificate block) (blocks_pass image certificate blocks)

-- ---- all of it

-- the way into the block at the entry, told at the entry
unfoldable pub entry_passes_to : ImageView → CertificateView → Option Block → Checked
entry_passes_to image certificate None = Err NoEntryBlock
entry_passes_to image certificate (Some block) =
    possible_passes certificate image.entry (refined false (at_entry_of image certificate))

-- A block has to begin at the entry, and what is known at the start of a run has to give
-- what it states.
unfoldable pub entry_passes : ImageView → CertificateView → Checked
entry_passes image certificate =
    entry_passes_to image certificate (block_at image.entry certificate.blocks)

-- The certificate has to be for this vector length; then the entry, then each block,
-- by rising start.
unfoldable pub checked : ImageView → CertificateView → Vlen → Checked
checked image certificate vlen =
    if vlenb_of certificate.vlen == vlenb_of vlen
    then both (entry_passes image certificate)
    (blocks_pass image certificate certificate.blocks)
    else Err WrongVlen
