-- The way out of a word that the check refused, and the words for it.
use Rattle.std.specs.Prelude.{Bool, true, false, ◌&&◌, ◌==◌, ℕ, ◌++◌, List, [], codes, Option, Some, None, is_some, option_map, if◌then◌else◌}
use Rattle.std.specs.Fmt.{decimal}
use Rattle.std.specs.List.{slice_get}
use Rattle.std.specs.Option.{option_and_then, option_map_or}
use Rattle.cert_note.specs.Certificate.{CertificateView}
use Rattle.cert_note.specs.declared.values.Block.{Block}
use Rattle.cert_note.specs.declared.values.Budget.{Budget}
use Rattle.elf_image.specs.Image.{ImageView, code_at}
use Rattle.rv_decode.specs.Decode.{meaning_of}
use Rattle.rv_decode.specs.declared.instructions.Insn.{Insn}
use Rattle.rv_decode.specs.declared.instructions.Insn.TheVariants as insn
use Rattle.rv_decode.specs.declared.instructions.ScalarInsn.{ScalarInsn}
use Rattle.rv_decode.specs.declared.instructions.ScalarInsn.TheVariants as scalar
use Rattle.scalar_core.specs.Hart.{exit}
use Rattle.abs_state.specs.Branches.{EdgeView, value_on}
use Rattle.abs_state.specs.Edges.{no_budget}
use Rattle.abs_state.specs.State.{AbstractView}
use Rattle.block_checker.specs.declared.errors.CheckError.{CheckError}
use Rattle.block_checker.specs.declared.errors.CheckError.TheVariants as error
use Rattle.block_checker.specs.declared.refused.Part.{Part}
use Rattle.block_checker.specs.declared.refused.Part.TheVariants as part
use Rattle.block_checker.specs.Explained.{behind_in, place_in, refused_edge}
use Rattle.explanations.specs.Address.{address_text}
use Rattle.check_reasons.specs.Gaps.{end_text, gap_of}
use Rattle.check_reasons.specs.Sums.{times_text}
use Rattle.check_reasons.specs.Unshown.{range_line, unshown_of, unshown_text}
use Rattle.check_reasons.specs.declared.edge.Edge.{Edge}
use Rattle.check_reasons.specs.declared.edge.Entered.{Entered}
use Rattle.check_reasons.specs.declared.edge.Left.{Left}
use Rattle.check_reasons.specs.declared.edge.Source.{Source}
use Rattle.check_reasons.specs.declared.gaps.Gap.{Gap}

-- ---- what a reason holds

abbrev pub left_at : ℕ → Option Block → Option Left
left_at place None = None
left_at place (Some block) = Some record { block = place; budget = block.budget }

-- the block of a part of the check; the way into the first block leaves none
unfoldable pub left_of : CertificateView → Part → Option Left
left_of certificate part.Entry = None
left_of certificate (part.Block start) =
    option_and_then (λ place. left_at place (slice_get certificate.blocks place))
    (place_in start certificate.blocks)

abbrev pub entered_at : CheckError → Option Budget → EdgeView → ℕ → Option Block → Option Entered
entered_at error own e place None = None
entered_at error own e place (Some block) = Some record {
  block = place;
  start = block.start;
  budget = block.budget;
  unshown = unshown_of error own e block;
}

-- the block of the certificate that begins at an address
unfoldable pub entered_by : CheckError → Option Budget → EdgeView → List Block → ℕ → Option Entered
entered_by error own e blocks address =
    if address == exit then None
    else option_and_then (λ place. entered_at error own e place (slice_get blocks place))
    (place_in address blocks)

-- the block to which an edge leads, if it leads to one
unfoldable pub entered_of : CertificateView → CheckError → Option Budget → EdgeView → Option Entered
entered_of certificate error own e =
    option_and_then (entered_by error own e certificate.blocks) e.target

abbrev pub budget_of : Option Left → Option Budget
budget_of left = option_map (λ block. block.budget) left

-- a jump by a register that it does not set itself
abbrev pub jump_in : ScalarInsn → Option ℕ
jump_in (scalar.Jalr rd rs1 offset) = if rd == rs1 then None else Some rs1
jump_in (scalar.Jal rd offset) = None
jump_in (scalar.Branch condition rs1 rs2 offset) = None
jump_in (scalar.Load kind rd rs1 offset) = None
jump_in (scalar.Store size rs1 rs2 offset) = None
jump_in (scalar.Lui rd imm) = None
jump_in (scalar.Auipc rd imm) = None
jump_in (scalar.Immediate op rd rs1 imm) = None
jump_in (scalar.ShiftImmediate op rd rs1 amount) = None
jump_in (scalar.Register op rd rs1 rs2) = None
jump_in scalar.Fence = None
jump_in scalar.Ecall = None

abbrev pub jump_of : Insn → Option ℕ
jump_of (insn.Scalar i) = jump_in i
jump_of (insn.VMem i) = None
jump_of (insn.Csr i) = None
jump_of (insn.VSet i) = None
jump_of (insn.VArith i) = None
jump_of (insn.VMask i) = None
jump_of (insn.VPerm i) = None
jump_of (insn.VReduce i) = None
jump_of (insn.VMove i) = None

-- the register by which a word jumps
unfoldable pub jump_register : Option ℕ → Option ℕ
jump_register word = option_and_then jump_of (option_and_then meaning_of word)

abbrev pub source_on : EdgeView → ℕ → Source
source_on e register = record { register = register; range = (value_on e register).range }

-- what is known of the register by which a word leads to an address that is not known
unfoldable pub source_of : Option ℕ → EdgeView → Option Source
source_of word e =
    if is_some e.target then None else option_map (source_on e) (jump_register word)

abbrev pub is_of_budget : CheckError → Bool
is_of_budget (error.BudgetNotProved pc) = true
is_of_budget error.WrongVlen = false
is_of_budget error.NoEntryBlock = false
is_of_budget (error.NotCode pc) = false
is_of_budget (error.IllegalWord pc) = false
is_of_budget (error.VtypeUnknown pc) = false
is_of_budget (error.AccessNotProved pc) = false
is_of_budget (error.ReadOnly pc) = false
is_of_budget (error.TargetNotABlock pc) = false
is_of_budget (error.IntervalNotProved pc) = false
is_of_budget (error.EqualityNotProved pc) = false
is_of_budget (error.OrderNotProved pc) = false
is_of_budget (error.VectorFactNotProved pc) = false
is_of_budget (error.BlockTooLong pc) = false
is_of_budget error.NoMemory = false

abbrev pub is_end : EdgeView → Bool
is_end e = option_map_or (λ target. target == exit) e.target false

-- what a budget lacks on an edge to the end of the run
unfoldable pub end_of : CheckError → Option Budget → EdgeView → Option Gap
end_of error own e =
    if is_of_budget error && is_end e then option_map (λ b. gap_of e b no_budget) own else None

-- what a reason with this error holds of an edge behind a word, out of a part of the check
unfoldable pub edge_told : CertificateView → CheckError → Part → Option ℕ → EdgeView → Edge
edge_told certificate error part word e = record {
  target = e.target;
  words = e.state.words;
  source = source_of word e;
  left = left_of certificate part;
  entered = entered_of certificate error (budget_of (left_of certificate part)) e;
  end = end_of error (budget_of (left_of certificate part)) e;
}

-- the same of the edge that is refused behind the word at pc
unfoldable pub edge_from : CertificateView → CheckError → Part → ℕ → Option ℕ → AbstractView
    → Option Edge
edge_from certificate error part pc word a =
    option_map (edge_told certificate error part word) (refused_edge certificate pc a)

-- the same of the edge that is refused where a part of the check stops at pc with this error
unfoldable pub edge_at : ImageView → CertificateView → CheckError → Part → ℕ → Option Edge
edge_at image certificate error part pc =
    option_and_then (edge_from certificate error part pc (code_at pc image))
    (behind_in image certificate part pc)

-- ---- the words

unfoldable pub words_text : ℕ → List ℕ
words_text words = if words == 1 then codes "1 word" else decimal words ++ codes " words"

-- on the way into the first block no word is taken
abbrev pub after_text : Option Left → ℕ → List ℕ
after_text None words = []
after_text (Some left) words = codes ", after " ++ (words_text words ++ codes " of the block")

-- the end of the run is no address of a block
unfoldable pub target_text : ℕ → List ℕ
target_text target =
    if target == exit then codes "the end of the run" else address_text target

abbrev pub target_line : Option ℕ → Option Left → ℕ → List ℕ
target_line None left words = codes "  leads to an address that is not known, after "
    ++ (words_text words ++ codes "\n")
target_line (Some target) left words =
    codes "  leads to " ++ (target_text target ++ (after_text left words ++ codes "\n"))

abbrev pub source_line : Option Source → List ℕ
source_line None = []
source_line (Some told) = range_line told.register told.range

unfoldable pub product_text : ℕ → ℕ → List ℕ
product_text factor register =
    if factor == 0 then []
    else codes " + " ++ (times_text factor ++ (codes "x" ++ decimal register))

unfoldable pub budget_text : Budget → List ℕ
budget_text b = decimal b.constant
    ++ (product_text b.factor b.register ++ product_text b.second_factor b.second_register)

abbrev pub block_line : ℕ → Budget → List ℕ
block_line block budget = codes "  enters block " ++ (decimal block
    ++ (codes " of the certificate, with a budget of " ++ (budget_text budget ++ codes "\n")))

abbrev pub left_line : Option Left → List ℕ
left_line None = []
left_line (Some told) = codes "  leaves block " ++ (decimal told.block
    ++ (codes " of the certificate, with a budget of " ++ (budget_text told.budget ++ codes "\n")))

unfoldable pub entered_lines : Option Entered → List ℕ
entered_lines None = []
entered_lines (Some told) = block_line told.block told.budget ++ unshown_text told.unshown

abbrev pub end_lines : Option Gap → List ℕ
end_lines None = []
end_lines (Some gap) = end_text gap

-- the lines of an edge
unfoldable pub edge_text : Edge → List ℕ
edge_text e = target_line e.target e.left e.words ++ (source_line e.source
    ++ (left_line e.left ++ (entered_lines e.entered ++ end_lines e.end)))
