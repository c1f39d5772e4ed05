-- Why an image is refused with its certificate, and the words for it.
use Rattle.std.specs.Prelude.{◌≡◌, ℕ, ◌++◌, List, [], length, codes, Option, Some, None, String, option_map, string_bytes}
use Rattle.std.specs.Fmt.{decimal}
use Rattle.std.specs.Option.{option_and_then}
use Rattle.std.specs.Str.Lossy.{utf8_lossy}
use Rattle.cert_note.specs.Certificate.{CertificateView}
use Rattle.elf_image.specs.Image.{ImageView, code_at}
use Rattle.rv_decode.specs.Decode.{meaning_of}
use Rattle.rv_decode.specs.declared.instructions.Insn.{Insn}
use Rattle.rv_listing.specs.Listing.{listing_text}
use Rattle.vreg_groups.specs.declared.vector_length.Vlen.{Vlen}
use Rattle.vreg_groups.specs.declared.vector_length.Vlen.TheVariants as vlen
use Rattle.linear_facts.specs.declared.ranges.Range.{Range}
use Rattle.abs_domain.specs.Numbers.{value_at}
use Rattle.abs_domain.specs.Zones.{zones_of}
use Rattle.abs_domain.specs.declared.numbers.TheConstants.{VL}
use Rattle.abs_state.specs.State.{AbstractView}
use Rattle.abs_state.specs.declared.state.TheConstants.{MOST_WORDS}
use Rattle.abs_transfer.specs.declared.accesses.Reach.{Reach}
use Rattle.block_checker.specs.Explained.{state_in}
use Rattle.block_checker.specs.declared.errors.CheckError.{CheckError}
use Rattle.block_checker.specs.declared.errors.CheckError.TheVariants as error
use Rattle.block_checker.specs.declared.refused.Explanation.{Explanation}
use Rattle.block_checker.specs.declared.refused.Kept.{Kept}
use Rattle.block_checker.specs.declared.refused.Kept.TheVariants as kept
use Rattle.block_checker.specs.declared.refused.Part.{Part}
use Rattle.block_checker.specs.declared.refused.Part.TheVariants as part
use Rattle.block_checker.specs.declared.refused.Spot.{Spot}
use Rattle.block_checker.specs.declared.refused.Stop.{Stop}
use Rattle.check_reasons.specs.Access.{access_text, buffer_places, elements_in, operand_of, reach_in}
use Rattle.explanations.specs.Address.{address_text}
use Rattle.explanations.specs.Words.{listing_line, word_line}
use Rattle.check_reasons.specs.Edge.{edge_at, edge_text}
use Rattle.check_reasons.specs.Illegal.{illegal_in, illegal_text}
use Rattle.check_reasons.specs.Spans.{vl_line}
use Rattle.check_reasons.specs.Vtypes.{kept_vtype}
use Rattle.check_reasons.specs.declared.access.Elements.{Elements}
use Rattle.check_reasons.specs.declared.access.Operand.{Operand}
use Rattle.check_reasons.specs.declared.check.CheckReason.{CheckReason}
use Rattle.check_reasons.specs.declared.edge.Edge.{Edge}
use Rattle.check_reasons.specs.declared.check.Wanted.{Wanted}
use Rattle.check_reasons.specs.declared.check.Wanted.TheVariants as wanted

-- ---- what a reason holds

-- a stop's place, with the word there
abbrev pub spot_of : {A : Type 0} → ImageView → Stop A → Spot
spot_of image stop = record {
  part = stop.part;
  pc = stop.pc;
  kept = stop.kept;
  word = code_at stop.pc image;
}

-- an error, and the place where the check stopped
abbrev pub explanation_of : {A : Type 0} → ImageView → CheckError → Option (Stop A) → Explanation
explanation_of image e stop = record { error = e; stop = option_map (spot_of image) stop }

-- the word at which a check stopped, and what is kept
abbrev pub word_of : {A : Type 0} → ImageView → Option (Stop A) → Option ℕ
word_of image None = None
word_of image (Some stop) = code_at stop.pc image

abbrev pub state_of : {A : Type 0} → Option (Stop A) → Option AbstractView
state_of None = None
state_of (Some stop) = Some stop.state

-- the word at which a check stopped, as it is listed
abbrev pub IsWordListed : ℕ → Option ℕ → Option (List ℕ) → Type 0
IsWordListed pc None text = text ≡ None
IsWordListed pc (Some word) text = text ≡ Some (utf8_lossy (listing_text pc word))

-- On the way into the first block no word is at fault.
abbrev pub word_in : Part → Option ℕ → Option ℕ
word_in part.Entry word = None
word_in (part.Block start) word = word

abbrev pub IsListed : {A : Type 0} → Option Spot → Option (String A) → Type 0
IsListed None text = text ≡ None
IsListed (Some spot) text =
    IsWordListed spot.pc (word_in spot.part spot.word) (option_map string_bytes text)

-- the load or store that a word is, if it is one
abbrev pub access_operand : Option ℕ → Option Operand
access_operand word = option_and_then operand_of (option_and_then meaning_of word)

-- where its bytes may lie, with what is known before it
abbrev pub access_reach : Option ℕ → Option AbstractView → Option Reach
access_reach word before =
    option_and_then (λ insn. option_and_then (reach_in insn) before)
    (option_and_then meaning_of word)

-- how its elements lie, if it is a vector instruction
abbrev pub access_elements : Option ℕ → Option AbstractView → Option Elements
access_elements word before =
    option_and_then (λ insn. option_and_then (elements_in insn) before)
    (option_and_then meaning_of word)

-- what is known of a register
abbrev pub interval_in : ℕ → Option AbstractView → Option Range
interval_in r before = option_map (λ a. (value_at a.numbers r).range) before

-- What a reason holds of a load or store: what is known of its base register, how the elements of a
-- vector instruction lie, where its bytes may lie, and all zones.
abbrev pub IsAccessOf : ImageView → CertificateView → Option ℕ → Option AbstractView
    → Option Operand → Wanted → Type 0
IsAccessOf image certificate word before None told = told ≡ wanted.Plain
IsAccessOf image certificate word before (Some o) (wanted.Access a) =
    (a.operand ≡ o) × (interval_in o.base before ≡ Some a.interval)
    × (a.elements ≡ access_elements word before)
    × (a.reach ≡ access_reach word before)
    × (a.zones.items ≡ zones_of image certificate.parameters)
    × (a.segments ≡ length image.segments)
    × (a.buffers.items ≡ buffer_places 0 certificate.parameters)
IsAccessOf image certificate word before (Some o) wanted.Plain = ⊥
IsAccessOf image certificate word before (Some o) (wanted.Length stated bits) = ⊥
IsAccessOf image certificate word before (Some o) (wanted.Entry entry) = ⊥
IsAccessOf image certificate word before (Some o) (wanted.Edge edge) = ⊥
IsAccessOf image certificate word before (Some o) (wanted.Illegal vl told) = ⊥

abbrev pub IsAccess : ImageView → CertificateView → Option ℕ → Option AbstractView → Wanted
    → Type 0
IsAccess image certificate word before told =
    IsAccessOf image certificate word before (access_operand word) told

-- what a reason holds of a word that is not legal, if it means an instruction in a known state:
-- what is known of vl, and its operands
abbrev pub illegal_at : Option Insn → Option AbstractView → Wanted
illegal_at (Some insn) (Some a) =
    wanted.Illegal (value_at a.numbers VL).range (illegal_in (kept_vtype a.vtype) insn)
illegal_at (Some insn) None = wanted.Plain
illegal_at None before = wanted.Plain

-- what is wanted where no way out is refused, by the word and what is known before it
abbrev pub IsWantedHere : ImageView → CertificateView → Vlen → CheckError → Option ℕ
    → Option AbstractView → Wanted → Type 0
IsWantedHere image certificate bits error.WrongVlen word before told =
    told ≡ wanted.Length certificate.vlen bits
IsWantedHere image certificate bits error.NoEntryBlock word before told =
    told ≡ wanted.Entry image.entry
IsWantedHere image certificate bits (error.AccessNotProved pc) word before told =
    IsAccess image certificate word before told
IsWantedHere image certificate bits (error.ReadOnly pc) word before told =
    IsAccess image certificate word before told
IsWantedHere image certificate bits (error.NotCode pc) word before told = told ≡ wanted.Plain
IsWantedHere image certificate bits (error.IllegalWord pc) word before told =
    told ≡ illegal_at (option_and_then meaning_of word) before
IsWantedHere image certificate bits (error.VtypeUnknown pc) word before told = told ≡ wanted.Plain
IsWantedHere image certificate bits (error.TargetNotABlock pc) word before told =
    told ≡ wanted.Plain
IsWantedHere image certificate bits (error.IntervalNotProved pc) word before told =
    told ≡ wanted.Plain
IsWantedHere image certificate bits (error.EqualityNotProved pc) word before told =
    told ≡ wanted.Plain
IsWantedHere image certificate bits (error.OrderNotProved pc) word before told =
    told ≡ wanted.Plain
IsWantedHere image certificate bits (error.VectorFactNotProved pc) word before told =
    told ≡ wanted.Plain
IsWantedHere image certificate bits (error.BudgetNotProved pc) word before told =
    told ≡ wanted.Plain
IsWantedHere image certificate bits (error.BlockTooLong pc) word before told = told ≡ wanted.Plain
IsWantedHere image certificate bits error.NoMemory word before told = told ≡ wanted.Plain

abbrev pub if_edge : Option Edge → Wanted
if_edge None = wanted.Plain
if_edge (Some edge) = wanted.Edge edge

-- What is wanted at pc in a part of the check. Behind a word it is exactly the way out that is
-- refused.
abbrev pub IsWantedAt : ImageView → CertificateView → Vlen → CheckError → Part → ℕ → Kept → Wanted
    → Type 0
IsWantedAt image certificate bits e p pc kept.Behind told =
    told ≡ if_edge (edge_at image certificate e p pc)
IsWantedAt image certificate bits e p pc kept.Before told =
    IsWantedHere image certificate bits e (code_at pc image) (state_in image certificate p pc) told
IsWantedAt image certificate bits e p pc kept.End told =
    IsWantedHere image certificate bits e (code_at pc image) (state_in image certificate p pc) told

-- what is wanted where a check stops with an error
abbrev pub IsWantedBy : ImageView → CertificateView → Vlen → CheckError → Option Spot → Wanted
    → Type 0
IsWantedBy image certificate bits e None told =
    IsWantedHere image certificate bits e None None told
IsWantedBy image certificate bits e (Some spot) told =
    IsWantedAt image certificate bits e spot.part spot.pc spot.kept told

abbrev pub IsWanted : ImageView → CertificateView → Vlen → Explanation → Wanted → Type 0
IsWanted image certificate bits e told = IsWantedBy image certificate bits e.error e.stop told

-- ---- the words

-- the part of the check, and the word in a block
abbrev pub part_lines : Part → ℕ → Option ℕ → List ℕ
part_lines part.Entry pc word = codes "  stopped on the way into the first block\n"
part_lines (part.Block start) pc word = codes "  stopped in the block at "
    ++ (address_text start ++ (codes "\n" ++ word_line pc word))

unfoldable pub stop_text : Option Spot → List ℕ
stop_text None = []
stop_text (Some stop) = part_lines stop.part stop.pc stop.word

-- a vector type is wanted by the word, or by the block that a way out enters
abbrev pub vtype_rule : Kept → List ℕ
vtype_rule kept.Behind = codes "  wanted: the vector type of the block entered\n"
vtype_rule kept.Before = codes "  wanted: a vector type that is known there\n"
vtype_rule kept.End = codes "  wanted: a vector type that is known there\n"

abbrev pub kept_of : Option Spot → Kept
kept_of None = kept.Before
kept_of (Some stop) = stop.kept

-- what is wanted by the error, where a stop keeps this
abbrev pub rule : Kept → CheckError → List ℕ
rule at error.WrongVlen = []
rule at error.NoEntryBlock = []
rule at (error.NotCode pc) = codes "  wanted: a word in one segment that can be executed\n"
rule at (error.IllegalWord pc) = codes "  wanted: an instruction that is legal there\n"
rule at (error.VtypeUnknown pc) = vtype_rule at
rule at (error.AccessNotProved pc) = []
rule at (error.ReadOnly pc) = []
rule at (error.TargetNotABlock pc) = codes "  wanted: a block where the word leads, or the exit\n"
rule at (error.IntervalNotProved pc) = codes "  wanted: the intervals of the block entered\n"
rule at (error.EqualityNotProved pc) =
    codes "  wanted: the equalities of the block entered: the sums have to be the same\n"
rule at (error.OrderNotProved pc) = codes "  wanted: the orders of the block entered\n"
rule at (error.VectorFactNotProved pc) = codes "  wanted: the vector facts of the block entered\n"
rule at (error.BudgetNotProved pc) =
    codes "  wanted: a budget for these words and all that may follow\n"
rule at (error.BlockTooLong pc) =
    codes "  wanted: at most " ++ (decimal MOST_WORDS ++ codes " words in a block\n")
rule at error.NoMemory = []

abbrev pub bits_text : Vlen → List ℕ
bits_text vlen.V128 = codes "128"
bits_text vlen.V256 = codes "256"
bits_text vlen.V512 = codes "512"

unfoldable pub wanted_text : Wanted → List ℕ
wanted_text wanted.Plain = []
wanted_text (wanted.Length stated bits) = codes "  stated: VLEN " ++ (bits_text stated
    ++ (codes "\n  wanted: VLEN " ++ (bits_text bits ++ codes "\n")))
wanted_text (wanted.Entry entry) =
    codes "  wanted: a block at the entry, " ++ (address_text entry ++ codes "\n")
wanted_text (wanted.Access access) = access_text access
wanted_text (wanted.Edge edge) = edge_text edge
wanted_text (wanted.Illegal vl told) = vl_line vl ++ illegal_text told

-- the lines of a reason
unfoldable pub check_text : {A : Type 0} → CheckReason A → List ℕ
check_text r = stop_text r.explanation.stop ++ (listing_line r.listing
    ++ (rule (kept_of r.explanation.stop) r.explanation.error ++ wanted_text r.wanted))
