-- Why an image is refused, where the check stops, and what is known there.
use Rattle.std.specs.Prelude.{ℕ, zero, suc, Bool, true, false, ◌≡◌, ◌+◌, ◌-◌, ◌*◌, ◌/◌, ◌==◌, if◌then◌else◌, List, position, Option, Some, None, Result, Ok, Err}
use Rattle.std.specs.Option.{option_and_then, option_map_or, option_or}
use Rattle.std.specs.Result.{is_err}
use Rattle.block_checker.specs.Words.{ImageView, Block, CertificateView, AbstractView, CheckError, code_at}
use Rattle.rv_decode.specs.Decode.{meaning_of}
use Rattle.rv_decode.specs.declared.instructions.Insn.{Insn}
use Rattle.abs_domain.specs.declared.why.Why.{Why}
use Rattle.abs_state.specs.declared.state.TheConstants.{MOST_WORDS}
use Rattle.abs_state.specs.After.{after_of}
use Rattle.abs_state.specs.Blocks.{at_block_of, at_entry_of}
use Rattle.abs_state.specs.Branches.{EdgeView, refined}
use Rattle.block_checker.specs.declared.refused.Kept.{Kept}
use Rattle.block_checker.specs.declared.refused.Kept.TheVariants as kept
use Rattle.block_checker.specs.declared.refused.Part.{Part}
use Rattle.block_checker.specs.declared.refused.Part.TheVariants as part
use Rattle.block_checker.specs.declared.refused.Explanation.{Explanation}
use Rattle.block_checker.specs.declared.refused.Spot.{Spot}
use Rattle.block_checker.specs.declared.refused.Stop.{Stop}
use Rattle.block_checker.specs.Refusals.{address_of}
use Rattle.block_checker.specs.Passes.{Checked, Progress, Ended, On, block_at, edge_passes, word_passes, block_passes, entry_passes}

-- ---- what is known

-- what is known behind a word, where it passes and the block goes on
abbrev pub behind : Result Progress CheckError → Option AbstractView
behind (Ok (On a)) = Some a
behind (Ok Ended) = None
behind (Err error) = None

-- What is known before word n of those from an address on, counted from 0: first a; then what each
-- word makes of it, as long as the words pass and go on.
unfoldable pub known_before : ImageView → CertificateView → ℕ → AbstractView → ℕ
    → Option AbstractView
known_before image certificate start a zero = Some a
known_before image certificate start a (suc n) =
    option_and_then (λ b. behind (word_passes image certificate (start + 4 * n) b))
    (known_before image certificate start a n)

-- The state that the walk from a block's start has reached at pc, if it comes there.
abbrev pub state_at : ImageView → CertificateView → Block → ℕ → Option AbstractView
state_at image certificate block pc =
    known_before image certificate block.start (at_block_of image certificate block)
    ((pc - block.start) / 4)

-- the same of any part of the check: on the way into the first block it is what is known
-- where a run begins
abbrev pub state_in : ImageView → CertificateView → Part → ℕ → Option AbstractView
state_in image certificate part.Entry pc = Some (at_entry_of image certificate)
state_in image certificate (part.Block start) pc =
    option_and_then (λ block. state_at image certificate block pc)
    (block_at start certificate.blocks)

-- ---- the way out that is refused

-- the place in a certificate's list of the block that begins at an address
unfoldable pub place_in : ℕ → List Block → Option ℕ
place_in address blocks = position (λ block. block.start == address) blocks

abbrev pub if_allowed : Result AbstractView Why → Option AbstractView
if_allowed (Ok a) = Some a
if_allowed (Err why) = None

abbrev pub after_insn : ℕ → AbstractView → Option Insn → Option AbstractView
after_insn pc a None = None
after_insn pc a (Some insn) = if_allowed (after_of pc insn a)

-- what is known behind the word at pc, if it is code, means an instruction, and is allowed
unfoldable pub behind_word : ImageView → ℕ → AbstractView → Option AbstractView
behind_word image pc a = after_insn pc a (option_and_then meaning_of (code_at pc image))

-- What is known where the ways out begin. On the way into the first block no word is taken.
unfoldable pub behind_in : ImageView → CertificateView → Part → ℕ → Option AbstractView
behind_in image certificate part.Entry pc = state_in image certificate part.Entry pc
behind_in image certificate (part.Block start) pc =
    option_and_then (behind_word image pc) (state_in image certificate (part.Block start) pc)

-- an edge, if it is refused
unfoldable pub if_refused : CertificateView → ℕ → Option EdgeView → Option EdgeView
if_refused certificate pc None = None
if_refused certificate pc (Some edge) =
    if is_err (edge_passes certificate pc edge) then Some edge else None

-- the way out that is refused, of a branch the one where it is taken first
unfoldable pub refused_edge : CertificateView → ℕ → AbstractView → Option EdgeView
refused_edge certificate pc a =
    option_or (if_refused certificate pc (refined true a))
    (if_refused certificate pc (refined false a))

-- ---- stops

-- what a part of the check answers: the way into the block at the entry, or the walk of the block
-- that begins there
abbrev pub part_passes : ImageView → CertificateView → Part → Checked
part_passes image certificate part.Entry = entry_passes image certificate
part_passes image certificate (part.Block start) =
    option_map_or (block_passes image certificate) (block_at start certificate.blocks) (Ok tt)

-- A block that is too long is stopped at its end, behind as many words as a block may have.
abbrev pub is_end : Kept → Bool
is_end kept.Before = false
is_end kept.Behind = false
is_end kept.End = true

abbrev pub IsEnd : ℕ → ℕ → Kept → Type 0
IsEnd start pc k = is_end k ≡ (pc == start + 4 * MOST_WORDS)

-- What a stop at pc keeps, by what is known before the word there: that, of a word that is refused;
-- what is known behind the word, of one that is allowed; or what is known where the next word of a
-- block that is too long would stand.
abbrev pub IsReached : ImageView → ℕ → Kept → Option AbstractView → AbstractView → Type 0
IsReached image pc kept.Before before a = (before ≡ Some a) × (behind_word image pc a ≡ None)
IsReached image pc kept.Behind before a = option_and_then (behind_word image pc) before ≡ Some a
IsReached image pc kept.End before a = before ≡ Some a

-- The same of any part of the check.
abbrev pub IsKept : ImageView → CertificateView → Part → ℕ → Kept → AbstractView → Type 0
IsKept image certificate part.Entry pc k a =
    (k ≡ kept.Behind) × (a ≡ at_entry_of image certificate)
IsKept image certificate (part.Block start) pc k a =
    IsEnd start pc k × IsReached image pc k (state_in image certificate (part.Block start) pc) a

-- A part of the check stops at pc with this error: it is the part's answer, and carries the
-- address; and this is the state that the definitions know there.
pub record IsStop (image : ImageView) (certificate : CertificateView) (error : CheckError)
    (at : Part) (pc : ℕ) (k : Kept) (a : AbstractView) : Type 0 where
  pub refused : part_passes image certificate at ≡ Err error
  pub address : address_of error ≡ Some pc
  pub known : IsKept image certificate at pc k a

-- Where a check stops; nowhere, where the error carries no address.
abbrev pub IsStopped : {A : Type 0} → ImageView → CertificateView → CheckError → Option (Stop A)
    → Type 0
IsStopped image certificate error None = address_of error ≡ None
IsStopped image certificate error (Some stop) =
    IsStop image certificate error stop.part stop.pc stop.kept stop.state

-- The same of a place, with the word there.
pub record IsSpot (image : ImageView) (certificate : CertificateView) (error : CheckError)
    (spot : Spot) : Type 0 where
  pub word : spot.word ≡ code_at spot.pc image
  pub state : AbstractView
  pub stop : IsStop image certificate error spot.part spot.pc spot.kept state

abbrev pub IsExplained : ImageView → CertificateView → CheckError → Option Spot → Type 0
IsExplained image certificate error None = address_of error ≡ None
IsExplained image certificate error (Some spot) = IsSpot image certificate error spot

-- An explanation tells where its error comes from.
abbrev pub Explains : ImageView → CertificateView → Explanation → Type 0
Explains image certificate e = IsExplained image certificate e.error e.stop

-- what the check answers by an explanation, if there is one
abbrev pub answer_of : Option Explanation → Checked
answer_of None = Ok tt
answer_of (Some e) = Err e.error
