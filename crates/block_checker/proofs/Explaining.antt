-- What is known where the check stops.
use Rattle.std.proofs.Common.{◌≡◌, ◌<◌, ◌+◌, ◌-◌, ◌*◌, ◌/◌, ℕ, false, arith, refl, sym, ap, ◌∙◌, subst, List, add-one, Option, Some, Result, Ok, Err, get_or}
use Rattle.std.specs.Prelude.{IfErr}
use Rattle.std.specs.List.{slice_get}
use Rattle.std.proofs.lemmas.Option.{get_or_from_slice_get}
use Rattle.cert_note.specs.declared.values.Block.{Block}
use Rattle.cert_note.specs.Certificate.{CertificateView, IsCertificate}
use Rattle.elf_image.specs.Image.{ImageView}
use Rattle.abs_state.specs.declared.state.TheConstants.{MOST_WORDS}
use Rattle.abs_state.specs.State.{AbstractView}
use Rattle.abs_state.specs.Blocks.{at_block_of, at_entry_of}
use Rattle.block_checker.specs.declared.errors.CheckError.{CheckError}
use Rattle.block_checker.specs.declared.checks.Fault.{Fault}
use Rattle.block_checker.specs.declared.refused.Kept.{Kept}
use Rattle.block_checker.specs.declared.refused.Kept.TheVariants as kept
use Rattle.block_checker.specs.declared.refused.Part.TheVariants as part
use Rattle.block_checker.specs.Refusals.{IsAt, address_of}
use Rattle.block_checker.specs.Passes.{Checked, On, word_passes, walk, block_passes, entry_passes}
use Rattle.block_checker.specs.Explained.{IsEnd, IsReached, IsStop, is_end, known_before}
use Rattle.block_checker.specs.Walking.{IsFault, StopsWalk, fault_answer}
use Rattle.block_checker.proofs.SearchLemmas.{block_there, other_start}

-- ---- what is known

pub known_first : (image : ImageView) (certificate : CertificateView) (start : ℕ) (a : AbstractView)
    → known_before image certificate start a 0 ≡ Some a
unfolding known_before
known_first image certificate start a = refl

-- a word that passes leads to what is known before the next one
pub known_next : (image : ImageView) (certificate : CertificateView) (start n pc : ℕ) (a b c : AbstractView) → pc ≡ start + 4 * n
    → known_before image certificate start a n ≡ Some b → word_passes image certificate pc b ≡ Ok (On c)
    → known_before image certificate start a (n + 1) ≡ Some c
unfolding known_before
known_next image certificate start n pc a b c place known passed =
    let here : word_passes image certificate (start + 4 * n) b ≡ Ok (On c) = subst (λ (p : ℕ). word_passes image certificate p b ≡ Ok (On c)) place passed in
    rw (add-one, known, here) refl

word_number : (start n pc : ℕ) → pc ≡ start + 4 * n → (pc - start) / 4 ≡ n
word_number start n pc place = omega (arith, place)

pub known_here : (image : ImageView) (certificate : CertificateView) (start n pc : ℕ) (a b : AbstractView) → pc ≡ start + 4 * n
    → known_before image certificate start a n ≡ Some b → known_before image certificate start a ((pc - start) / 4) ≡ Some b
known_here image certificate start n pc a b place known =
    let number : (pc - start) / 4 ≡ n = word_number start n pc place in
    rw number known

-- a word that a block may have is not behind its end
at_word : (start n pc : ℕ) (k : Kept) → pc ≡ start + 4 * n → n < MOST_WORDS → is_end k ≡ false → IsEnd start pc k
at_word start n pc k place below is = is ∙ sym (other_start pc (start + 4 * MOST_WORDS) (λ same. absurd (omega (arith, place, below, same))))

-- the walk stops at a word with what is known before it, or behind
pub stops_at : (image : ImageView) (certificate : CertificateView) (start n pc : ℕ) (a b c : AbstractView) (error : CheckError) (k : Kept)
    → pc ≡ start + 4 * n → n < MOST_WORDS → known_before image certificate start a n ≡ Some b → address_of error ≡ Some pc
    → is_end k ≡ false → IsReached image pc k (Some b) c
    → StopsWalk image certificate start a record { error = error; part = part.Block start; pc = pc; kept = k } c
stops_at image certificate start n pc a b c error k place below before address word reached =
    let here = known_here image certificate start n pc a b place before in
    record {
      part = refl;
      address = address;
      at_end = at_word start n pc k place below word;
      known = subst (λ (x : Option AbstractView). IsReached image pc k x c) (sym here) reached;
    }

-- ---- stops

-- what the walk of a block answers, the block does
pub block_answers : (image : ImageView) (certificate : CertificateView) (block : Block) (start : ℕ) (a : AbstractView) (answer : Checked)
    → start ≡ block.start → a ≡ at_block_of image certificate block → answer ≡ walk image certificate MOST_WORDS start a
    → answer ≡ block_passes image certificate block
unfolding block_passes
block_answers image certificate block start a answer same state is =
    is ∙ (ap (λ (n : ℕ). walk image certificate MOST_WORDS n a) same ∙ ap (λ (b : AbstractView). walk image certificate MOST_WORDS block.start b) state)

-- the block that an index finds is the one at the place
pub start_there : (blocks : List Block) (n : ℕ) (found block : Block) → slice_get blocks n ≡ Some block → found ≡ get_or blocks n found
    → found.start ≡ block.start
start_there blocks n found block there is = ap (λ (b : Block). b.start) (is ∙ get_or_from_slice_get blocks n block found there)

-- where the walk of a block of the list stops, the check does
block_stops : (image : ImageView) (certificate : CertificateView) (n : ℕ) (block : Block) (f : Fault) (b : AbstractView)
    → IsCertificate certificate → slice_get certificate.blocks n ≡ Some block → block_passes image certificate block ≡ Err f.error
    → StopsWalk image certificate block.start (at_block_of image certificate block) f b → IsFault image certificate f b
block_stops image certificate n block f b is there refused stops =
    let found = block_there certificate n block is there in
    record {
      refused = rw (stops.part, found) refused;
      address = stops.address;
      known = rw (stops.part, found) (stops.at_end, stops.known);
    }

block_told : (image : ImageView) (certificate : CertificateView) (n : ℕ) (block : Block) (start : ℕ) (a : AbstractView) (f : Fault) (b : AbstractView)
    → IsCertificate certificate → slice_get certificate.blocks n ≡ Some block → start ≡ block.start → a ≡ at_block_of image certificate block
    → Err f.error ≡ walk image certificate MOST_WORDS start a → StopsWalk image certificate start a f b → IsFault image certificate f b
block_told image certificate n block start a f b is there same state refused stops =
    block_stops image certificate n block f b is there (sym (block_answers image certificate block start a (Err f.error) same state refused))
    (subst (λ (m : ℕ). StopsWalk image certificate m (at_block_of image certificate block) f b) same
    (subst (λ (s : AbstractView). StopsWalk image certificate start s f b) state stops))

-- and where it passes there is no stop
pub block_faults : (image : ImageView) (certificate : CertificateView) (n : ℕ) (block : Block) (start : ℕ) (a : AbstractView)
    (answer : Result (Unit {0}) Fault) (b : AbstractView)
    → IsCertificate certificate → slice_get certificate.blocks n ≡ Some block → start ≡ block.start → a ≡ at_block_of image certificate block
    → fault_answer answer ≡ walk image certificate MOST_WORDS start a → IfErr answer (λ f. StopsWalk image certificate start a f b)
    → IfErr answer (λ f. IsFault image certificate f b)
block_faults image certificate n block start a (Ok done) b is there same state refused stops = tt
block_faults image certificate n block start a (Err f) b is there same state refused stops =
    block_told image certificate n block start a f b is there same state refused stops

-- the way into the first block stops at the entry, with what is known where a run begins
pub entry_stops : (image : ImageView) (certificate : CertificateView) (error : CheckError) (pc : ℕ) (a : AbstractView)
    → IsAt pc error → entry_passes image certificate ≡ Err error → a ≡ at_entry_of image certificate
    → IsStop image certificate error part.Entry pc kept.Behind a
entry_stops image certificate error pc a at refused state = record { refused = refused; address = at; known = (refl, state) }
