-- The check of a block and of all blocks, one word and one block at a time.
use Rattle.std.proofs.Common.{◌≡◌, ◌<◌, ◌≤◌, ◌+◌, ◌-◌, ℕ, zero, suc, arith, refl, sym, ap, ◌∙◌, inl, inr, List, [], ◌∷◌, length, drop, drop-cons, add-one, Some, Ok, Err}
use Rattle.std.specs.List.{slice_get}
use Rattle.std.proofs.lemmas.Option.{slice_get_cases}
use Rattle.elf_image.specs.Image.{ImageView}
use Rattle.cert_note.specs.declared.values.Block.{Block}
use Rattle.cert_note.specs.Certificate.{CertificateView}
use Rattle.abs_state.specs.declared.state.TheConstants.{MOST_WORDS}
use Rattle.abs_state.specs.State.{AbstractView}
use Rattle.block_checker.specs.declared.errors.CheckError.{CheckError}
use Rattle.block_checker.specs.declared.errors.CheckError.TheVariants.{BlockTooLong}
use Rattle.block_checker.specs.Passes.{Ended, On, both, word_passes, walk, block_passes, blocks_pass}

-- ---- words

-- a block that goes on has one word less to go
pub walk_more : (image : ImageView) (certificate : CertificateView) (n pc : ℕ) (a b : AbstractView)
    → n < MOST_WORDS → word_passes image certificate pc a ≡ Ok (On b)
    → walk image certificate (MOST_WORDS - n) pc a ≡ walk image certificate (MOST_WORDS - (n + 1)) (pc + 4) b
unfolding walk
walk_more image certificate n pc a b l e =
    let more : MOST_WORDS - n ≡ suc (MOST_WORDS - (n + 1)) = omega (arith, l) in
    rw more (rw e refl)

pub walk_ended : (image : ImageView) (certificate : CertificateView) (n pc : ℕ) (a : AbstractView)
    → n < MOST_WORDS → word_passes image certificate pc a ≡ Ok Ended
    → walk image certificate (MOST_WORDS - n) pc a ≡ Ok tt
unfolding walk
walk_ended image certificate n pc a l e =
    let more : MOST_WORDS - n ≡ suc (MOST_WORDS - (n + 1)) = omega (arith, l) in
    rw more (rw e refl)

pub walk_refused : (image : ImageView) (certificate : CertificateView) (n pc : ℕ) (a : AbstractView) (error : CheckError)
    → n < MOST_WORDS → word_passes image certificate pc a ≡ Err error
    → walk image certificate (MOST_WORDS - n) pc a ≡ Err error
unfolding walk
walk_refused image certificate n pc a error l e =
    let more : MOST_WORDS - n ≡ suc (MOST_WORDS - (n + 1)) = omega (arith, l) in
    rw more (rw e refl)

pub walk_none : (image : ImageView) (certificate : CertificateView) (n pc : ℕ) (a : AbstractView)
    → MOST_WORDS ≤ n → walk image certificate (MOST_WORDS - n) pc a ≡ Err (BlockTooLong pc)
unfolding walk
walk_none image certificate n pc a l =
    let none : MOST_WORDS - n ≡ zero = omega (arith, l) in
    rw none refl

-- ---- blocks

pub at_place : (blocks : List Block) (n : ℕ) → n < length blocks
    → (b : Block) × (slice_get blocks n ≡ Some b) × (drop n blocks ≡ b ∷ drop (n + 1) blocks)
at_place blocks n l =
    elim ((slice_get_cases blocks n).1) as (λ h. (b : Block) × (slice_get blocks n ≡ Some b) × (drop n blocks ≡ b ∷ drop (n + 1) blocks)) [
      | inl h ↦ (h.0, h.2, rw (add-one, drop-cons blocks n h.0 l) (ap (λ x. x ∷ drop (suc n) blocks) h.3))
      | inr h ↦ absurd (omega (arith, l, h.0))
    ]

-- a block that passes leaves those behind it
pub blocks_next : (image : ImageView) (certificate : CertificateView) (blocks : List Block) (n : ℕ) → n < length blocks
    → ((b : Block) → slice_get blocks n ≡ Some b → Ok tt ≡ block_passes image certificate b)
    → blocks_pass image certificate (drop n blocks) ≡ blocks_pass image certificate (drop (n + 1) blocks)
unfolding blocks_pass
blocks_next image certificate blocks n l given =
    let place = at_place blocks n l in
    ap (blocks_pass image certificate) place.2 ∙ ap (λ x. both x (blocks_pass image certificate (drop (n + 1) blocks))) (sym (given place.0 place.1))

-- a block that is refused stops the check
pub blocks_stop : (image : ImageView) (certificate : CertificateView) (blocks : List Block) (n : ℕ) (error : CheckError) → n < length blocks
    → ((b : Block) → slice_get blocks n ≡ Some b → Err error ≡ block_passes image certificate b)
    → blocks_pass image certificate (drop n blocks) ≡ Err error
unfolding blocks_pass
blocks_stop image certificate blocks n error l given =
    let place = at_place blocks n l in
    ap (blocks_pass image certificate) place.2
    ∙ ap (λ x. both x (blocks_pass image certificate (drop (n + 1) blocks))) (sym (given place.0 place.1))

pub blocks_none : (image : ImageView) (certificate : CertificateView) (blocks : List Block) (n : ℕ) → length blocks ≤ n
    → blocks_pass image certificate (drop n blocks) ≡ Ok tt
unfolding blocks_pass
blocks_none image certificate [] zero l = refl
blocks_none image certificate [] (suc n) l = refl
blocks_none image certificate (b ∷ blocks) zero l = absurd (omega (arith, l))
blocks_none image certificate (b ∷ blocks) (suc n) l = blocks_none image certificate blocks n (omega (arith, l))
