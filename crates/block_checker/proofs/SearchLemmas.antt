-- Blocks rise by their starts: a search finds the one that begins at an address.
use Rattle.std.proofs.Common.{◌≡◌, inl, inr, ℕ, zero, suc, ◌<◌, ◌≤◌, ◌==◌, ◌%◌, ◌&&◌, Bool, true, false, ap, ◌∙◌, List, [], ◌∷◌, length, find, Some, None, get_or, arith, refl, sym, subst}
use Rattle.std.specs.Prelude.{IsTrue, nat_lt, nat_le}
use Rattle.std.specs.List.{position_or_len, slice_get}
use Rattle.std.specs.List.Sorted.{IsNonDecreasingBy}
use Rattle.std.proofs.lemmas.Bool.{cases_lt}
use Rattle.std.proofs.lemmas.Bool.Decides.{nat_tests}
use Rattle.std.proofs.lemmas.List.Folds.{find_at}
use Rattle.std.proofs.lemmas.List.Sums.{position_or_len_is}
use Rattle.std.proofs.Math.Nat.{eq-or-lt_of_le}
use Rattle.std.proofs.lemmas.Option.{get_or_from_slice_get, slice_get-get_or, slice_get_past, slice_get_within}
use Rattle.region_mem.specs.declared.parameter.Param.{Param}
use Rattle.cert_note.specs.declared.values.Block.{Block}
use Rattle.cert_note.specs.Certificate.{AllFrom, CertificateView, IsBlock, IsCertificate, after_block}
use Rattle.vreg_groups.specs.declared.vector_length.Vlen.{Vlen}
use Rattle.cert_note.specs.declared.values.Version.{Version}
use Rattle.block_checker.specs.Passes.{block_at}
use Rattle.block_checker.specs.Walking.{IsCountBelow}

pub start_from : (from start : ℕ) (rest : Bool) → IsTrue (nat_le from start && rest) → from ≤ start
start_from from start rest valid = grind (arith, nat_tests, valid)

starts_from : (version : Version) (vlen : Vlen) (params : List Param) (from : ℕ) (blocks : List Block) (j : ℕ) (d : Block)
    → AllFrom (IsBlock version vlen params) after_block from blocks → j < length blocks → from ≤ (get_or blocks j d).start
starts_from version vlen params from [] j d valid below = absurd (omega arith)
starts_from version vlen params from (b ∷ blocks) zero d valid below = start_from from b.start (b.start % 4 == 0) valid.0.start
starts_from version vlen params from (b ∷ blocks) (suc j) d valid below =
    let first = start_from from b.start (b.start % 4 == 0) valid.0.start in
    omega (arith, first, starts_from version vlen params (after_block b) blocks j d valid.1 (omega arith))

starts_rise : (version : Version) (vlen : Vlen) (params : List Param) (from : ℕ) (blocks : List Block) (i j : ℕ) (d : Block)
    → AllFrom (IsBlock version vlen params) after_block from blocks → i < j → j < length blocks → (get_or blocks i d).start < (get_or blocks j d).start
starts_rise version vlen params from [] i j d valid lt below = absurd (omega arith)
starts_rise version vlen params from (b ∷ blocks) i zero d valid lt below = absurd (omega arith)
starts_rise version vlen params from (b ∷ blocks) zero (suc j) d valid lt below =
    omega (arith, starts_from version vlen params (after_block b) blocks j d valid.1 (omega arith))
starts_rise version vlen params from (b ∷ blocks) (suc i) (suc j) d valid lt below =
    starts_rise version vlen params (after_block b) blocks i j d valid.1 (omega arith) (omega arith)

blocks_part : (certificate : CertificateView) (i j : ℕ) (d : Block) → IsCertificate certificate → i < j → j < length certificate.blocks
    → (get_or certificate.blocks i d).start < (get_or certificate.blocks j d).start
blocks_part certificate i j d is = starts_rise certificate.version certificate.vlen certificate.parameters 0 certificate.blocks i j d is.blocks

pub blocks_rise : (certificate : CertificateView) → IsCertificate certificate → IsNonDecreasingBy (λ block. block.start) certificate.blocks
blocks_rise certificate is i j d le below = elim (eq-or-lt_of_le {n = i} {m = j} le) [
  | inl same ↦ (let equal = ap (λ k. (get_or certificate.blocks k d).start) same in omega (arith, equal))
  | inr lt ↦ (let less = blocks_part certificate i j d is lt below in omega (arith, less))
]

begins_below : (address start : ℕ) → nat_lt start address ≡ true → (start == address) ≡ false
begins_below address start h = grind (arith, nat_tests)

begins_above : (address first start : ℕ) → nat_lt first address ≡ false → (first == address) ≡ false → first ≤ start → (start == address) ≡ false
begins_above address first start h other le = grind (arith, nat_tests)

-- The search finds the block,
pub found_there : (address : ℕ) (blocks : List Block) (count : ℕ) (d : Block) → IsCountBelow address blocks count → count < length blocks
    → ((get_or blocks count d).start == address) ≡ true → block_at address blocks ≡ Some (get_or blocks count d)
unfolding block_at
found_there address blocks count d split inside here =
    let at : position_or_len (λ block. block.start == address) blocks ≡ count =
    position_or_len_is (λ block. block.start == address) blocks count d (omega arith)
    (λ k lt. begins_below address (get_or blocks k d).start (split.0 k d (omega arith) lt)) (λ lt. here) in
    find_at (λ block. block.start == address) blocks ∙ (ap (λ k. slice_get blocks k) at ∙ slice_get-get_or blocks count d inside)

nowhere : (address : ℕ) (blocks : List Block) (count : ℕ) (d : Block) → IsNonDecreasingBy (λ block. block.start) blocks
    → IsCountBelow address blocks count → (count < length blocks → ((get_or blocks count d).start == address) ≡ false)
    → find (λ block. block.start == address) blocks ≡ None
nowhere address blocks count d rise split other =
    let past : position_or_len (λ block. block.start == address) blocks ≡ length blocks =
    position_or_len_is (λ block. block.start == address) blocks (length blocks) d (omega arith)
    (λ k lt. elim (cases_lt k count) [
      | inl below ↦ begins_below address (get_or blocks k d).start (split.0 k d (omega arith) below)
      | inr above ↦ begins_above address (get_or blocks count d).start (get_or blocks k d).start
          (split.1 count d (omega arith) (omega arith)) (other (omega arith)) (rise count k d above lt)
    ])
    (λ lt. absurd (omega arith)) in
    find_at (λ block. block.start == address) blocks ∙ (ap (λ k. slice_get blocks k) past ∙ slice_get_past blocks (length blocks) (omega arith))

pub other_start : (start address : ℕ) → (start ≡ address → ⊥) → (start == address) ≡ false
other_start start address other = grind (arith, nat_tests, other)

own_start : (start : ℕ) → (start == start) ≡ true
own_start start = grind (arith, nat_tests)

-- or that there is none: the block at its place begins elsewhere,
pub found_elsewhere : (address : ℕ) (blocks : List Block) (count : ℕ) (d : Block) → IsNonDecreasingBy (λ block. block.start) blocks
    → IsCountBelow address blocks count → ((get_or blocks count d).start ≡ address → ⊥) → None ≡ block_at address blocks
unfolding block_at
found_elsewhere address blocks count d rise split other =
    sym (nowhere address blocks count d rise split (λ below. other_start (get_or blocks count d).start address other))

-- or no block is there.
pub found_past : (address : ℕ) (blocks : List Block) (count : ℕ) → IsNonDecreasingBy (λ block. block.start) blocks
    → IsCountBelow address blocks count → length blocks ≤ count → None ≡ block_at address blocks
unfolding block_at
found_past address [] count rise split past = refl
found_past address (b ∷ blocks) count rise split past = sym (nowhere address (b ∷ blocks) count b rise split (λ below. absurd (omega (arith, past))))

-- A block of a certificate is the one that begins at its start.
pub block_there : (certificate : CertificateView) (n : ℕ) (block : Block) → IsCertificate certificate
    → slice_get certificate.blocks n ≡ Some block → block_at block.start certificate.blocks ≡ Some block
unfolding block_at
block_there certificate n block is there =
    let inside = slice_get_within certificate.blocks n block there in
    let own : get_or certificate.blocks n block ≡ block = get_or_from_slice_get certificate.blocks n block block there in
    let at : position_or_len (λ b. b.start == block.start) certificate.blocks ≡ n =
    position_or_len_is (λ b. b.start == block.start) certificate.blocks n block (omega (arith, inside))
    (λ k lt. (let less = subst (λ (b : Block). (get_or certificate.blocks k block).start < b.start) own (blocks_part certificate k n block is lt inside) in
    other_start _ _ (λ same. absurd (omega (arith, less, same)))))
    (λ lt. subst (λ (b : Block). (b.start == block.start) ≡ true) (sym own) (own_start block.start)) in
    find_at (λ b. b.start == block.start) certificate.blocks ∙ (ap (λ k. slice_get certificate.blocks k) at ∙ there)
