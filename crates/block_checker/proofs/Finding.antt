-- The block that is found at an address begins there, and was checked.
use Rattle.std.proofs.Common.{◌≡◌, ℕ, ◌==◌, Bool, true, false, refl, subst, List, [], ◌∷◌, Option, Some, Ok, Err}
use Rattle.std.specs.Prelude.{find, if◌then◌else◌}
use Rattle.elf_image.specs.Image.{ImageView}
use Rattle.cert_note.specs.declared.values.Block.{Block}
use Rattle.cert_note.specs.Certificate.{CertificateView}
use Rattle.block_checker.specs.Passes.{Checked, both, block_at, block_passes, blocks_pass}

pub both_first : (x y : Checked) → both x y ≡ Ok tt → x ≡ Ok tt
both_first (Ok done) y e = refl
both_first (Err error) y e = cc

pub both_second : (x y : Checked) → both x y ≡ Ok tt → y ≡ Ok tt
both_second (Ok done) y e = e
both_second (Err error) y e = cc

begins_there : (address : ℕ) (x b : Block) (rest : Option Block) (t : Bool) → (x.start == address) ≡ t
    → (if t then Some x else rest) ≡ Some b → (rest ≡ Some b → (b.start == address) ≡ true) → (b.start == address) ≡ true
begins_there address x b rest true h e more =
    let same : x ≡ b = cc in
    subst (λ y. (y.start == address) ≡ true) same h
begins_there address x b rest false h e more = more e

find-begins : (address : ℕ) (blocks : List Block) (b : Block)
    → find (λ block. block.start == address) blocks ≡ Some b → (b.start == address) ≡ true
find-begins address [] b e = cc
find-begins address (x ∷ xs) b e = begins_there address x b _ (x.start == address) refl e (find-begins address xs b)

pub block-begins : (address : ℕ) (blocks : List Block) (b : Block) → block_at address blocks ≡ Some b → (b.start == address) ≡ true
unfolding block_at
block-begins address blocks b e = find-begins address blocks b e

passes_there : (image : ImageView) (certificate : CertificateView) (x b : Block) (rest : Option Block) (others : Checked) (t : Bool)
    → (if t then Some x else rest) ≡ Some b → both (block_passes image certificate x) others ≡ Ok tt
    → (rest ≡ Some b → others ≡ Ok tt → block_passes image certificate b ≡ Ok tt) → block_passes image certificate b ≡ Ok tt
passes_there image certificate x b rest others true e passes more =
    let same : x ≡ b = cc in
    subst (λ y. block_passes image certificate y ≡ Ok tt) same (both_first (block_passes image certificate x) others passes)
passes_there image certificate x b rest others false e passes more = more e (both_second (block_passes image certificate x) others passes)

find-passes : (image : ImageView) (certificate : CertificateView) (address : ℕ) (blocks : List Block) (b : Block)
    → find (λ block. block.start == address) blocks ≡ Some b → blocks_pass image certificate blocks ≡ Ok tt
    → block_passes image certificate b ≡ Ok tt
unfolding blocks_pass
find-passes image certificate address [] b e passes = cc
find-passes image certificate address (x ∷ xs) b e passes =
    passes_there image certificate x b _ (blocks_pass image certificate xs) (x.start == address) e passes
    (find-passes image certificate address xs b)

pub block-passes : (image : ImageView) (certificate : CertificateView) (address : ℕ) (b : Block)
    → block_at address certificate.blocks ≡ Some b → blocks_pass image certificate certificate.blocks ≡ Ok tt
    → block_passes image certificate b ≡ Ok tt
unfolding block_at
block-passes image certificate address b e passes = find-passes image certificate address certificate.blocks b e passes
