-- Code lies below 0xC000_0000.
use Rattle.std.proofs.Common.{◌≡◌, ℕ, ◌+◌, ◌≤◌, inl, inr, Bool, true, false, refl, arith, Option, Some, None, List, [], ◌∷◌}
use Rattle.std.specs.Prelude.{find, if◌then◌else◌, ◌&&◌, nat_le}
use Rattle.std.specs.List.{AllByRecursion}
use Rattle.std.specs.Option.{option_map}
use Rattle.std.proofs.lemmas.Bool.{leb-true, and_parts}
use Rattle.elf_image.specs.Image.{ImageView, SegmentView, IsImage, IsInPlace, IsSegment, code_at, holds_code, word_in}
use Rattle.rv_decode.specs.declared.instructions.Insn.{Insn}
use Rattle.cert_maker.specs.Loops.{insn_at}
use Rattle.cert_maker.proofs.LoopWalks.{code_of}

segment_low : (s : SegmentView) (pc : ℕ) → IsSegment s → holds_code pc s ≡ true → pc + 4 ≤ 3221225472
segment_low s pc is e = by_place is.in_place
  where
    inside : pc + 4 ≤ s.address + s.memory_size
    inside =
        leb-true (pc + 4) (s.address + s.memory_size)
        (and_parts (s.execute && nat_le s.address pc) (nat_le (pc + 4) (s.address + s.memory_size)) e).1

    by_place : IsInPlace s.address s.memory_size → pc + 4 ≤ 3221225472
    by_place (inl low) = omega (arith, inside, low.1)
    by_place (inr high) = omega (arith, inside, high.1)

found_low : (segments : List SegmentView) (pc : ℕ) (s : SegmentView) → AllByRecursion IsSegment segments → find (holds_code pc) segments ≡ Some s
    → pc + 4 ≤ 3221225472
found_low [] pc s each e = cc
found_low (x ∷ xs) pc s each e = by_test (holds_code pc x) refl e (λ f. found_low xs pc s each.1 f)
  where
    by_test : (t : Bool) → holds_code pc x ≡ t → (if t then Some x else find (holds_code pc) xs) ≡ Some s
        → (find (holds_code pc) xs ≡ Some s → pc + 4 ≤ 3221225472) → pc + 4 ≤ 3221225472
    by_test true holds f more = segment_low x pc each.0 holds
    by_test false holds f more = more f

code_low : (image : ImageView) (pc word : ℕ) → IsImage image → code_at pc image ≡ Some word → pc + 4 ≤ 3221225472
unfolding code_at
code_low image pc word is e = by_segment (find (holds_code pc) image.segments) refl e
  where
    by_segment : (o : Option SegmentView) → find (holds_code pc) image.segments ≡ o → option_map (word_in pc) o ≡ Some word → pc + 4 ≤ 3221225472
    by_segment None f g = cc
    by_segment (Some s) f g = found_low image.segments pc s is.each f

pub insn_low : (image : ImageView) (pc : ℕ) (insn : Insn) → IsImage image → insn_at pc image ≡ Some insn → pc + 4 ≤ 3221225472
insn_low image pc insn is e =
    let code = code_of pc insn image e in
    code_low image pc code.0 is code.1
