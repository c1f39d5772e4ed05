-- How many words a loop has that is read through, and where the branch before it leads.
use Rattle.std.proofs.Common.{◌≡◌, ℕ, ◌+◌, ◌-◌, ◌*◌, ◌/◌, ◌≤◌, refl, subst, arith, Some, List}
use Rattle.std.proofs.lemmas.Int.{ints}
use Rattle.std.specs.Prelude.{ℤ, pos, negsuc, Ok, ◌≤ℤ◌}
use Rattle.std.proofs.lemmas.Bool.{and_parts, eqb-true}
use Rattle.elf_image.specs.Image.{ImageView, IsImage}
use Rattle.rv_decode.specs.Encodings.{FieldsFit, MeaningsFit}
use Rattle.rv_decode.specs.declared.instructions.Condition.TheVariants.{Ne}
use Rattle.rv_decode.specs.declared.instructions.Insn.{Insn}
use Rattle.rv_decode.specs.declared.instructions.Insn.TheVariants.{Scalar}
use Rattle.rv_decode.specs.declared.instructions.ScalarInsn.TheVariants.{Branch}
use Rattle.region_mem.specs.declared.parameter.Param.{Param}
use Rattle.scalar_core.specs.Step.{offset_by}
use Rattle.cert_maker.specs.declared.loops.Loop.{Loop}
use Rattle.cert_maker.specs.declared.loops.Reading.{Reading}
use Rattle.cert_maker.specs.declared.loops.Reading.TheVariants.{Works, Moves, Back, Through}
use Rattle.cert_maker.specs.Loops.{back_by, next_of, loop_from}
use Rattle.cert_maker.proofs.Closing.{moved_through, works_through}
use Rattle.cert_maker.proofs.CodePlaces.{insn_low}
use Rattle.cert_maker.proofs.Going.{test_of}
use Rattle.cert_maker.proofs.LoopWalks.{ends, fits_at}

-- A branch back that leads to the start, which lies at most 4096 bytes before it.
short_by : (start pc : ℕ) (offset : ℤ) → negsuc 4095 ≤ℤ offset → offset ≤ℤ pos 4095 → start ≤ pc → pc + 4 ≤ 3221225472
    → offset_by pc offset ≡ start → (pc - start) / 4 + 1 ≤ 1025
short_by start pc (pos n) least most l low e =
    let h : n ≤ 4095 = omega (arith, ints) in
    omega (arith, h, l, low, e)
short_by start pc (negsuc n) least most l low e =
    let h : n ≤ 4095 = omega (arith, ints) in
    omega (arith, h, l, low, e)

same_loop : (a b : Loop) → Through a ≡ Through b → a ≡ b
same_loop a b e = cc

-- What the last word of a loop says of it.
abbrev IsEnd : ℕ → ℕ → Loop → Type 0
IsEnd start pc loop = ((pc - start) / 4 + 1 ≤ 1025) × (loop.end ≡ pc + 4)

back_end : (of : Loop) (start pc : ℕ) (insn : Insn) (loop : Loop) → FieldsFit insn → start ≤ pc → pc + 4 ≤ 3221225472
    → back_by of start pc insn ≡ Some (Through loop) → IsEnd start pc loop
unfolding back_by
back_end of start pc (Scalar (Branch Ne rs1 rs2 offset)) loop fits l low e =
    let read = test_of _ (Through of) (Through loop) e in
    let first = and_parts _ _ read.0 in
    let second = and_parts _ _ first.0 in
    subst (λ (o : Loop). IsEnd start pc o) (same_loop of loop read.1)
    (short_by start pc offset fits.2.0 fits.2.1 l low (eqb-true _ _ second.1), eqb-true _ _ first.1)
back_end of start pc other loop fits l low e = cc

last_word : (params : List Param) (start pc : ℕ) (r : Reading) (insn : Insn) (loop : Loop) → FieldsFit insn → start ≤ pc → pc + 4 ≤ 3221225472
    → next_of params start pc r insn ≡ Some (Through loop) → IsEnd start pc loop
unfolding next_of
last_word params start pc (Works of) insn loop fits l low e = works_through params of insn loop e
last_word params start pc (Moves of step left) insn loop fits l low e = moved_through of step left insn loop e
last_word params start pc (Back of) insn loop fits l low e = back_end of start pc insn loop fits l low e
last_word params start pc (Through of) insn loop fits l low e = cc

-- words lie four bytes apart
abbrev IsWord : ℕ → ℕ → Type 0
IsWord start pc = (i : ℕ) × (pc ≡ start + 4 * i)

abbrev pub IsWhole : ℕ → Loop → ℕ → Type 0
IsWhole start loop words = (words ≤ 1025) × (loop.end ≡ start + 4 * words)

whole_by : (start pc : ℕ) (loop : Loop) → IsWord start pc → IsEnd start pc loop → IsWhole start loop ((pc - start) / 4 + 1)
whole_by start pc loop at is = (is.0, (let word = at.1 in let end = is.1 in omega (arith, word, end)))

next_word_is : (start pc : ℕ) → IsWord start pc → IsWord start (pc + 4)
next_word_is start pc at = (at.0 + 1, (let word = at.1 in omega (arith, word)))

word_above : (start pc : ℕ) → IsWord start pc → start ≤ pc
word_above start pc at = (let word = at.1 in omega (arith, word))

pub whole_is : MeaningsFit → (image : ImageView) (params : List Param) (start fuel : ℕ) (of : Loop) (through : Loop × ℕ) → IsImage image
    → loop_from image params start fuel (start + 4) (Works of) ≡ Ok through → IsWhole start through.0 through.1
whole_is fit image params start fuel of through is e =
    ends image params start (λ r at. IsWord start at) (λ loop words. IsWhole start loop words)
    (λ at r next insn code read going word. next_word_is start at word)
    (λ at r loop insn code read word. whole_by start at loop word
    (last_word params start at r insn loop (fits_at fit at insn image code) (word_above start at word) (insn_low image at insn is code) read))
    fuel (start + 4) (Works of) through (1, refl) e
