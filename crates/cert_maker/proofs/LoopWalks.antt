-- The walk of a checker through a loop goes with the reading of it.
use Rattle.std.proofs.Common.{◌≡◌, ℕ, ◌+◌, ◌-◌, ◌*◌, ◌/◌, ◌<◌, ◌≤◌, zero, suc, true, false, refl, sym, ap, ◌∙◌, subst, arith, Option, Some, None, List}
use Rattle.std.specs.Prelude.{Result, Ok}
use Rattle.std.specs.Option.{option_and_then}
use Rattle.elf_image.specs.Image.{ImageView, code_at}
use Rattle.rv_decode.specs.Decode.{meaning_of}
use Rattle.rv_decode.specs.Encodings.{FieldsFit, MeaningsFit}
use Rattle.rv_decode.specs.declared.instructions.Insn.{Insn}
use Rattle.region_mem.specs.declared.parameter.Param.{Param}
use Rattle.cert_note.specs.Certificate.{CertificateView}
use Rattle.abs_state.specs.State.{AbstractView}
use Rattle.abs_state.specs.StepLaws.{jumps}
use Rattle.abs_state.specs.After.{after_of}
use Rattle.block_checker.specs.Passes.{Ended, On, block_at, edges_pass, followed, decoded, fetched, then_on, word_passes, walk}
use Rattle.cert_maker.specs.Loops.{insn_at, is_through, next_of, then_read, loop_from, with_pointer}
use Rattle.cert_maker.specs.declared.loops.Loop.{Loop}
use Rattle.cert_maker.specs.declared.loops.Reading.{Reading}
use Rattle.cert_maker.specs.declared.loops.Reading.TheVariants.{Works, Moves, Back, Through}
use Rattle.cert_maker.specs.Known.{AreAlike, IsPartOf, LeadsTo}
use Rattle.cert_maker.specs.Laws.{WordsGoOn, WordsEnd}

-- ---- a word

pub code_of : (pc : ℕ) (insn : Insn) (image : ImageView) → insn_at pc image ≡ Some insn
    → (word : ℕ) × (code_at pc image ≡ Some word) × (meaning_of word ≡ Some insn)
unfolding insn_at
code_of pc insn image e = by_code (code_at pc image) refl e
  where
    by_code : (o : Option ℕ) → code_at pc image ≡ o → option_and_then meaning_of o ≡ Some insn
        → (word : ℕ) × (code_at pc image ≡ Some word) × (meaning_of word ≡ Some insn)
    by_code None f g = cc
    by_code (Some word) f g = (word, f, g)

-- the fields of an instruction of code fit
pub fits_at : MeaningsFit → (pc : ℕ) (insn : Insn) (image : ImageView) → insn_at pc image ≡ Some insn → FieldsFit insn
fits_at fit pc insn image e =
    let is = code_of pc insn image e in
    fit is.0 insn is.2

pub word_is : (image : ImageView) (certificate : CertificateView) (pc : ℕ) (insn : Insn) (a b : AbstractView) → insn_at pc image ≡ Some insn
    → after_of pc insn a ≡ Ok b → word_passes image certificate pc a ≡ followed certificate pc insn (Ok b)
unfolding word_passes fetched decoded
word_is image certificate pc insn a b e after =
    let is = code_of pc insn image e in
    rw (is.1, is.2, after) refl

pub goes_on : (certificate : CertificateView) (pc : ℕ) (insn : Insn) (b : AbstractView) → jumps insn ≡ false → block_at (pc + 4) certificate.blocks ≡ None
    → followed certificate pc insn (Ok b) ≡ Ok (On b)
unfolding followed
goes_on certificate pc insn b j none = rw (j, none) refl

pub stops : (certificate : CertificateView) (pc : ℕ) (insn : Insn) (b : AbstractView) → jumps insn ≡ true → edges_pass certificate pc insn b ≡ Ok tt
    → followed certificate pc insn (Ok b) ≡ Ok Ended
unfolding followed
stops certificate pc insn b j e = rw (j, e) refl

-- ---- the loop

-- what comes behind a word that is read
module _ (start pc : ℕ) (P : Result (Loop × ℕ) ℕ → Type 0) (more : Reading → Result (Loop × ℕ) ℕ)
    (through : (loop : Loop) → P (Ok (loop, (pc - start) / 4 + 1))) (on : (next : Reading) → is_through next ≡ false → P (more next)) where
  by_next : (next : Reading) → P (then_read start pc (Some next) more)
  by_next (Works loop) = on (Works loop) refl
  by_next (Moves loop step left) = on (Moves loop step left) refl
  by_next (Back loop) = on (Back loop) refl
  by_next (Through loop) = through loop

-- a loop that is read through ends behind each of its words
pub inside : (image : ImageView) (params : List Param) (start more pc : ℕ) (r : Reading) (through : Loop × ℕ) → start ≤ pc
    → loop_from image params start more pc r ≡ Ok through → pc < start + 4 * through.1
unfolding loop_from
inside image params start zero pc r through l e = cc
inside image params start (suc more) pc r through l e =
    by_option (option_and_then (next_of params start pc r) (insn_at pc image)) e (λ next f. inside image params start more (pc + 4) next through (omega (arith, l)) f)
  where
    Rest : Type 0
    Rest = (next : Reading) → loop_from image params start more (pc + 4) next ≡ Ok through → pc + 4 < start + 4 * through.1

    answered : Loop × ℕ → Result (Loop × ℕ) ℕ
    answered x = Ok x

    same : (x y : Loop × ℕ) → answered x ≡ answered y → x ≡ y
    same x y f = cc

    by_option : (o : Option Reading) → then_read start pc o (λ next. loop_from image params start more (pc + 4) next) ≡ Ok through → Rest
        → pc < start + 4 * through.1
    by_option None f rest = cc
    by_option (Some next) f rest =
        by_next start pc (λ x. x ≡ Ok through → pc < start + 4 * through.1) (λ n. loop_from image params start more (pc + 4) n)
        (λ loop g. (let is : (pc - start) / 4 + 1 ≡ through.1 = ap (λ (x : Loop × ℕ). x.1) (same _ _ g) in omega (arith, is, l)))
        (λ n h g. (let far = rest n g in omega (arith, far))) next f

-- ---- the readings on the way to a loop

pub same_alike : (loop : Loop) → AreAlike loop loop
same_alike loop = record { count = refl; most = refl; length = refl; vtype = refl; sew = refl; end = refl }

-- a loop with a pointer more, and without it
pub alike_with_pointer : (of loop : Loop) (pointer : ℕ) → AreAlike of loop → AreAlike (with_pointer pointer of) loop
unfolding with_pointer
alike_with_pointer of loop pointer is =
    record { count = is.count; most = is.most; length = is.length; vtype = is.vtype; sew = is.sew; end = is.end }

pub alike_without : (of loop : Loop) (pointer : ℕ) → AreAlike (with_pointer pointer of) loop → AreAlike of loop
unfolding with_pointer
alike_without of loop pointer is =
    record { count = is.count; most = is.most; length = is.length; vtype = is.vtype; sew = is.sew; end = is.end }

pub part_same : (loop : Loop) → IsPartOf loop loop
part_same loop = record { flags = refl; alike = same_alike loop; pointers = λ place l e. e }

module _ (image : ImageView) (params : List Param) (start : ℕ) where
  -- what holds before each word, and what holds of the loop then
  pub ends : (P : Reading → ℕ → Type 0) (Q : Loop → ℕ → Type 0)
      → ((pc : ℕ) (r next : Reading) (insn : Insn) → insn_at pc image ≡ Some insn → next_of params start pc r insn ≡ Some next → is_through next ≡ false → P r pc → P next (pc + 4))
      → ((pc : ℕ) (r : Reading) (loop : Loop) (insn : Insn) → insn_at pc image ≡ Some insn → next_of params start pc r insn ≡ Some (Through loop) → P r pc → Q loop ((pc - start) / 4 + 1))
      → (fuel pc : ℕ) (r : Reading) (through : Loop × ℕ) → P r pc → loop_from image params start fuel pc r ≡ Ok through → Q through.0 through.1
  unfolding loop_from
  ends P Q step last zero pc r through p e = cc
  ends P Q step last (suc fuel) pc r through p e =
      by_insn (insn_at pc image) refl e (λ next q f. ends P Q step last fuel (pc + 4) next through q f)
    where
      Rest : Type 0
      Rest = (next : Reading) → P next (pc + 4) → loop_from image params start fuel (pc + 4) next ≡ Ok through → Q through.0 through.1

      answered : Loop × ℕ → Result (Loop × ℕ) ℕ
      answered x = Ok x

      same : (x y : Loop × ℕ) → answered x ≡ answered y → x ≡ y
      same x y f = cc

      by_reading : (insn : Insn) → insn_at pc image ≡ Some insn → (o : Option Reading) → next_of params start pc r insn ≡ o
          → then_read start pc o (λ next. loop_from image params start fuel (pc + 4) next) ≡ Ok through → Rest → Q through.0 through.1
      by_reading insn at None is f rest = cc
      by_reading insn at (Some (Works loop)) is f rest = rest (Works loop) (step pc r (Works loop) insn at is refl p) f
      by_reading insn at (Some (Moves loop by left)) is f rest = rest (Moves loop by left) (step pc r (Moves loop by left) insn at is refl p) f
      by_reading insn at (Some (Back loop)) is f rest = rest (Back loop) (step pc r (Back loop) insn at is refl p) f
      by_reading insn at (Some (Through loop)) is f rest =
          subst (λ (x : Loop × ℕ). Q x.0 x.1) (same _ _ f) (last pc r loop insn at is p)

      by_insn : (o : Option Insn) → insn_at pc image ≡ o
          → then_read start pc (option_and_then (next_of params start pc r) o) (λ next. loop_from image params start fuel (pc + 4) next) ≡ Ok through
          → Rest → Q through.0 through.1
      by_insn None at f rest = cc
      by_insn (Some insn) at f rest = by_reading insn at (next_of params start pc r insn) refl f rest

  -- a reading leads where the next one does
  abbrev pub Leads : Type 0
  Leads = (pc : ℕ) (r next : Reading) (insn : Insn) (loop : Loop) → next_of params start pc r insn ≡ Some next → LeadsTo next loop → LeadsTo r loop

  pub leads : Leads → (fuel pc : ℕ) (r : Reading) (through : Loop × ℕ) → loop_from image params start fuel pc r ≡ Ok through → LeadsTo r through.0
  unfolding loop_from
  leads back zero pc r through e = cc
  leads back (suc fuel) pc r through e =
      by_insn (insn_at pc image) refl e (λ next f. leads back fuel (pc + 4) next through f)
    where
      Rest : Type 0
      Rest = (next : Reading) → loop_from image params start fuel (pc + 4) next ≡ Ok through → LeadsTo next through.0

      answered : Loop × ℕ → Result (Loop × ℕ) ℕ
      answered x = Ok x

      same : (x y : Loop × ℕ) → answered x ≡ answered y → x ≡ y
      same x y f = cc

      by_reading : (insn : Insn) → (o : Option Reading) → next_of params start pc r insn ≡ o
          → then_read start pc o (λ next. loop_from image params start fuel (pc + 4) next) ≡ Ok through → Rest → LeadsTo r through.0
      by_reading insn None is f rest = cc
      by_reading insn (Some (Works loop)) is f rest = back pc r (Works loop) insn through.0 is (rest (Works loop) f)
      by_reading insn (Some (Moves loop by left)) is f rest = back pc r (Moves loop by left) insn through.0 is (rest (Moves loop by left) f)
      by_reading insn (Some (Back loop)) is f rest = back pc r (Back loop) insn through.0 is (rest (Back loop) f)
      by_reading insn (Some (Through loop)) is f rest = back pc r (Through loop) insn through.0 is (ap (λ (x : Loop × ℕ). x.0) (same _ _ f))

      by_insn : (o : Option Insn) → insn_at pc image ≡ o
          → then_read start pc (option_and_then (next_of params start pc r) o) (λ next. loop_from image params start fuel (pc + 4) next) ≡ Ok through
          → Rest → LeadsTo r through.0
      by_insn None at f rest = cc
      by_insn (Some insn) at f rest = by_reading insn (next_of params start pc r insn) refl f rest

module _ (fit : MeaningsFit) (image : ImageView) (certificate : CertificateView) (params : List Param) (start : ℕ)
    (Known : Reading → ℕ → AbstractView → Type 0) (through : Loop × ℕ) (on : WordsGoOn params start through.0 Known) (end : WordsEnd certificate params start through.0 through.1 Known)
    (back : Leads image params start) where
  -- the walk goes with the reading, where it has words enough
  pub walks : (fuel more pc : ℕ) (r : Reading) (a : AbstractView) → start ≤ pc → loop_from image params start fuel pc r ≡ Ok through
      → Known r pc a → start + 4 * through.1 ≤ pc + 4 * more
      → ((at : ℕ) → pc < at → at < start + 4 * through.1 → block_at at certificate.blocks ≡ None)
      → walk image certificate more pc a ≡ Ok tt
  unfolding loop_from walk
  walks zero more pc r a l e known enough none = cc
  walks (suc fuel) zero pc r a l e known enough none =
      absurd (let far = inside image params start (suc fuel) pc r through l e in omega (arith, far, enough))
  walks (suc fuel) (suc more) pc r a l e known enough none =
      by_insn (insn_at pc image) refl e (λ next b f k. walks fuel more (pc + 4) next b (omega (arith, l)) f k (omega (arith, enough)) (λ at g h. none at (omega (arith, g)) h))
    where
      Rest : Type 0
      Rest = (next : Reading) (b : AbstractView) → loop_from image params start fuel (pc + 4) next ≡ Ok through → Known next (pc + 4) b
          → walk image certificate more (pc + 4) b ≡ Ok tt

      Goal : Type 0
      Goal = walk image certificate (suc more) pc a ≡ Ok tt

      goes : (next : Reading) (insn : Insn) → insn_at pc image ≡ Some insn → next_of params start pc r insn ≡ Some next → Rest → is_through next ≡ false
          → loop_from image params start fuel (pc + 4) next ≡ Ok through → Goal
      goes next insn at is rest going g =
          let step = on pc r next insn a (fits_at fit pc insn image at) is going (leads image params start back (suc fuel) pc r through e) (leads image params start back fuel (pc + 4) next through g) known in
          let far = inside image params start fuel (pc + 4) next through (omega (arith, l)) g in
          ap (λ x. then_on x (λ b. walk image certificate more (pc + 4) b))
          (word_is image certificate pc insn a step.0 at step.1 ∙ goes_on certificate pc insn step.0 step.2 (none (pc + 4) (omega arith) far))
          ∙ rest next step.0 g step.3

      answered : Loop × ℕ → Result (Loop × ℕ) ℕ
      answered x = Ok x

      same : (x y : Loop × ℕ) → answered x ≡ answered y → x ≡ y
      same x y f = cc

      ended : (loop : Loop) (insn : Insn) → insn_at pc image ≡ Some insn → next_of params start pc r insn ≡ Some (Through loop)
          → (loop, (pc - start) / 4 + 1) ≡ through → Goal
      ended loop insn at is same_loop =
          let loop_is : loop ≡ through.0 = ap (λ (x : Loop × ℕ). x.0) same_loop in
          let step = end pc r insn a (fits_at fit pc insn image at) (subst (λ (l : Loop). next_of params start pc r insn ≡ Some (Through l)) loop_is is)
          (sym (ap (λ (x : Loop × ℕ). x.1) same_loop)) (leads image params start back (suc fuel) pc r through e) known in
          ap (λ x. then_on x (λ b. walk image certificate more (pc + 4) b))
          (word_is image certificate pc insn a step.0 at step.1 ∙ stops certificate pc insn step.0 step.2 step.3)

      by_reading : (insn : Insn) → insn_at pc image ≡ Some insn → (o : Option Reading) → next_of params start pc r insn ≡ o
          → then_read start pc o (λ next. loop_from image params start fuel (pc + 4) next) ≡ Ok through → Rest → Goal
      by_reading insn at None is f rest = cc
      by_reading insn at (Some (Works loop)) is f rest = goes (Works loop) insn at is rest refl f
      by_reading insn at (Some (Moves loop step left)) is f rest = goes (Moves loop step left) insn at is rest refl f
      by_reading insn at (Some (Back loop)) is f rest = goes (Back loop) insn at is rest refl f
      by_reading insn at (Some (Through loop)) is f rest = ended loop insn at is (same _ _ f)

      by_insn : (o : Option Insn) → insn_at pc image ≡ o
          → then_read start pc (option_and_then (next_of params start pc r) o) (λ next. loop_from image params start fuel (pc + 4) next) ≡ Ok through
          → Rest → Goal
      by_insn None at f rest = cc
      by_insn (Some insn) at f rest = by_reading insn at (next_of params start pc r insn) refl f rest
