-- The explanation of why a subcommand stops.
use Rattle.std.proofs.Common.{◌≡◌, ℕ, List, Option, Some, None, IfNone, IfSome, Result, Ok, Err, MatchResult, subst, sym}
use Rattle.cert_maker.specs.Refusal.{misfit_at}
use Rattle.cert_maker.specs.declared.errors.MakeError.{MakeError}
use Rattle.cert_maker.specs.declared.refusal.MakeRefusal.{MakeRefusal}
use Rattle.cert_maker.specs.declared.refusal.MakeRefusal.TheVariants as make_refusal
use Rattle.elf_image.specs.Evidence.{evidence_of, refusal_of}
use Rattle.elf_image.specs.declared.error.ElfError.{ElfError}
use Rattle.elf_image.specs.declared.error.ElfError.TheVariants as elf_error
use Rattle.elf_image.specs.declared.evidence.ElfRefusal.{ElfRefusal}
use Rattle.region_mem.specs.declared.parameter.Param.{Param}
use Rattle.endings.specs.Halt.{stop_of, stop_of_why}
use Rattle.endings.specs.Why.{ExplainsImage, ExplainsLoop, ExplainsOpened, IsMakeReason, IsOfImage, IsOfLoop, IsOfMisfit, IsOfRefusal, TellsImage, TellsLoop}
use Rattle.commands.specs.Words.{Argument, Halt, ImageView, Why}
use Rattle.endings.specs.declared.halt.Halt.TheVariants as halt
use Rattle.endings.specs.declared.halt.Why.TheVariants as why
use Rattle.endings.specs.declared.stop.Stop.TheVariants as stop

-- want of memory has no explanation
unexplained : (w : Why) → stop_of_why w ≡ stop.Memory → ⊥
unexplained (why.Job reason) is = cc
unexplained (why.File path line) is = cc
unexplained (why.Image told) is = cc
unexplained (why.Attach told) is = cc
unexplained (why.Certificate told) is = cc
unexplained (why.Check told) is = cc
unexplained (why.Make told) is = cc

pub memory_opened : (params : List Param) (args : List Argument) (bound max : ℕ) (h : Halt) → stop_of h ≡ stop.Memory
    → ExplainsOpened params args bound max h
memory_opened params args bound max (halt.Plain s) is = is
memory_opened params args bound max (halt.Parameters reason) is = cc
memory_opened params args bound max (halt.Unopened told) is = cc
memory_opened params args bound max (halt.Explained kept) is = absurd (unexplained kept.value is)

-- ---- refusals with what is known

same_error : {A : Type 0} (a b : ElfRefusal) → ◌≡◌ {A = Result A ElfRefusal} (Err a) (Err b) → a ≡ b
same_error a b e = cc

-- what is told of a refusal explains why the file is no image
image_of : (file : List ℕ) (error : ElfError) (w : Why) → IsOfRefusal (refusal_of file error) w → IsOfImage file w
image_of file error (why.Image told) is = subst (λ (e : ElfError). told.reason.0 ≡ evidence_of file e) (sym is.0) is.1
image_of file error (why.Attach told) is = absurd is
image_of file error (why.Job reason) is = tt
image_of file error (why.File path line) is = tt
image_of file error (why.Certificate told) is = tt
image_of file error (why.Check told) is = tt
image_of file error (why.Make told) is = tt

image_told : (file : List ℕ) (error : ElfError) (h : Halt) → TellsImage (refusal_of file error) h → ExplainsImage file h
image_told file error (halt.Plain s) told = tt
image_told file error (halt.Parameters reason) told = absurd told
image_told file error (halt.Unopened refusal) told = absurd told
image_told file error (halt.Explained kept) told = image_of file error kept.value told

-- and why there is no certificate of the loop in an image
loop_of : (params : List Param) (image : ImageView) (pc : ℕ) (w : Why) → IsOfMisfit params (make_refusal.Misfit (misfit_at image pc)) w
    → IsOfLoop params image w
loop_of params image pc (why.Make told) is =
    subst (λ (e : MakeError). IsMakeReason params image e told.reason) (sym is.0) is.1
loop_of params image pc (why.Job reason) is = absurd is
loop_of params image pc (why.Attach told) is = tt
loop_of params image pc (why.Image told) is = tt
loop_of params image pc (why.File path line) is = tt
loop_of params image pc (why.Certificate told) is = tt
loop_of params image pc (why.Check told) is = tt

loop_told : (params : List Param) (image : ImageView) (pc : ℕ) (h : Halt) → TellsLoop params (make_refusal.Misfit (misfit_at image pc)) h
    → ExplainsLoop params image h
loop_told params image pc (halt.Plain s) told = told
loop_told params image pc (halt.Parameters reason) told = absurd told
loop_told params image pc (halt.Unopened refusal) told = absurd told
loop_told params image pc (halt.Explained kept) told = loop_of params image pc kept.value told

-- the answer for a file that was not read explains why it is no image
pub image_explained : (A : Type 0) (fault : Option ElfError) (file : List ℕ) (refusal : ElfRefusal) (h : Halt)
    → IfSome fault (λ e. ◌≡◌ {A = Result A ElfRefusal} (Err refusal) (Err (refusal_of file e)))
    → IfNone fault (refusal ≡ refusal_of file elf_error.NoMemory) → TellsImage refusal h → ExplainsImage file h
image_explained A (Some e) file refusal h is none told =
    image_told file e h (subst (λ (r : ElfRefusal). TellsImage r h) (same_error refusal (refusal_of file e) is) told)
image_explained A None file refusal h is none told =
    image_told file elf_error.NoMemory h (subst (λ (r : ElfRefusal). TellsImage r h) none told)

-- and of why no certificate was made
memory_of : (params : List Param) (image : ImageView) (w : Why) → IsOfMisfit params make_refusal.NoMemory w → IsOfLoop params image w
memory_of params image (why.Make told) is = absurd is.1
memory_of params image (why.Job reason) is = absurd is
memory_of params image (why.Attach told) is = tt
memory_of params image (why.Image told) is = tt
memory_of params image (why.File path line) is = tt
memory_of params image (why.Certificate told) is = tt
memory_of params image (why.Check told) is = tt

wanted_memory : (params : List Param) (image : ImageView) (h : Halt) → TellsLoop params make_refusal.NoMemory h → ExplainsLoop params image h
wanted_memory params image (halt.Plain s) told = told
wanted_memory params image (halt.Parameters reason) told = absurd told
wanted_memory params image (halt.Unopened refusal) told = absurd told
wanted_memory params image (halt.Explained kept) told = memory_of params image kept.value told

same_refusal : {A : Type 0} (a b : MakeRefusal) → ◌≡◌ {A = Result A MakeRefusal} (Err a) (Err b) → a ≡ b
same_refusal a b e = cc

pub loop_explained : (A : Type 0) {T : Type 0} (read : Result T ℕ) (params : List Param) (image : ImageView) (refusal : MakeRefusal) (h : Halt)
    → MatchResult read (λ through. refusal ≡ make_refusal.NoMemory)
    (λ address. ◌≡◌ {A = Result A MakeRefusal} (Err refusal) (Err (make_refusal.Misfit (misfit_at image address))))
    → TellsLoop params refusal h → ExplainsLoop params image h
loop_explained A (Ok through) params image refusal h is told =
    wanted_memory params image h (subst (λ (r : MakeRefusal). TellsLoop params r h) is told)
loop_explained A (Err address) params image refusal h is told =
    loop_told params image address h (subst (λ (r : MakeRefusal). TellsLoop params r h) (same_refusal refusal (make_refusal.Misfit (misfit_at image address)) is) told)
