-- The explanation of why a subcommand stops, step by step: the very reason of the error. There may
-- be none of a large reason, where memory did not suffice to keep it.
use Rattle.std.specs.Prelude.{◌≡◌, ℕ, List, Option, Some, None, Result, Ok, Err, unwrap_or}
use Rattle.std.specs.Global.{Global}
use Rattle.block_checker.specs.Bound.{bound_of, scalars_of}
use Rattle.block_checker.specs.Explained.{Explains}
use Rattle.cert_maker.specs.declared.errors.MakeError.{MakeError}
use Rattle.cert_maker.specs.declared.errors.MakeError.TheVariants as make_error
use Rattle.cert_maker.specs.declared.refusal.MakeRefusal.{MakeRefusal}
use Rattle.cert_maker.specs.declared.refusal.MakeRefusal.TheVariants as make_refusal
use Rattle.cert_maker.specs.Refusal.{error_of, misfit_at}
use Rattle.check_reasons.specs.Check.{IsListed, IsWanted}
use Rattle.check_reasons.specs.declared.check.CheckReason.{CheckReason}
use Rattle.explanations.specs.Certificate.{IsReason}
use Rattle.elf_image.specs.Evidence.{evidence_of}
use Rattle.elf_image.specs.declared.evidence.ElfRefusal.{ElfRefusal}
use Rattle.job_reasons.specs.Job.{IsTableReason, IsTextReason}
use Rattle.job_reasons.specs.declared.job.Command.{Command}
use Rattle.job_reasons.specs.declared.job.JobReason.{JobReason}
use Rattle.toml.specs.Data.{Members}
use Rattle.job_reasons.specs.Loops.{IsLoopReason}
use Rattle.job_reasons.specs.Make.{attach_reason, parameter_reason}
use Rattle.job_reasons.specs.declared.loops.LoopReason.{LoopReason}
use Rattle.job_reasons.specs.Open.{reason_of}
use Rattle.region_mem.specs.declared.parameter.Param.{Param}
use Rattle.vreg_groups.specs.declared.vector_length.Vlen.{Vlen}
use Rattle.endings.specs.Accepted.{certificate_in}
use Rattle.endings.specs.Halt.{IfExplained}
use Rattle.endings.specs.Words.{AcceptedView, Argument, CertificateView, CheckError, Halt, ImageView, Stop, Why}
use Rattle.endings.specs.declared.halt.Halt.TheVariants as halt
use Rattle.endings.specs.declared.halt.Why.TheVariants as why
use Rattle.endings.specs.declared.stop.Stop.TheVariants as stop

-- the step that fails first tells why
abbrev pub ByStep : {A : Type 0} → Result A Stop → (Halt → Type 0) → (A → Halt → Type 0) → Halt
    → Type 0
ByStep (Err reason) fails later stopped = fails stopped
ByStep (Ok a) fails later stopped = later a stopped

-- ---- a job

-- the reason that is kept, or want of memory where there is none
abbrev pub TellsText : Option JobReason → Halt → Type 0
TellsText (Some reason) stopped = IfExplained stopped (λ kept. kept ≡ why.Job reason)
TellsText None stopped = stopped ≡ halt.Plain stop.Memory

-- why the bytes of a job file spell no table
abbrev pub IsOfText : List ℕ → Why → Type 0
IsOfText text (why.Job reason) = IsTextReason text (Some reason)
IsOfText text other = Unit {0}

abbrev pub ExplainsText : List ℕ → Halt → Type 0
ExplainsText text stopped = IfExplained stopped (IsOfText text)

-- why a command takes no job of a table
abbrev pub IsOfTable : Command → Members → Why → Type 0
IsOfTable command table (why.Job reason) = IsTableReason command table (Some reason)
IsOfTable command table other = Unit {0}

abbrev pub ExplainsTable : Command → Members → Halt → Type 0
ExplainsTable command table stopped = IfExplained stopped (IsOfTable command table)

-- ---- an image

-- the error of a refusal, with what is known of the file
abbrev pub IsOfRefusal : ElfRefusal → Why → Type 0
IsOfRefusal refusal (why.Image told) =
    (told.error ≡ refusal.error) × (told.reason.0 ≡ refusal.evidence)
IsOfRefusal refusal (why.Attach told) = ⊥
IsOfRefusal refusal other = Unit {0}

abbrev pub TellsImage : ElfRefusal → Halt → Type 0
TellsImage refusal stopped = IfExplained stopped (IsOfRefusal refusal)

-- why a file is no image
abbrev pub IsOfImage : List ℕ → Why → Type 0
IsOfImage file (why.Image told) = told.reason.0 ≡ evidence_of file told.error
IsOfImage file (why.Attach told) = ⊥
IsOfImage file other = Unit {0}

abbrev pub ExplainsImage : List ℕ → Halt → Type 0
ExplainsImage file stopped = IfExplained stopped (IsOfImage file)

-- why the bytes of an image's note are no certificate
abbrev pub IsOfNote : Option (List ℕ) → Why → Type 0
IsOfNote (Some bytes) (why.Certificate told) = IsReason bytes told.error told.reason
IsOfNote bytes other = Unit {0}

abbrev pub ExplainsCertificate : Option (List ℕ) → Halt → Type 0
ExplainsCertificate bytes stopped = IfExplained stopped (IsOfNote bytes)

-- the explanation of a check that is refused with an error: where it stopped, the word there, and
-- what was wanted
pub record IsCheckReason (image : ImageView) (certificate : CertificateView) (vlen : Vlen)
    (error : CheckError) (told : CheckReason Global) : Type 0 where
  pub fault : told.explanation.error ≡ error
  pub stop : Explains image certificate told.explanation
  pub listing : IsListed told.explanation.stop told.listing
  pub wanted : IsWanted image certificate vlen told.explanation told.wanted

-- why the check refuses an image with a certificate
abbrev pub IsOfCheck : ImageView → CertificateView → Vlen → Why → Type 0
IsOfCheck image certificate vlen (why.Check told) =
    IsCheckReason image certificate vlen told.error told.reason
IsOfCheck image certificate vlen other = Unit {0}

abbrev pub ExplainsCheck : ImageView → CertificateView → Vlen → Halt → Type 0
ExplainsCheck image certificate vlen stopped =
    IfExplained stopped (IsOfCheck image certificate vlen)

-- why an image is not accepted at a length of vector registers, or else at its certificate's own
abbrev pub ExplainsAccepted : Option Vlen → ImageView → Halt → Type 0
ExplainsAccepted vlen image =
    ByStep (certificate_in image.certificate) (ExplainsCertificate image.certificate)
    (λ certificate. ExplainsCheck image certificate (unwrap_or vlen certificate.vlen))

-- ---- a certificate that is made

abbrev pub IsMakeReason : List Param → ImageView → MakeError → LoopReason → Type 0
IsMakeReason params image (make_error.NotALoopOfTheClass pc) told =
    IsLoopReason params (misfit_at image pc) told
IsMakeReason params image make_error.NoMemory told = ⊥

-- the same by a refusal, with what is known of the word
abbrev pub IsRefusalReason : List Param → MakeRefusal → LoopReason → Type 0
IsRefusalReason params (make_refusal.Misfit misfit) told = IsLoopReason params misfit told
IsRefusalReason params make_refusal.NoMemory told = ⊥

-- it is not the parameters of a job that are refused: of these the reason is always kept
abbrev pub IsNoJob : Stop → Type 0
IsNoJob (stop.Job error) = ⊥
IsNoJob other = Unit {0}

abbrev pub IsOfMisfit : List Param → MakeRefusal → Why → Type 0
IsOfMisfit params refusal (why.Make told) =
    (told.error ≡ error_of refusal) × IsRefusalReason params refusal told.reason
IsOfMisfit params refusal (why.Job reason) = ⊥
IsOfMisfit params refusal other = Unit {0}

abbrev pub TellsLoop : List Param → MakeRefusal → Halt → Type 0
TellsLoop params refusal (halt.Plain reason) = IsNoJob reason
TellsLoop params refusal (halt.Parameters reason) = ⊥
TellsLoop params refusal (halt.Unopened told) = ⊥
TellsLoop params refusal (halt.Explained kept) = IsOfMisfit params refusal kept.value

-- why there is no certificate of the loop in an image for these parameters
abbrev pub IsOfLoop : List Param → ImageView → Why → Type 0
IsOfLoop params image (why.Make told) = IsMakeReason params image told.error told.reason
IsOfLoop params image (why.Job reason) = ⊥
IsOfLoop params image other = Unit {0}

abbrev pub ExplainsLoop : List Param → ImageView → Halt → Type 0
ExplainsLoop params image (halt.Plain reason) = IsNoJob reason
ExplainsLoop params image (halt.Parameters reason) = reason ≡ parameter_reason params
ExplainsLoop params image (halt.Unopened told) = ⊥
ExplainsLoop params image (halt.Explained kept) = IsOfLoop params image kept.value

-- why a file, whose image has this certificate, takes none of `size` bytes
abbrev pub IsOfAttached : List ℕ → Option (List ℕ) → ℕ → Why → Type 0
IsOfAttached file there size (why.Attach told) =
    told.reason ≡ attach_reason file there size told.error
IsOfAttached file there size (why.Image told) = ⊥
IsOfAttached file there size other = Unit {0}

abbrev pub ExplainsAttached : List ℕ → Option (List ℕ) → ℕ → Halt → Type 0
ExplainsAttached file there size stopped = IfExplained stopped (IsOfAttached file there size)

-- ---- a run

-- why no run of these arguments is opened: the reason has the first of the parameters that there
-- can't be, if there are such. Want of memory alone has no reason
abbrev pub ExplainsOpened : List Param → List Argument → ℕ → ℕ → Halt → Type 0
ExplainsOpened params args bound max (halt.Plain reason) = reason ≡ stop.Memory
ExplainsOpened params args bound max (halt.Parameters reason) = reason ≡ parameter_reason params
ExplainsOpened params args bound max (halt.Unopened told) =
    told.reason ≡ reason_of params args bound max told.error
ExplainsOpened params args bound max (halt.Explained kept) = ⊥

-- why no run of an accepted image is opened, with the bound that its certificate states for these
-- arguments
abbrev pub ExplainsRun : ℕ → AcceptedView → List Argument → Halt → Type 0
ExplainsRun max a args =
    ExplainsOpened a.certificate.parameters args (bound_of a (scalars_of args)) max
