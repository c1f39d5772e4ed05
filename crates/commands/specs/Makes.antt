-- What `make` does.
use Rattle.std.specs.Prelude.{◌≡◌, ◌⊎◌, ◌∷◌, [], ℕ, List, length, Option, Some, None, Result, Ok, Err}
use Rattle.std.specs.Global.{Vec}
use Rattle.std.specs.Result.{result_map_both}
use Rattle.cert_maker.specs.Certificates as maker
use Rattle.cert_maker.specs.Loops.{loop_of}
use Rattle.cert_maker.specs.declared.errors.MakeError.TheVariants.{NotALoopOfTheClass}
use Rattle.cert_maker.specs.declared.loops.Loop.{Loop}
use Rattle.cert_note.specs.Spelling.{spelling}
use Rattle.cert_note.specs.declared.values.Budget.{Budget}
use Rattle.elf_image.specs.Attached.{attach_fault, attached_of}
use Rattle.job_file.specs.Needs.{make_job_in}
use Rattle.job_file.specs.declared.values.JobError.TheVariants.{BadKey}
use Rattle.job_file.specs.declared.values.MakeJob.{MakeJob}
use Rattle.job_reasons.specs.declared.job.Command.TheVariants as command
use Rattle.region_mem.specs.Parameter.{parameters_of}
use Rattle.region_mem.specs.declared.parameter.Param.{Param}
use Rattle.endings.specs.Accepted.{IsOrWant, accepted_of}
use Rattle.commands.specs.Checks.{IsBudget, IsUntold, bound_line}
use Rattle.endings.specs.Ending.{IsOfFile}
use Rattle.commands.specs.Files.{IsNoImage, image_in, unless_fault}
use Rattle.file_store.specs.Store.{Files}
use Rattle.endings.specs.Halt.{stop_of}
use Rattle.commands.specs.Steps.{StopsAt, StopsAtJob, StopsAtResult}
use Rattle.endings.specs.Streams.{Prints}
use Rattle.commands.specs.Changes.{Change, Wrote}
use Rattle.endings.specs.Why.{ByStep, ExplainsAccepted, ExplainsAttached, ExplainsImage, ExplainsLoop, ExplainsTable}
use Rattle.commands.specs.Words.{AcceptedView, CertificateView, Gains, Halt, ImageView, Members, Stop, Text}
use Rattle.endings.specs.declared.did.Did.{Did}
use Rattle.endings.specs.declared.did.Did.TheVariants as did
use Rattle.endings.specs.declared.stop.Stop.TheVariants as stop

-- what follows a value, or the reason to stop
infixl 10 ◌>>=◌
abbrev pub ◌>>=◌ : {A B : Type 0} → Result A Stop → (A → Result B Stop) → Result B Stop
(Ok a) >>= next = next a
(Err reason) >>= next = Err reason

-- ---- the file with a certificate

-- the certificate of the loop that was read in an image, or the reason why there is none
abbrev pub if_read : MakeJob → ImageView → List Param → Result (Loop × ℕ) ℕ
    → Result CertificateView Stop
if_read job image params (Err address) = Err (stop.Make (NotALoopOfTheClass address))
if_read job image params (Ok through) =
    Ok (maker.certificate_of image params job.vlen through.0 through.1)

abbrev pub if_valid : MakeJob → ImageView → Option (List Param) → Result CertificateView Stop
if_valid job image None = Err (stop.Job BadKey)
if_valid job image (Some params) = if_read job image params (loop_of image params)

-- the certificate that is made for a job of the loop at an image's entry
abbrev pub certificate_for : MakeJob → ImageView → Result CertificateView Stop
certificate_for job image = if_valid job image (parameters_of job.params)

-- the file with a certificate in a note
abbrev pub with_certificate : List ℕ → CertificateView → Result (List ℕ) Stop
with_certificate file certificate =
    let note = spelling certificate in
    unless_fault (attach_fault file note) (attached_of file note)

-- the file with the certificate that is made of its image for a job, or the reason to stop
abbrev pub made_for : MakeJob → List ℕ → ImageView → Result (List ℕ) Stop
made_for job file image = do
  certificate ← certificate_for job image
  with_certificate file certificate

-- the same of the image that the file spells
abbrev pub made_of : MakeJob → List ℕ → Result (List ℕ) Stop
made_of job file = do
  image ← image_in file
  made_for job file image

-- what is accepted where a file that was made is read back
abbrev pub accepted_in : MakeJob → List ℕ → Result AcceptedView Stop
accepted_in job bytes = do
  image ← image_in bytes
  accepted_of (Some job.vlen) image

-- an answer's bytes, or its reason to stop
abbrev pub bytes_of : Result (Vec ℕ) Halt → Result (List ℕ) Stop
bytes_of answer = result_map_both (λ bytes. bytes.items) stop_of answer

-- they are what is defined, or it is want of memory
abbrev pub AnswersBytes : Result (List ℕ) Stop → Result (Vec ℕ) Halt → Type 0
AnswersBytes defined answer = IsOrWant defined (bytes_of answer)

-- ---- the explanation

-- why no certificate is made of an image for a job, or attached to its file
abbrev pub ExplainsMaking : MakeJob → List ℕ → ImageView → Halt → Type 0
ExplainsMaking job file image =
    ByStep (certificate_for job image) (ExplainsLoop job.params image)
    (λ certificate. ExplainsAttached file image.certificate (length (spelling certificate)))

-- why a file that was made is not accepted where it is read back
abbrev pub ExplainsReadBack : MakeJob → List ℕ → Halt → Type 0
ExplainsReadBack job bytes =
    ByStep (image_in bytes) (ExplainsImage bytes) (ExplainsAccepted (Some job.vlen))

-- ---- what is done: `c` is what is left

-- `make` on a job's table, an image's path and the path of the file to write: the image's file
-- with the certificate that is made is accepted when it is read back, and written, and its
-- bound is printed
pub record Makes (files : Files) (path out : Text) (table : Members) (c : Change) (d : Did)
    : Type 0 where
  pub job : MakeJob
  pub asked : make_job_in table ≡ Some job
  pub file : List ℕ
  pub there : files.holds path file
  pub bytes : List ℕ
  pub made : made_of job file ≡ Ok bytes
  pub accepted : AcceptedView
  pub passes : accepted_in job bytes ≡ Ok accepted
  pub wrote : Gains c.was c.has ((out, bytes) ∷ [])
  pub budget : Budget
  pub entry : IsBudget accepted budget
  pub told : Prints c.old c.new (bound_line budget)
  pub done : d ≡ did.Done

-- ---- why it stops

-- after the file was made and accepted: it is not written, or its bound is not told
abbrev pub StopsMade : Files → Change → Text → List ℕ → AcceptedView → Halt → Type 0
StopsMade files c out bytes accepted why =
    (IsOfFile files.unwritten out (stop_of why) × Wrote c [])
    ⊎ IsUntold c accepted ((out, bytes) ∷ []) why

-- `make` on a job's table: it asks for no job, the image's file is not read, spells no
-- image, none is made of it, that is not accepted when it is read back, or afterwards. Once the
-- image is read, want of memory does not come where there is no certificate of it for the job
abbrev pub StopsMake : Files → Change → Text → Text → Members → Halt → Type 0
StopsMake files c path out table =
    StopsAtJob (Wrote c) (make_job_in table) (ExplainsTable command.Make table) (λ job.
    StopsAt (Wrote c) (λ why. IsOfFile files.unread path (stop_of why)) (files.holds path) (λ file.
    StopsAt (Wrote c) (IsNoImage file) (λ image. image_in file ≡ Ok image) (λ image.
    StopsAtResult (Wrote c) (certificate_for job image) (made_for job file image)
    (ExplainsMaking job file image) (λ bytes.
    StopsAtResult (Wrote c) (image_in bytes) (accepted_in job bytes) (ExplainsReadBack job bytes)
    (StopsMade files c out bytes)))))
