-- Why a subcommand stops, and the explanation of that.
use Rattle.std.specs.Prelude.{codes, ℕ, List, [], Result, Ok, Err, string_bytes}
use Rattle.block_checker.specs.Refusals as check_words
use Rattle.cert_maker.specs.Make as make_words
use Rattle.cert_note.specs.Refusals as certificate_words
use Rattle.check_reasons.specs.Check.{check_text}
use Rattle.elf_image.specs.Error as image_words
use Rattle.explanations.specs.Certificate.{certificate_text}
use Rattle.explanations.specs.Image.{image_text}
use Rattle.explanations.specs.Refusal.{told}
use Rattle.job_file.specs.declared.values.JobError.TheVariants as job_error
use Rattle.job_reasons.specs.Job.{job_text}
use Rattle.job_reasons.specs.Loops.{loop_text}
use Rattle.job_reasons.specs.Make.{make_text}
use Rattle.job_reasons.specs.Open.{open_text}
use Rattle.job_reasons.specs.declared.job.JobReason.{JobReason}
use Rattle.job_reasons.specs.declared.job.JobReason.TheVariants as job_reason
use Rattle.sandbox_run.specs.Errors as open_words
use Rattle.endings.specs.Words.{Halt, JobError, Stop, Why}
use Rattle.endings.specs.declared.halt.Halt.TheVariants as halt
use Rattle.endings.specs.declared.halt.Why.TheVariants as why
use Rattle.endings.specs.declared.stop.Stop.TheVariants as stop

-- ---- the reason to stop

-- the error of a job that is refused for a reason
abbrev pub error_of : JobReason → JobError
error_of (job_reason.NotUtf8 byte) = job_error.NotToml
error_of (job_reason.NotToml line column byte cause) = job_error.NotToml
error_of job_reason.Broken = job_error.BadKey
error_of (job_reason.Missing table key command) = job_error.BadKey
error_of (job_reason.Breach breach) = job_error.BadKey

-- the reason to stop that something explains
abbrev pub stop_of_why : Why → Stop
stop_of_why (why.Job reason) = stop.Job (error_of reason)
stop_of_why (why.File path line) = stop.File path
stop_of_why (why.Image refusal) = stop.Image refusal.error
stop_of_why (why.Attach refusal) = stop.Image refusal.error
stop_of_why (why.Certificate refusal) = stop.Certificate refusal.error
stop_of_why (why.Check refusal) = stop.Check refusal.error
stop_of_why (why.Make refusal) = stop.Make refusal.error

-- without the explanation
abbrev pub stop_of : Halt → Stop
stop_of (halt.Plain reason) = reason
stop_of (halt.Parameters reason) = stop.Job job_error.BadKey
stop_of (halt.Unopened refusal) = stop.Open refusal.error
stop_of (halt.Explained kept) = stop_of_why kept.value

-- an answer, where the reason to stop stands alone
abbrev pub bare : {A : Type 0} → Result A Halt → Result A Stop
bare (Ok a) = Ok a
bare (Err stopped) = Err (stop_of stopped)

-- what explains the reason to stop is large, and means this where it is kept
abbrev pub IfExplained : Halt → (Why → Type 0) → Type 0
IfExplained (halt.Plain reason) means = Unit {0}
IfExplained (halt.Parameters reason) means = ⊥
IfExplained (halt.Unopened refusal) means = ⊥
IfExplained (halt.Explained kept) means = means kept.value

-- ---- the explanation

-- of the very reason to stop
abbrev pub why_text : Why → List ℕ
why_text (why.Job reason) = job_text reason
why_text (why.File path line) = string_bytes line
why_text (why.Image refusal) =
    told (image_words.error_text refusal.error) (image_text refusal.reason.0)
why_text (why.Attach refusal) =
    told (image_words.error_text refusal.error) (make_text refusal.reason)
why_text (why.Certificate refusal) =
    told (certificate_words.refusal_text refusal.error) (certificate_text refusal.reason)
why_text (why.Check refusal) =
    told (check_words.error_text refusal.error) (check_text refusal.reason)
why_text (why.Make refusal) =
    told (make_words.error_text refusal.error) (loop_text refusal.reason)

-- of a reason to stop of which no more is kept: nothing, but where there is no more to know
abbrev pub plain_text : Stop → List ℕ
plain_text (stop.Job error) = []
plain_text (stop.File path) = []
plain_text (stop.Image error) = []
plain_text stop.NoCertificate =
    codes "  wanted: a certificate in a note of the image, as `make` writes it\n"
plain_text (stop.Certificate error) = []
plain_text (stop.Check error) = []
plain_text (stop.Make error) = []
plain_text (stop.Open error) = []
plain_text stop.Memory = []
plain_text stop.Output = []

abbrev pub halt_text : Halt → List ℕ
halt_text (halt.Plain reason) = plain_text reason
halt_text (halt.Parameters reason) = make_text reason
halt_text (halt.Unopened refusal) =
    told (open_words.error_text refusal.error) (open_text refusal.reason)
halt_text (halt.Explained kept) = why_text kept.value
