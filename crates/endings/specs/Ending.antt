-- How the program ends: the reason to stop that each error is, the status of each reason, and each
-- status as a number.
use Rattle.std.specs.Prelude.{◌≡◌, ◌⊎◌, ◌++◌, Bool, false, true, ℕ, List, [], Option, Some, None, Result, Ok, Err, MatchResult}
use Rattle.block_checker.specs.declared.errors.CheckError.TheVariants as check_error
use Rattle.cert_maker.specs.declared.errors.MakeError.{MakeError}
use Rattle.cert_maker.specs.declared.errors.MakeError.TheVariants as make_error
use Rattle.endings.specs.Words.{CertError, CheckError, ElfError, Halt, OpenError, Status, Stop}
use Rattle.cert_note.specs.declared.refusals.CertError.TheVariants as certificate_error
use Rattle.elf_image.specs.declared.error.ElfError.TheVariants as image_error
use Rattle.sandbox_run.specs.declared.outcome.OpenError.TheVariants as open_error
use Rattle.std.specs.Borrow.{Bor}
use Rattle.file_store.specs.declared.store.StoreError.{StoreError}
use Rattle.file_store.specs.declared.store.StoreError.TheVariants as store_error
use Rattle.endings.specs.declared.stands.End.{End}
use Rattle.endings.specs.declared.stands.End.TheVariants as end
use Rattle.endings.specs.Did.{did_text, status_with}
use Rattle.endings.specs.Halt.{error_of, halt_text, stop_of}
use Rattle.job_reasons.specs.declared.job.JobReason.{JobReason}
use Rattle.endings.specs.Texts.{stop_text}
use Rattle.endings.specs.declared.did.Did.{Did}
use Rattle.rv_listing.specs.Sinks.{IsPassedOn}
use Rattle.endings.specs.Streams.{IsTold, Stream}
use Rattle.endings.specs.declared.stop.Status.TheVariants as status
use Rattle.endings.specs.declared.stop.Stop.TheVariants as stop

-- the exit status
abbrev pub code_of : Status → ℕ
code_of status.Done = 0
code_of status.Refused = 1
code_of status.Usage = 2
code_of status.File = 3
code_of status.Memory = 4
code_of status.Stopped = 5

-- the status of a reason to stop, where it can be told
abbrev pub status_of : Stop → Status
status_of (stop.Job error) = status.Usage
status_of (stop.File path) = status.File
status_of (stop.Image error) = status.Refused
status_of stop.NoCertificate = status.Refused
status_of (stop.Certificate error) = status.Refused
status_of (stop.Check error) = status.Refused
status_of (stop.Make error) = status.Refused
status_of (stop.Open error) = status.Refused
status_of stop.Memory = status.Memory
status_of stop.Output = status.File

-- the reason to stop that an error is: want of memory is always Memory

abbrev pub stop_of_text : Option JobReason → Stop
stop_of_text (Some reason) = stop.Job (error_of reason)
stop_of_text None = stop.Memory

abbrev pub stop_of_image : ElfError → Stop
stop_of_image image_error.NoMemory = stop.Memory
stop_of_image error = stop.Image error

abbrev pub stop_of_certificate : CertError → Stop
stop_of_certificate certificate_error.NoMemory = stop.Memory
stop_of_certificate error = stop.Certificate error

abbrev pub stop_of_check : CheckError → Stop
stop_of_check check_error.NoMemory = stop.Memory
stop_of_check error = stop.Check error

abbrev pub stop_of_make : MakeError → Stop
stop_of_make make_error.NoMemory = stop.Memory
stop_of_make error = stop.Make error

abbrev pub stop_of_open : OpenError → Stop
stop_of_open open_error.NoMemory = stop.Memory
stop_of_open error = stop.Open error

abbrev pub stop_at_file : StoreError → Bor (List ℕ) → Stop
stop_at_file store_error.Failed path = stop.File path
stop_at_file store_error.NoMemory path = stop.Memory

-- a reason to stop that a file at this path gives, where these are the errors with
-- which it may fail
abbrev pub IsOfFile : (List ℕ → StoreError → Type 0) → List ℕ → Stop → Type 0
IsOfFile fails path (stop.File at) = (at.now ≡ path) × fails path store_error.Failed
IsOfFile fails path stop.Memory = fails path store_error.NoMemory
IsOfFile fails path other = ⊥

-- the status of a run that was printed
abbrev pub status_of_end : End → Status
status_of_end end.Ended = status.Done
status_of_end (end.Trapped fault) = status.Stopped
status_of_end end.OutOfSteps = status.Stopped

-- ---- how a subcommand ends

-- the status of what was done, or of the reason to stop
abbrev pub status_after : Result Status Stop → Status
status_after (Ok s) = s
status_after (Err reason) = status_of reason

-- what is printed of it on standard error
abbrev pub text_after : Result Status Stop → List ℕ
text_after (Ok s) = []
text_after (Err reason) = stop_text reason

-- what was done, or the reason to stop, without the explanation
abbrev pub plain : Result Did Halt → Result Status Stop
plain (Ok did) = Ok (status_with did)
plain (Err why) = Err (stop_of why)

-- the explanation, where it is to explain
abbrev pub more_if : Bool → Result Did Halt → List ℕ
more_if false came = []
more_if true (Ok did) = did_text did
more_if true (Err why) = halt_text why

-- this is the explanation, or nothing where memory ran out
abbrev pub IsMore : Bool → Result Did Halt → List ℕ → Type 0
IsMore explains came more = (more ≡ more_if explains came) ⊎ (more ≡ [])

-- standard error has the reason's line and, behind it, exactly the explanation of that reason where
-- it is to explain
abbrev pub Tells : Bool → Result Did Halt → Stream → Stream → Type 0
Tells explains came old new = (more : List ℕ) × IsMore explains came more
    × IsTold old new (text_after (plain came) ++ more)

-- where a subcommand did what it does, all that standard output has taken is passed on
abbrev pub PassesOn : Status → Option (List ℕ) → Option (List ℕ) → Type 0
PassesOn s passed taken = (s ≡ status.Done) ⊎ (s ≡ status.Stopped) → IsPassedOn passed taken

-- a subcommand does what it does, or stops for one of its reasons, with the explanation of that:
-- the status says which, and standard error tells why. `old` and `new` are what that has before and
-- after
pub record Ends (explains : Bool) (does : Did → Type 0) (stops : Halt → Type 0)
    (old new : Stream) (s : Status) : Type 0 where
  pub came : Result Did Halt
  pub comes : MatchResult came does stops
  pub status : s ≡ status_after (plain came)
  pub told : Tells explains came old new
