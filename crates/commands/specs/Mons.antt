-- What `mon` does.
use Rattle.std.specs.Prelude.{◌≡◌, ◌⊎◌, codes, ℕ, List, [], Option, Some, None}
use Rattle.std.specs.Io.KnownBytes.{Consumes, IsAtEnd}
use Rattle.job_file.specs.Needs.{RunJob}
use Rattle.job_reasons.specs.declared.job.Command.TheVariants as command
use Rattle.region_mem.specs.Memory.{args_of}
use Rattle.sandbox_run.specs.Session.{IsOpened, SessionView, open_fault}
use Rattle.sandbox_run.specs.Stops.{IsStop}
use Rattle.endings.specs.Ending.{stop_of_open}
use Rattle.commands.specs.Files.{IsUnwritten, outs_of}
use Rattle.file_store.specs.Store.{Files}
use Rattle.endings.specs.Halt.{stop_of}
use Rattle.endings.specs.Why.{ExplainsRun}
use Rattle.commands.specs.Starts.{IsStarted, StopsStarting}
use Rattle.commands.specs.Steps.{StopsAt}
use Rattle.commands.specs.Changes.{Exchange, IsQuiet}
use Rattle.file_store.specs.Sources.{IsUnread}
use Rattle.commands.specs.Talks.{AreTold, IsBroken, IsLastBroken, IsLeft, Watch, watch}
use Rattle.commands.specs.Words.{AcceptedView, Agnostic, Argument, Gains, Halt, Held, Members, OpenError, start, Stop, Text, vlenb_of, Written}
use Rattle.endings.specs.declared.did.Did.{Did}
use Rattle.endings.specs.declared.did.Did.TheVariants as did
use Rattle.endings.specs.declared.stop.Stop.TheVariants as stop

-- ---- a job's run, stopped

-- a run of an accepted image is opened. The lines of the input are answered on it, and no read
-- failed. These are the arguments as they stand where the run is left, at a stop of it
pub record IsStopped (vlenb : ℕ) (agnostic : Agnostic) (max : ℕ) (a : AcceptedView)
    (args : List Argument) (e : Exchange) (kept : List Argument) : Type 0 where
  pub opens : open_fault vlenb a args max ≡ None
  pub opened : SessionView
  pub begins : IsOpened vlenb agnostic a args max opened
  pub left : SessionView
  pub talks : AreTold vlenb e opened left
  pub heard : e.after.failures ≡ e.before.failures
  pub stop : IsStop vlenb (start vlenb agnostic a.image a.certificate.parameters args)
      left.steps left.machine
  pub comes : kept ≡ args_of left.machine.memory

-- ---- what is done: `e` is what is read and printed, and `was` and `has` are the files before and
-- after

-- `mon` on a job's table: the job's image is accepted, the lines of the input are answered on its
-- run, it is left at a stop, and the out files of all places were written with the buffers as they
-- stand there
pub record Mons (files : Files) (table : Members) (e : Exchange) (was has : Option Held) (d : Did)
    : Type 0 where
  pub job : RunJob Text
  pub accepted : AcceptedView
  pub args : List Argument
  pub started : IsStarted files table job accepted args
  pub kept : List Argument
  pub stopped : IsStopped (vlenb_of job.vlen) job.agnostic job.max accepted args e kept
  pub wrote : Gains was has (outs_of job.params kept)
  pub done : d ≡ did.Done

-- ---- why it stops: `wrote xs` says that the files `xs` were written

-- a reason that the input gives
abbrev pub IsOfInput : Stop → Type 0
IsOfInput stop.Memory = Unit {0}
IsOfInput (stop.File at) = at.now ≡ codes "-"
IsOfInput other = ⊥

-- why a line is not answered, behind the bytes that were read: one of those in them is not, or the
-- last one at the end of the input, or the input is not read on, in at most `most` reads, and what
-- was printed are the answers so far
abbrev pub IsUnansweredBehind : ℕ → ℕ → Exchange → Watch → Stop → List ℕ → Type 0
IsUnansweredBehind most vlenb e old reason bytes = IsBroken vlenb bytes e.had e.has old reason
    ⊎ ((IsAtEnd e.after.rest × IsLastBroken vlenb bytes e.had e.has old reason)
    ⊎ (IsOfInput reason × IsUnread most e.before e.after
    × IsLeft vlenb bytes e.had old (λ line now mid. e.has ≡ now)))

-- some bytes were read, and a line is not answered behind them
pub record IsUnanswered (most vlenb : ℕ) (e : Exchange) (old : Watch) (reason : Stop) : Type 0 where
  pub bytes : List ℕ
  pub read : Consumes e.before.rest e.after.rest bytes
  pub behind : IsUnansweredBehind most vlenb e old reason bytes

-- why no run is opened: its fault, or else want of memory
abbrev pub IsUnopened : Option OpenError → Stop → Type 0
IsUnopened (Some error) reason = reason ≡ stop_of_open error
IsUnopened None reason = reason ≡ stop.Memory

-- a run is opened, and a line is not answered on it
pub record IsSilenced (most vlenb : ℕ) (agnostic : Agnostic) (max : ℕ) (a : AcceptedView)
    (args : List Argument) (e : Exchange) (reason : Stop) : Type 0 where
  pub opens : open_fault vlenb a args max ≡ None
  pub opened : SessionView
  pub begins : IsOpened vlenb agnostic a args max opened
  pub unanswered : IsUnanswered most vlenb e (watch [] opened) reason

-- no run is opened, and nothing is read or printed, or one is, and a line is not answered
abbrev pub StopsWatching : ℕ → ℕ → Agnostic → ℕ → AcceptedView → List Argument → Exchange → Halt
    → Type 0
StopsWatching most vlenb agnostic max a args e why =
    (IsUnopened (open_fault vlenb a args max) (stop_of why) × ExplainsRun max a args why
    × IsQuiet e)
    ⊎ IsSilenced most vlenb agnostic max a args e (stop_of why)

-- after it was started: no run is opened, a line is not answered, or an out file is not written
abbrev pub StopsWatched : ℕ → Files → Exchange → (Written → Type 0) → RunJob Text → AcceptedView
    → List Argument → Halt → Type 0
StopsWatched most files e wrote job accepted args =
    StopsAt wrote
    (StopsWatching most (vlenb_of job.vlen) job.agnostic job.max accepted args e)
    (IsStopped (vlenb_of job.vlen) job.agnostic job.max accepted args e)
    (λ kept why. IsUnwritten files wrote job.params kept (stop_of why))

-- no file was written, and nothing was read or printed
abbrev pub BeforeAll : Exchange → (Written → Type 0) → Written → Type 0
BeforeAll e wrote files = wrote files × IsQuiet e

-- `mon` on a job's table, with at most `most` reads of its input: it is not started, or
-- afterwards
abbrev pub StopsMon : ℕ → Files → Exchange → (Written → Type 0) → Members → Halt → Type 0
StopsMon most files e wrote =
    StopsStarting command.Mon files (BeforeAll e wrote) (StopsWatched most files e wrote)
