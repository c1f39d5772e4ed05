-- What `run` does.
use Rattle.std.specs.Prelude.{◌≡◌, Bool, ℕ, List, Option, Some, None, Result, Ok, Err}
use Rattle.block_checker.specs.Bound.{bound_of, scalars_of}
use Rattle.job_file.specs.Needs.{RunJob}
use Rattle.job_reasons.specs.declared.job.Command.TheVariants as command
use Rattle.sandbox_run.specs.Session.{open_fault}
use Rattle.endings.specs.Ending.{stop_of_open}
use Rattle.file_store.specs.Store.{Files}
use Rattle.commands.specs.Starts.{IsStarted, StopsStarting}
use Rattle.commands.specs.Changes.{Change, Wrote}
use Rattle.commands.specs.Trial.{IsFinished, StopsAtTrial, trial_from}
use Rattle.endings.specs.Why.{ExplainsRun}
use Rattle.commands.specs.Words.{AcceptedView, Agnostic, Argument, Halt, Members, OpenError, start, Stop, Text, vlenb_of}
use Rattle.endings.specs.declared.did.Did.{Did}
use Rattle.commands.specs.declared.trial.Trial.{Trial}

-- ---- a job's run

-- what comes of a run that is opened, or the reason why it is not: the run for at most
-- its bound's steps
abbrev pub if_opened : ℕ → Agnostic → AcceptedView → List Argument → Option OpenError
    → Result Trial Stop
if_opened vlenb agnostic a args (Some error) = Err (stop_of_open error)
if_opened vlenb agnostic a args None =
    Ok (trial_from vlenb (bound_of a (scalars_of args))
    (start vlenb agnostic a.image a.certificate.parameters args))

abbrev pub session_of : ℕ → Agnostic → ℕ → AcceptedView → List Argument → Result Trial Stop
session_of vlenb agnostic max a args = if_opened vlenb agnostic a args (open_fault vlenb a args max)

-- what comes of a job on an accepted image and arguments
abbrev pub run_of_job : RunJob Text → AcceptedView → List Argument → Result Trial Stop
run_of_job job a args = session_of (vlenb_of job.vlen) job.agnostic job.max a args

-- ---- what is done: `c` is what is left

-- `run` on a job's table: the job's image is accepted, what comes of the job on it is printed, with
-- the registers or without, and the out files of all places were written with the buffers as the
-- run left them
pub record Runs (files : Files) (registers : Bool) (table : Members) (c : Change) (d : Did)
    : Type 0 where
  pub job : RunJob Text
  pub accepted : AcceptedView
  pub args : List Argument
  pub started : IsStarted files table job accepted args
  pub trial : Trial
  pub comes : run_of_job job accepted args ≡ Ok trial
  pub finished : IsFinished c registers job.params trial None d

-- ---- why it stops

-- after it was started: no run starts, or its outcome is not written or told
abbrev pub StopsRan : Files → Bool → Change → RunJob Text → AcceptedView → List Argument → Halt
    → Type 0
StopsRan files registers c job accepted args =
    StopsAtTrial files c registers job.params (run_of_job job accepted args)
    (ExplainsRun job.max accepted args)

-- `run` on a job's table: it is not started, or afterwards
abbrev pub StopsRun : Files → Bool → Change → Members → Halt → Type 0
StopsRun files registers c =
    StopsStarting command.Run files (Wrote c) (StopsRan files registers c)
