-- What `run` and `mon` begin with: a job on an image that is accepted, and what it passes.
use Rattle.std.specs.Prelude.{◌≡◌, List, Some, Ok}
use Rattle.job_file.specs.Needs.{run_job_in}
use Rattle.job_file.specs.Needs.{RunJob}
use Rattle.job_reasons.specs.declared.job.Command.{Command}
use Rattle.endings.specs.Accepted.{accepted_of, certificate_in}
use Rattle.commands.specs.Files.{ArePassed, IsImageAt, IsNoImageAt, IsUnpassed}
use Rattle.file_store.specs.Store.{Files}
use Rattle.endings.specs.Halt.{stop_of}
use Rattle.commands.specs.Steps.{StopsAt, StopsAtJob, StopsAtResult}
use Rattle.endings.specs.Why.{ExplainsAccepted, ExplainsTable}
use Rattle.commands.specs.Words.{AcceptedView, Argument, Halt, ImageView, Members, Text, Written}

-- a table asks for this job, its image is accepted, and these are the arguments that it passes
pub record IsStarted (files : Files) (table : Members) (job : RunJob Text) (accepted : AcceptedView)
    (args : List Argument) : Type 0 where
  pub asked : run_job_in table ≡ Some job
  pub image : ImageView
  pub there : IsImageAt files job.image image
  pub passes : accepted_of (Some job.vlen) image ≡ Ok accepted
  pub passed : ArePassed files job.params args

-- why a command stops on a job's table: it asks for no job, the image is not read or not
-- accepted, what is passed is not read, or, after that, for a reason of `later`
abbrev pub StopsStarting : Command → Files → (Written → Type 0)
    → (RunJob Text → AcceptedView → List Argument → Halt → Type 0) → Members → Halt → Type 0
StopsStarting command files wrote later table =
    StopsAtJob wrote (run_job_in table) (ExplainsTable command table) (λ job.
    StopsAt wrote (IsNoImageAt files job.image) (IsImageAt files job.image) (λ image.
    StopsAtResult wrote (certificate_in image.certificate) (accepted_of (Some job.vlen) image)
    (ExplainsAccepted (Some job.vlen) image) (λ accepted.
    StopsAt wrote (λ why. IsUnpassed files job.params (stop_of why)) (ArePassed files job.params)
    (later job accepted))))

-- why it is not started, whatever follows and was written
abbrev pub IsUnstarted : Command → Files → Members → Halt → Type 0
IsUnstarted command files =
    StopsStarting command files (λ written. Unit {0}) (λ job accepted args why. ⊥)
