-- What `try` does.
use Rattle.std.specs.Prelude.{◌≡◌, ◌-◌, ◌^◌, Bool, ℕ, min, List, length, map, Option, Some, None, IfSome, Result, Ok, Err}
use Rattle.std.specs.List.{zip}
use Rattle.std.specs.Result.{result_map_both}
use Rattle.job_file.specs.Needs.{try_job_in}
use Rattle.job_file.specs.declared.values.JobError.TheVariants.{BadKey}
use Rattle.job_file.specs.declared.values.RunParam.{RunParam}
use Rattle.job_file.specs.declared.values.RunParam.TheVariants as given
use Rattle.job_file.specs.Needs.{TryJob}
use Rattle.job_file.specs.declared.values.TryParam.{TryParam}
use Rattle.job_file.specs.declared.values.TryParam.TheVariants as taken
use Rattle.job_reasons.specs.declared.job.Command.TheVariants as command
use Rattle.region_mem.specs.Parameter.{argument_error, parameters_of}
use Rattle.region_mem.specs.declared.arguments.Arg.TheVariants as argument
use Rattle.region_mem.specs.declared.parameter.ArgError.{ArgError}
use Rattle.region_mem.specs.declared.parameter.Param.{Param}
use Rattle.region_mem.specs.declared.parameter.Param.TheVariants as parameter
use Rattle.sandbox_run.specs.Answer.{last_pc}
use Rattle.sandbox_run.specs.Errors.{open_error_of}
use Rattle.commands.specs.Files.{ArePassed, IsImageAt, IsNoImageAt, IsUnpassed}
use Rattle.file_store.specs.Store.{Files}
use Rattle.endings.specs.Halt.{stop_of}
use Rattle.endings.specs.Stands.{stand_line, stand_text}
use Rattle.commands.specs.Steps.{StopsAt, StopsAtJob}
use Rattle.commands.specs.Changes.{Change, Wrote}
use Rattle.commands.specs.Trial.{IsFinished, StopsAtTrial, trial_from}
use Rattle.endings.specs.Why.{ExplainsOpened, ExplainsTable}
use Rattle.commands.specs.Words.{Agnostic, Argument, Halt, ImageView, Machine, Members, start, Stop, Text, vlenb_of}
use Rattle.endings.specs.declared.did.Did.{Did}
use Rattle.endings.specs.declared.stands.Stand.{Stand}
use Rattle.endings.specs.declared.stop.Stop.TheVariants as stop
use Rattle.commands.specs.declared.trial.Trial.{Trial}
use Rattle.commands.specs.declared.tries.Tried.{Tried}

-- ---- a run

-- arguments that do not match the parameters are refused, and else the run starts
abbrev pub started : ℕ → Agnostic → ℕ → ImageView → List Argument → List Param → Option ArgError
    → Result Trial Stop
started vlenb agnostic max image args params (Some error) = Err (stop.Open (open_error_of error))
started vlenb agnostic max image args params None =
    Ok (trial_from vlenb max (start vlenb agnostic image params args))

abbrev pub run_of : ℕ → Agnostic → ℕ → ImageView → List Argument → List Param → Result Trial Stop
run_of vlenb agnostic max image args params =
    started vlenb agnostic max image args params (argument_error params args)

-- ---- a job's run

-- how many bytes are passed at a place, where 32 bits hold the number
abbrev pub passed_size : Argument → ℕ
passed_size argument.None = 0
passed_size (argument.Scalar value) = 0
passed_size (argument.Buffer bytes) = min (length bytes) (2 ^ 32 - 1)

-- the parameter of a place: a scalar may have the job's one value, and a buffer has the size
-- of what is passed
abbrev pub param_for : TryParam Text × Argument → Param
param_for (taken.None, arg) = parameter.None
param_for (taken.Scalar value, arg) = parameter.Scalar value value
param_for (taken.Buffer mode file out, arg) = parameter.Buffer mode (passed_size arg)

unfoldable pub params_for : List (TryParam Text) → List Argument → List Param
params_for params args = map param_for (zip params args)

-- the run at the job's VLEN and setting, for at most its number of steps
abbrev pub with_parameters : TryJob Text → ImageView → List Argument → Option (List Param)
    → Result Trial Stop
with_parameters job image args None = Err (stop.Job BadKey)
with_parameters job image args (Some params) =
    run_of (vlenb_of job.vlen) job.agnostic job.max image args params

-- what comes of a job on an image and arguments, or the reason to stop
abbrev pub trial_of : TryJob Text → ImageView → List Argument → Result Trial Stop
trial_of job image args =
    with_parameters job image args (parameters_of (params_for job.params args))

-- the state in which the run of a job begins
abbrev pub begins : TryJob Text → ImageView → List Argument → Machine
begins job image args =
    start (vlenb_of job.vlen) job.agnostic image (params_for job.params args) args

-- pc of the state before the last of this number of steps of it, if there was one
abbrev pub last_of : TryJob Text → ImageView → List Argument → ℕ → Option ℕ
last_of job image args = last_pc (vlenb_of job.vlen) (begins job image args)

-- what came of a run, or the reason to stop
abbrev pub bare_tried : Result Tried Halt → Result Trial Stop
bare_tried answer = result_map_both (λ tried. tried.trial) stop_of answer

-- ---- what is passed

-- what a parameter of `try` passes, as one of `run` does
abbrev pub passed_by : TryParam Text → RunParam Text
passed_by taken.None = given.None
passed_by (taken.Scalar value) = given.Scalar value
passed_by (taken.Buffer mode file out) = given.Buffer file out

-- ---- what is done: `c` is what is left

-- `try` on a job's table: what comes of the job on its image is printed, with the registers or
-- without, and the out files of all places were written with the buffers as the run left them. The
-- explanation is how the run ended, where it stands and why, or nothing
pub record Tries (files : Files) (registers : Bool) (table : Members) (c : Change) (d : Did)
    : Type 0 where
  pub job : TryJob Text
  pub asked : try_job_in table ≡ Some job
  pub image : ImageView
  pub there : IsImageAt files job.image image
  pub args : List Argument
  pub passed : ArePassed files (map passed_by job.params) args
  pub trial : Trial
  pub comes : trial_of job image args ≡ Ok trial
  pub stand : Option Stand
  pub stands : IfSome stand (λ at. stand_text at
      ≡ stand_line image (last_of job image args trial.steps) trial.registers trial.end)
  pub finished : IsFinished c registers (map passed_by job.params) trial stand d

-- ---- why it stops

-- why no run of a job on these arguments starts: such a run has no bound
abbrev pub ExplainsTrial : TryJob Text → List Argument → Halt → Type 0
ExplainsTrial job args = ExplainsOpened (params_for job.params args) args 0 job.max

-- `try` on a job's table: it asks for no job, the image or what is passed is not read, no
-- run starts, or its outcome is not written or told
abbrev pub StopsTry : Files → Bool → Change → Members → Halt → Type 0
StopsTry files registers c table =
    StopsAtJob (Wrote c) (try_job_in table) (ExplainsTable command.Try table) (λ job.
    let params = map passed_by job.params in
    StopsAt (Wrote c) (IsNoImageAt files job.image) (IsImageAt files job.image) (λ image.
    StopsAt (Wrote c) (λ why. IsUnpassed files params (stop_of why)) (ArePassed files params)
    (λ args. StopsAtTrial files c registers params (trial_of job image args)
    (ExplainsTrial job args))))
