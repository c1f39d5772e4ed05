-- What subcommands come to over files that are known.
use Rattle.std.specs.Prelude.{◌≡◌, ◌<◌, ◌++◌, ◌∷◌, [], Bool, ℕ, List, get_or, map, Some, None, Ok}
use Rattle.block_checker.specs.Accepted.{AcceptedView}
use Rattle.cert_note.specs.declared.values.Budget.{Budget}
use Rattle.job_file.specs.Needs.{RunJob, TryJob, make_job_in, run_job_in, try_job_in}
use Rattle.job_file.specs.declared.values.MakeJob.{MakeJob}
use Rattle.job_file.specs.declared.values.RunParam.{RunParam}
use Rattle.job_file.specs.declared.values.RunParam.TheVariants as given
use Rattle.region_mem.specs.declared.arguments.Arg.TheVariants as argument
use Rattle.toml.specs.Parse.{parse_document}
use Rattle.endings.specs.Accepted.{accepted_of}
use Rattle.commands.specs.Checks.{IsBudget, bound_line}
use Rattle.endings.specs.Ending.{status_of_end}
use Rattle.commands.specs.Files.{image_in, outs_of}
use Rattle.file_store.specs.Store.{bytes_at}
use Rattle.commands.specs.Makes.{accepted_in, made_of}
use Rattle.commands.specs.Mons.{IsStopped}
use Rattle.commands.specs.Runs.{run_of_job}
use Rattle.commands.specs.Changes.{Exchange}
use Rattle.commands.specs.Tries.{passed_by, trial_of}
use Rattle.commands.specs.Trial.{told_of}
use Rattle.commands.specs.Words.{Argument, Held, ImageView, Members, Status, Text, vlenb_of, Written}
use Rattle.commands.specs.declared.trial.Trial.{Trial}

-- the file is an image that is accepted at its own length, and this line tells its bound
pub record IsBoundOf (file line : List ℕ) : Type 0 where
  pub image : ImageView
  pub spells : image_in file ≡ Ok image
  pub accepted : AcceptedView
  pub passes : accepted_of None image ≡ Ok accepted
  pub budget : Budget
  pub entry : IsBudget accepted budget
  pub told : line ≡ bound_line budget

-- what a place passes, of files that are known
abbrev pub IsGiven : Held → RunParam Text → Argument → Type 0
IsGiven held given.None arg = arg ≡ argument.None
IsGiven held (given.Scalar value) arg = arg ≡ argument.Scalar value
IsGiven held (given.Buffer file out) arg =
    (bytes : List ℕ) × (bytes_at held file ≡ Some bytes) × (arg ≡ argument.Buffer bytes)

-- the image that the file at a path spells
abbrev pub IsImageOf : Held → Text → ImageView → Type 0
IsImageOf held path image =
    (file : List ℕ) × (bytes_at held path ≡ Some file) × (image_in file ≡ Ok image)

-- the table that the file at a path spells
abbrev pub IsTableOf : Held → Text → Members → Type 0
IsTableOf held path table =
    (text : List ℕ) × (bytes_at held path ≡ Some text) × (parse_document text ≡ Some table)

-- what all places pass
abbrev pub AreGiven : Held → List (RunParam Text) → List Argument → Type 0
AreGiven held params args =
    (k : ℕ) → k < 8 → IsGiven held (get_or params k given.None) (get_or args k argument.None)

-- the files are those of before and these behind them, and nothing else changed
abbrev pub Adds : Held → Held → Written → Type 0
Adds was has files = has ≡ record was { files = was.files ++ files }

-- the job's image is accepted, its run on the bytes of the job's files is printed, with the
-- registers or without, and the out files, and no other, have the buffers as the run left them
pub record IsRunOf (registers : Bool) (was has : Held) (path : Text) (old new : List ℕ)
    : Type 0 where
  pub table : Members
  pub spells : IsTableOf was path table
  pub job : RunJob Text
  pub asked : run_job_in table ≡ Some job
  pub image : ImageView
  pub there : IsImageOf was job.image image
  pub accepted : AcceptedView
  pub passes : accepted_of (Some job.vlen) image ≡ Ok accepted
  pub args : List Argument
  pub passed : AreGiven was job.params args
  pub trial : Trial
  pub comes : run_of_job job accepted args ≡ Ok trial
  pub printed : new ≡ old ++ told_of registers trial
  pub files : Adds was has (outs_of job.params trial.args.places)

-- the same of any image, whose run ends by this status
pub record IsTrialOf (registers : Bool) (was has : Held) (path : Text) (old new : List ℕ)
    (s : Status) : Type 0 where
  pub table : Members
  pub spells : IsTableOf was path table
  pub job : TryJob Text
  pub asked : try_job_in table ≡ Some job
  pub image : ImageView
  pub there : IsImageOf was job.image image
  pub args : List Argument
  pub passed : AreGiven was (map passed_by job.params) args
  pub trial : Trial
  pub comes : trial_of job image args ≡ Ok trial
  pub printed : new ≡ old ++ told_of registers trial
  pub files : Adds was has (outs_of (map passed_by job.params) trial.args.places)
  pub status : s ≡ status_of_end trial.end

-- a file with its loop's certificate is accepted, and written, and its bound is printed
pub record IsMadeOf (was has : Held) (path job_path out : Text) (old new : List ℕ) : Type 0 where
  pub table : Members
  pub spells : IsTableOf was job_path table
  pub job : MakeJob
  pub asked : make_job_in table ≡ Some job
  pub file : List ℕ
  pub there : bytes_at was path ≡ Some file
  pub bytes : List ℕ
  pub made : made_of job file ≡ Ok bytes
  pub accepted : AcceptedView
  pub passes : accepted_in job bytes ≡ Ok accepted
  pub budget : Budget
  pub entry : IsBudget accepted budget
  pub printed : new ≡ old ++ bound_line budget
  pub files : Adds was has ((out, bytes) ∷ [])

-- the job's image is accepted, the lines of the input are answered on its run, and the out files,
-- and no other, have the buffers as they stand where it is left: `e` is what is read and printed
pub record IsWatchOf (was has : Held) (path : Text) (e : Exchange) : Type 0 where
  pub table : Members
  pub spells : IsTableOf was path table
  pub job : RunJob Text
  pub asked : run_job_in table ≡ Some job
  pub image : ImageView
  pub there : IsImageOf was job.image image
  pub accepted : AcceptedView
  pub passes : accepted_of (Some job.vlen) image ≡ Ok accepted
  pub args : List Argument
  pub passed : AreGiven was job.params args
  pub kept : List Argument
  pub stopped : IsStopped (vlenb_of job.vlen) job.agnostic job.max accepted args e kept
  pub files : Adds was has (outs_of job.params kept)
