-- What a subcommand takes of a job, or none where the job lacks a key that it needs.
use Rattle.std.specs.Prelude.{ℕ, List, map, Option, Some, option_map, option_and_then}
use Rattle.std.specs.Borrow.{Bor}
use Rattle.toml.specs.Data.{Members}
use Rattle.job_file.specs.Job.{Text, all_there, job_of}
use Rattle.job_file.specs.declared.values.Job.{Job}
use Rattle.job_file.specs.declared.values.MakeJob.{MakeJob}
use Rattle.job_file.specs.declared.values.JobParam.{JobParam}
use Rattle.job_file.specs.declared.values.JobParam.TheVariants as param
use Rattle.job_file.specs.declared.values.RunnableJob.{RunnableJob}
use Rattle.job_file.specs.declared.values.RunParam.{RunParam}
use Rattle.job_file.specs.declared.values.RunParam.TheVariants as given
use Rattle.job_file.specs.declared.values.TryParam.{TryParam}
use Rattle.job_file.specs.declared.values.TryParam.TheVariants as taken
use Rattle.vreg_groups.specs.declared.policies.Agnostic.{Agnostic}
use Rattle.vreg_groups.specs.declared.vector_length.Vlen.{Vlen}
use Rattle.region_mem.specs.declared.parameter.Param.{Param}
use Rattle.region_mem.specs.declared.parameter.Param.TheVariants as declared

-- ---- a job that can be run

abbrev pub TryJob : Type 0 → Type 0
TryJob T = RunnableJob T (TryParam T)

abbrev pub RunJob : Type 0 → Type 0
RunJob T = RunnableJob T (RunParam T)

-- the job, where all of it is there
abbrev pub runnable : {T P : Type 0} → Option T → Option Vlen → Option Agnostic → Option ℕ
    → Option (List P) → Option (RunnableJob T P)
runnable image vlen agnostic max params = option_and_then (λ image.
    option_and_then (λ vlen. option_and_then (λ agnostic. option_and_then (λ max.
    option_map (λ params. record {
      image = image;
      vlen = vlen;
      agnostic = agnostic;
      max = max;
      params = params;
    }) params) max) agnostic) vlen) image

-- what is taken of each parameter, where it is there
unfoldable pub taken_of : {P : Type 0} → (JobParam Text → Option P) → List (JobParam Text)
    → Option (List P)
taken_of take params = all_there (map take params)

-- what is taken of a job that can be run
abbrev pub runnable_of : {P : Type 0} → (JobParam Text → Option P) → Job Text
    → Option (RunnableJob Text P)
runnable_of take j = runnable j.image j.vlen j.agnostic j.max (taken_of take j.params)

-- ---- `try`: it needs `image`, `vlen`, `agnostic`, `max`, each scalar's `value` and each buffer's
-- `mode` and `file`

abbrev pub try_param_of : JobParam Text → Option (TryParam Text)
try_param_of param.None = Some taken.None
try_param_of (param.Scalar lo hi value) = option_map taken.Scalar value
try_param_of (param.Buffer mode size file out) =
    option_and_then (λ mode. option_map (λ file. taken.Buffer mode file out) file) mode

abbrev pub try_job_of : Job Text → Option (TryJob Text)
try_job_of j = runnable_of try_param_of j

-- what `try` takes of a job's table
abbrev pub try_job_in : Members → Option (TryJob Text)
try_job_in ms = option_and_then try_job_of (job_of ms)

-- ---- `run`: it needs `image`, `vlen`, `agnostic`, `max`, each scalar's `value` and each
-- buffer's `file`

abbrev pub run_param_of : JobParam Text → Option (RunParam Text)
run_param_of param.None = Some given.None
run_param_of (param.Scalar lo hi value) = option_map given.Scalar value
run_param_of (param.Buffer mode size file out) = option_map (λ file. given.Buffer file out) file

abbrev pub run_job_of : Job Text → Option (RunJob Text)
run_job_of j = runnable_of run_param_of j

-- what `run` takes of a job's table
abbrev pub run_job_in : Members → Option (RunJob Text)
run_job_in ms = option_and_then run_job_of (job_of ms)

-- ---- `make`: it needs `vlen`, each scalar's `lo` and `hi` and each buffer's `mode` and `size`

abbrev pub make_param_of : JobParam Text → Option Param
make_param_of param.None = Some declared.None
make_param_of (param.Scalar lo hi value) =
    option_and_then (λ lo. option_map (λ hi. declared.Scalar lo hi) hi) lo
make_param_of (param.Buffer mode size file out) =
    option_and_then (λ mode. option_map (λ size. declared.Buffer mode size) size) mode

abbrev pub make_job_of : Job Text → Option MakeJob
make_job_of j = option_and_then (λ vlen. option_map (λ params. record {
  vlen = vlen;
  params = params;
}) (taken_of make_param_of j.params)) j.vlen

-- what `make` takes of a job's table
abbrev pub make_job_in : Members → Option MakeJob
make_job_in ms = option_and_then make_job_of (job_of ms)

-- ---- the same with texts that are lent

abbrev pub runnable_lent : {P Q : Type 0} → (P → Q) → RunnableJob (Bor Text) P
    → RunnableJob Text Q
runnable_lent lent j = record {
  image = j.image.now;
  vlen = j.vlen;
  agnostic = j.agnostic;
  max = j.max;
  params = map lent j.params;
}

abbrev pub try_param_lent : TryParam (Bor Text) → TryParam Text
try_param_lent taken.None = taken.None
try_param_lent (taken.Scalar value) = taken.Scalar value
try_param_lent (taken.Buffer mode file out) =
    taken.Buffer mode file.now (option_map (λ s. s.now) out)

abbrev pub try_job_lent : TryJob (Bor Text) → TryJob Text
try_job_lent j = runnable_lent try_param_lent j

abbrev pub run_param_lent : RunParam (Bor Text) → RunParam Text
run_param_lent given.None = given.None
run_param_lent (given.Scalar value) = given.Scalar value
run_param_lent (given.Buffer file out) = given.Buffer file.now (option_map (λ s. s.now) out)

abbrev pub run_job_lent : RunJob (Bor Text) → RunJob Text
run_job_lent j = runnable_lent run_param_lent j
