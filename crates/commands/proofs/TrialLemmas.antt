-- Parameters and arguments, place by place.
use Rattle.std.proofs.Common.{◌≡◌, ℕ, suc, ◌<◌, Bool, true, false, if◌then◌else◌, List, [], ◌∷◌, length, map, get_or, None, Some, refl, arith}
use Rattle.std.specs.List.{list_all}
use Rattle.std.specs.Borrow.{Bor}
use Rattle.job_file.specs.Job.{Text}
use Rattle.job_file.specs.Needs.{run_param_lent, try_param_lent}
use Rattle.job_file.specs.declared.values.RunParam.{RunParam}
use Rattle.job_file.specs.declared.values.RunParam.TheVariants as given
use Rattle.job_file.specs.declared.values.TryParam.{TryParam}
use Rattle.job_file.specs.declared.values.TryParam.TheVariants as taken
use Rattle.region_mem.specs.Parameter.{Argument, is_valid, parameters_of}
use Rattle.region_mem.specs.declared.arguments.Arg.TheVariants as argument
use Rattle.region_mem.specs.declared.parameter.Param.{Param}
use Rattle.region_mem.specs.declared.parameter.Param.TheVariants as parameter
use Rattle.commands.specs.Tries.{param_for, params_for, passed_by}

-- parameters that are made place by place are the job's
pub params_for-each : (params : List (TryParam (Bor Text))) (args : List Argument) (made : List Param)
    → length params ≡ length made → length args ≡ length made
    → ((k : ℕ) → k < length made → get_or made k parameter.None ≡ param_for (try_param_lent (get_or params k taken.None), get_or args k argument.None))
    → made ≡ params_for (map try_param_lent params) args
unfolding params_for
params_for-each [] [] [] some same at = refl
params_for-each (p ∷ ps) (a ∷ rest) (m ∷ ms) some same at =
    let first : m ≡ param_for (try_param_lent p, a) = at 0 (omega arith) in
    let more = params_for-each ps rest ms (omega (arith, some)) (omega (arith, same)) (λ k below. at (suc k) (omega (arith, below))) in
    rw (first, more) refl
params_for-each [] (a ∷ rest) ms some same at = absurd (omega (arith, some, same))
params_for-each (p ∷ ps) [] ms some same at = absurd (omega (arith, some, same))
params_for-each [] [] (m ∷ ms) some same at = absurd (omega (arith, some, same))
params_for-each (p ∷ ps) (a ∷ rest) [] some same at = absurd (omega (arith, some, same))

-- what `try` passes, place by place
pub passed-each : (params : List (TryParam (Bor Text))) (made : List (RunParam (Bor Text))) → length params ≡ length made
    → ((k : ℕ) → k < length made → run_param_lent (get_or made k given.None) ≡ passed_by (try_param_lent (get_or params k taken.None)))
    → map run_param_lent made ≡ map passed_by (map try_param_lent params)
passed-each [] [] same at = refl
passed-each (p ∷ ps) (m ∷ ms) same at =
    let first : run_param_lent m ≡ passed_by (try_param_lent p) = at 0 (omega arith) in
    let more = passed-each ps ms (omega (arith, same)) (λ k below. at (suc k) (omega (arith, below))) in
    rw (first, more) refl
passed-each [] (m ∷ ms) same at = absurd (omega (arith, same))
passed-each (p ∷ ps) [] same at = absurd (omega (arith, same))

-- parameters that there can be are those that were given
pub parameters_given : (params made : List Param) → parameters_of params ≡ Some made → made ≡ params
unfolding parameters_of
parameters_given params made is = given (list_all is_valid params) is
  where
    given : (valid : Bool) → (if valid then Some params else None) ≡ Some made → made ≡ params
    given true same = cc
    given false same = absurd (let never : None ≡ Some made = same in cc)
