use Rattle.std.proofs.Common.{rules, sym, ◌≡◌, false, get_or, map, is_some, Err, Ok, arith}
use Rattle.toml.specs.Data.{get_item}
use Rattle.toml.specs.View.{array_view}
use Rattle.job_file.specs.Job.{all_kept, breach_lent, param_at, param_lent, params_of, places}
use Rattle.job_file.specs.declared.values.JobParam.TheVariants as param
use Rattle.job_file.proofs.JobLemmas.{eight_stopped, eight_there}
use Rattle.std.proofs.lemmas.Grind.{common_steps}
use Rattle.job_file.proofs.params.params_of.Goals as goal

pub returns-in_err-params : goal.returns-in_err-params
unfolding params_of
returns-in_err-params c =
    let no_ninth : is_some (get_item 8 (array_view c.args.items.now)) ≡ false = search rules in
    let passed_up : c.from_residual.result ≡ Err c.in_err-params.field-0.0 = search rules in
    let here : param_at (array_view c.args.items.now) c.loop-place.place ≡ Err (breach_lent c.in_err-params.field-0.0) = search rules in
    let stopped : all_kept (map (param_at (array_view c.args.items.now)) places) ≡ Err (breach_lent c.in_err-params.field-0.0) =
    eight_stopped (λ k. param_lent (get_or c.loop-place.params k param.None)) (param_at (array_view c.args.items.now)) (breach_lent c.in_err-params.field-0.0) c.loop-place.place (search rules) c.loop-place.invariant.filled here in
    rw (passed_up, no_ninth) (sym stopped)

pub returns : goal.returns
unfolding params_of
returns c =
    let no_ninth : is_some (get_item 8 (array_view c.args.items.now)) ≡ false = search rules in
    let there : all_kept (map (param_at (array_view c.args.items.now)) places) ≡ Ok (map param_lent c.loop-place.params) =
    eight_there param_lent (param_at (array_view c.args.items.now)) param.None c.loop-place.params c.loop-place.invariant.eight (λ k below. c.loop-place.invariant.filled k (search rules)) in
    rw no_ninth (sym there)

pub loop-place-preserved : goal.loop-place-preserved
unfolding params_of
loop-place-preserved c = grind (arith, common_steps)
