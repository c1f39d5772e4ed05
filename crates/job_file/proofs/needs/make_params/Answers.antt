use Rattle.std.proofs.Common.{rules, sym}
use Rattle.std.proofs.lemmas.List.{map-id}
use Rattle.region_mem.specs.declared.parameter.Param.TheVariants as declared
use Rattle.job_file.specs.declared.values.JobParam.TheVariants as param
use Rattle.job_file.specs.Job.{param_lent}
use Rattle.job_file.specs.Needs.{make_param_of, taken_of}
use Rattle.job_file.proofs.JobLemmas.{all_there-each_place}
use Rattle.job_file.proofs.needs.make_params.Goals as goal

pub returns : goal.returns
unfolding taken_of
returns c =
    all_there-each_place make_param_of param_lent (λ p. p) param.None declared.None (λ p. p.at) (λ p. sym (map-id p.at)) c.args.params
    c.each_place.result (search rules) c.each_place.ensures.taken c.each_place.ensures.missing
