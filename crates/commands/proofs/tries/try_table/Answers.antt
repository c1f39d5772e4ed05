use Rattle.std.proofs.Common.{◌≡◌, ◌∙◌, ℕ, IfSome, Option, Some, inl, inr, map, refl, subst}
use Rattle.job_file.specs.Needs.{try_job_in, try_job_lent}
use Rattle.toml.specs.View.{table_view}
use Rattle.file_store.specs.Store.{files_of}
use Rattle.endings.specs.Stands.{stand_line, stand_text}
use Rattle.endings.specs.Streams.{stream}
use Rattle.commands.specs.Changes.{change}
use Rattle.commands.specs.Tries.{ExplainsTrial, passed_by, trial_of}
use Rattle.commands.proofs.CommandLemmas.{asked_for, finished, handed_on, or_ok, passed_after, stops_finished, unasked, unpassed_after}
use Rattle.commands.proofs.WhyLemmas.{memory_opened}
use Rattle.commands.specs.WrittenLemmas.{gains_none, nothing}
use Rattle.commands.proofs.tries.try_table.Goals as goal

pub returns-in_err-job-clause-done : goal.returns-in_err-job-clause-done
returns-in_err-job-clause-done g c =
    handed_on _ _ _ _ c.from_residual.ensures.1 (inl ((unasked try_job_lent _ _ _ c.try_job_in.ensures c.in_err-job.ensures.0, c.in_err-job.ensures.1), (gains_none _, refl)))

pub returns-in_err-image-clause-done : goal.returns-in_err-image-clause-done
returns-in_err-image-clause-done g c =
    let asked : try_job_in (table_view c.args.table.now) ≡ Some (try_job_lent c.in_ok-job.job) = asked_for try_job_lent _ _ _ c.try_job_in.ensures c.in_ok-job.ensures in
    handed_on _ _ _ _ c.from_residual-in_err-image.ensures.1 (inr (try_job_lent c.in_ok-job.job, asked, inl (c.in_err-image.ensures.image, (nothing _ _ c.in_err-image.ensures.files, refl))))

pub returns-in_err-args-clause-done : goal.returns-in_err-args-clause-done
returns-in_err-args-clause-done g c =
    let asked : try_job_in (table_view c.args.table.now) ≡ Some (try_job_lent c.in_ok-job.job) = asked_for try_job_lent _ _ _ c.try_job_in.ensures c.in_ok-job.ensures in
    let unpassed = unpassed_after _ _ _ _ _ c.in_ok-image.ensures.files c.passed_params-passed.ensures c.in_err-args.ensures.passed in
    handed_on _ _ _ _ c.from_residual-in_err-args.ensures.1 (inr (try_job_lent c.in_ok-job.job, asked, inr (c.in_ok-image.image, c.in_ok-image.ensures.image, inl (unpassed, (nothing _ _ (c.in_err-args.ensures.files ∙ c.in_ok-image.ensures.files), refl)))))

pub returns-in_err-trial-clause-done : goal.returns-in_err-trial-clause-done
returns-in_err-trial-clause-done g c =
    let asked : try_job_in (table_view c.args.table.now) ≡ Some (try_job_lent c.in_ok-job.job) = asked_for try_job_lent _ _ _ c.try_job_in.ensures c.in_ok-job.ensures in
    let passed = passed_after _ _ _ _ _ c.in_ok-image.ensures.files c.passed_params-passed.ensures c.in_ok-args.ensures.passed in
    handed_on _ _ _ _ c.from_residual-in_err-trial.ensures.1 (inr (try_job_lent c.in_ok-job.job, asked, inr (c.in_ok-image.image, c.in_ok-image.ensures.image, inr (c.in_ok-args.args.places, passed, inl ((c.in_err-trial.ensures.answer, c.in_err-trial.ensures.told), (nothing _ _ (c.in_ok-args.ensures.files ∙ c.in_ok-image.ensures.files), refl))))))

pub returns-clause-done : goal.returns-clause-done
returns-clause-done g c =
    let job = try_job_lent c.in_ok-job.job in
    let image = c.in_ok-image.image in
    let args = c.in_ok-args.args.places in
    let trial = c.in_ok-trial.field-0.trial in
    let asked : try_job_in (table_view c.args.table.now) ≡ Some job = asked_for try_job_lent _ _ _ c.try_job_in.ensures c.in_ok-job.ensures in
    let passed = passed_after _ _ _ _ _ c.in_ok-image.ensures.files c.passed_params-passed.ensures c.in_ok-args.ensures.passed in
    let old = (stream (g.O.Sink.contents c.args.output.now) (g.O.Sink.failures c.args.output.now)) in
    let new = (stream (g.O.Sink.contents c.finish.new.output) (g.O.Sink.failures c.finish.new.output)) in
    let left = (change (g.S.Store.held c.args.store.now) (g.S.Store.held c.finish.new.store) old new) in
    let stands = subst (λ (l : Option ℕ). IfSome c.stand-stand.result (λ at. stand_text at ≡ stand_line image l trial.registers trial.end)) c.in_ok-trial.ensures.last c.stand-stand.ensures.stand in
    finished old new left.was _ left.has _ (map passed_by job.params) c.args.registers trial c.stand-stand.result c.finish.result _ _ c.passed_params-passed.ensures (c.in_ok-args.ensures.files ∙ c.in_ok-image.ensures.files) c.finish.ensures.done
    (λ did so. record {
      job = job;
      asked = asked;
      image = image;
      there = c.in_ok-image.ensures.image;
      args = args;
      passed = passed;
      trial = trial;
      comes = or_ok (trial_of job image args) trial c.in_ok-trial.ensures.answer;
      stand = c.stand-stand.result;
      stands = stands;
      finished = so;
    })
    (λ why so. inr (job, asked, inr (image, c.in_ok-image.ensures.image, inr (args, passed, stops_finished (files_of left.was) left c.args.registers (map passed_by job.params) (trial_of job image args) (ExplainsTrial job args) trial why c.in_ok-trial.ensures.answer (memory_opened _ _ _ _ _) so))))
