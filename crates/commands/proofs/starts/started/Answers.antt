use Rattle.std.proofs.Common.{◌≡◌, ◌∙◌, Option, Some, inl, inr, refl, subst}
use Rattle.job_file.specs.Needs.{run_job_in, run_job_lent}
use Rattle.toml.specs.View.{table_view}
use Rattle.endings.specs.Accepted.{accepted_of}
use Rattle.commands.specs.Files.{IsUnpassed}
use Rattle.file_store.specs.Store.{files_of}
use Rattle.endings.specs.Halt.{stop_of}
use Rattle.file_store.specs.Written.{Held}
use Rattle.commands.proofs.CommandLemmas.{asked_for, handed_on, unasked, want_ok}
use Rattle.commands.proofs.starts.started.Goals as goal

pub returns-in_err-job-clause-start : goal.returns-in_err-job-clause-start
returns-in_err-job-clause-start g c =
    handed_on _ _ _ _ c.from_residual.ensures.1 (inl ((unasked run_job_lent _ _ _ c.run_job_in.ensures c.in_err-job.ensures.0, c.in_err-job.ensures.1), tt))

pub returns-in_err-args-clause-start : goal.returns-in_err-args-clause-start
returns-in_err-args-clause-start g c =
    let asked : run_job_in (table_view c.args.table.now) ≡ Some (run_job_lent c.in_ok-job.job) = asked_for run_job_lent _ _ _ c.run_job_in.ensures c.in_ok-job.ensures in
    let unpassed = subst (λ (h : Option Held). IsUnpassed (files_of h) (run_job_lent c.in_ok-job.job).params (stop_of c.in_err-args.field-0.0)) c.in_ok-image.ensures.files c.in_err-args.ensures.passed in
    let passes = want_ok (accepted_of (Some c.in_ok-job.job.vlen) c.in_ok-image.image) c.in_ok-accepted.accepted c.in_ok-accepted.ensures.answer in
    handed_on _ _ _ _ c.from_residual-in_err-args.ensures.1 (inr (run_job_lent c.in_ok-job.job, asked, inr (c.in_ok-image.image, c.in_ok-image.ensures.image, inr (c.in_ok-accepted.accepted, passes, inl (unpassed, tt)))))

pub returns-in_err-accepted-clause-start : goal.returns-in_err-accepted-clause-start
returns-in_err-accepted-clause-start g c =
    let asked : run_job_in (table_view c.args.table.now) ≡ Some (run_job_lent c.in_ok-job.job) = asked_for run_job_lent _ _ _ c.run_job_in.ensures c.in_ok-job.ensures in
    handed_on _ _ _ _ c.from_residual-in_err-accepted.ensures.1 (inr (run_job_lent c.in_ok-job.job, asked, inr (c.in_ok-image.image, c.in_ok-image.ensures.image, inl (((c.in_err-accepted.ensures.certificate, c.in_err-accepted.ensures.answer), c.in_err-accepted.ensures.told), tt))))

pub returns-clause-files : goal.returns-clause-files
returns-clause-files g c = c.in_ok-args.ensures.files ∙ c.in_ok-image.ensures.files

pub returns-in_err-args-clause-files : goal.returns-in_err-args-clause-files
returns-in_err-args-clause-files g c = c.read_args.ensures.files ∙ c.in_ok-image.ensures.files

pub returns-in_err-accepted-clause-files : goal.returns-in_err-accepted-clause-files
returns-in_err-accepted-clause-files g c = c.in_ok-image.ensures.files

pub returns-in_err-image-clause-files : goal.returns-in_err-image-clause-files
returns-in_err-image-clause-files g c = c.read_image.ensures.files

pub returns-in_err-job-clause-files : goal.returns-in_err-job-clause-files
returns-in_err-job-clause-files g c = refl
