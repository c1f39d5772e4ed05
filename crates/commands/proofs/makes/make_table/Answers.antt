use Rattle.std.proofs.Common.{◌≡◌, ◌∙◌, Some, inl, inr, refl, sym}
use Rattle.std.proofs.lemmas.Result.{MatchResult-weaker}
use Rattle.job_file.specs.Needs.{make_job_in}
use Rattle.toml.specs.View.{table_view}
use Rattle.commands.specs.Files.{image_in}
use Rattle.commands.specs.Makes.{accepted_in, made_for}
use Rattle.commands.proofs.CommandLemmas.{handed_on, made_whole, or_ok, unasked_self, want_ok}
use Rattle.commands.specs.WrittenLemmas.{gains_after, gains_none, nothing, unwritten_now}
use Rattle.commands.proofs.makes.make_table.Goals as goal

pub returns-in_err-job-clause-done : goal.returns-in_err-job-clause-done
returns-in_err-job-clause-done g c =
    handed_on _ _ _ _ c.from_residual.ensures.1 (inl ((unasked_self _ _ _ c.make_job_in.ensures c.in_err-job.ensures.0, c.in_err-job.ensures.1), (gains_none _, refl)))

pub returns-in_err-file-clause-done : goal.returns-in_err-file-clause-done
returns-in_err-file-clause-done g c =
    let asked : make_job_in (table_view c.args.table.now) ≡ Some c.in_ok-job.job = sym c.make_job_in.ensures ∙ c.in_ok-job.ensures in
    handed_on _ _ _ _ c.from_residual-in_err-file.ensures.1 (inr (c.in_ok-job.job, asked, inl (c.in_err-file.ensures.bytes, (nothing _ _ c.in_err-file.ensures.files, refl))))

pub returns-in_err-image-clause-done : goal.returns-in_err-image-clause-done
returns-in_err-image-clause-done g c =
    let asked : make_job_in (table_view c.args.table.now) ≡ Some c.in_ok-job.job = sym c.make_job_in.ensures ∙ c.in_ok-job.ensures in
    handed_on _ _ _ _ c.from_residual-in_err-image.ensures.1 (inr (c.in_ok-job.job, asked, inr (c.in_ok-file.file.items, c.in_ok-file.ensures.bytes, inl (rw (← c.as_slice.ensures.value) (c.in_err-image.ensures.image, c.in_err-image.ensures.told), (nothing _ _ c.in_ok-file.ensures.files, refl)))))

pub returns-in_err-bytes-clause-done : goal.returns-in_err-bytes-clause-done
returns-in_err-bytes-clause-done g c =
    let asked : make_job_in (table_view c.args.table.now) ≡ Some c.in_ok-job.job = sym c.make_job_in.ensures ∙ c.in_ok-job.ensures in
    let image = or_ok (image_in c.as_slice.result.now) c.in_ok-image.image c.in_ok-image.ensures.image in
    handed_on _ _ _ _ c.from_residual-in_err-bytes.ensures.1 (inr (c.in_ok-job.job, asked, inr (c.in_ok-file.file.items, c.in_ok-file.ensures.bytes, inr (c.in_ok-image.image, rw (← c.as_slice.ensures.value) image, inl (rw (← c.as_slice-2.ensures.value) ((c.in_err-bytes.ensures.certificate, c.in_err-bytes.ensures.answer), c.in_err-bytes.ensures.told), (nothing _ _ c.in_ok-file.ensures.files, refl))))))

pub returns-in_err-read_back-clause-done : goal.returns-in_err-read_back-clause-done
returns-in_err-read_back-clause-done g c =
    let asked : make_job_in (table_view c.args.table.now) ≡ Some c.in_ok-job.job = sym c.make_job_in.ensures ∙ c.in_ok-job.ensures in
    let image = or_ok (image_in c.as_slice.result.now) c.in_ok-image.image c.in_ok-image.ensures.image in
    let made = want_ok (made_for c.in_ok-job.job c.as_slice-2.result.now c.in_ok-image.image) c.in_ok-bytes.bytes.items c.in_ok-bytes.ensures.answer in
    handed_on _ _ _ _ c.from_residual-in_err-read_back.ensures.1 (inr (c.in_ok-job.job, asked, inr (c.in_ok-file.file.items, c.in_ok-file.ensures.bytes, inr (c.in_ok-image.image, rw (← c.as_slice.ensures.value) image, inr (c.in_ok-bytes.bytes.items, rw (← c.as_slice-2.ensures.value) made, inl (rw (← c.as_slice-3.ensures.value) ((c.in_err-read_back.ensures.image, c.in_err-read_back.ensures.answer), c.in_err-read_back.ensures.told), (nothing _ _ c.in_ok-file.ensures.files, refl)))))))

pub returns-in_err-write-clause-done : goal.returns-in_err-write-clause-done
returns-in_err-write-clause-done g c =
    let asked : make_job_in (table_view c.args.table.now) ≡ Some c.in_ok-job.job = sym c.make_job_in.ensures ∙ c.in_ok-job.ensures in
    let image = or_ok (image_in c.as_slice.result.now) c.in_ok-image.image c.in_ok-image.ensures.image in
    let made = want_ok (made_for c.in_ok-job.job c.as_slice-2.result.now c.in_ok-image.image) c.in_ok-bytes.bytes.items c.in_ok-bytes.ensures.answer in
    let accepted = want_ok (accepted_in c.in_ok-job.job c.as_slice-3.result.now) c.in_ok-read_back.field-0 c.in_ok-read_back.ensures.answer in
    let why = unwritten_now _ _ _ _ c.in_ok-file.ensures.files c.in_err-write.ensures.1 in
    handed_on _ _ _ _ c.from_residual-in_err-write.ensures.1 (inr (c.in_ok-job.job, asked, inr (c.in_ok-file.file.items, c.in_ok-file.ensures.bytes, inr (c.in_ok-image.image, rw (← c.as_slice.ensures.value) image, inr (c.in_ok-bytes.bytes.items, rw (← c.as_slice-2.ensures.value) made, inr (c.in_ok-read_back.field-0, rw (← c.as_slice-3.ensures.value) accepted, inl (why, (nothing _ _ (c.in_err-write.ensures.0 ∙ c.in_ok-file.ensures.files), refl))))))))

pub returns-clause-done : goal.returns-clause-done
returns-clause-done g c =
    let asked : make_job_in (table_view c.args.table.now) ≡ Some c.in_ok-job.job = sym c.make_job_in.ensures ∙ c.in_ok-job.ensures in
    let image = or_ok (image_in c.as_slice.result.now) c.in_ok-image.image c.in_ok-image.ensures.image in
    let made = want_ok (made_for c.in_ok-job.job c.as_slice-2.result.now c.in_ok-image.image) c.in_ok-bytes.bytes.items c.in_ok-bytes.ensures.answer in
    let accepted = want_ok (accepted_in c.in_ok-job.job c.as_slice-3.result.now) c.in_ok-read_back.field-0 c.in_ok-read_back.ensures.answer in
    let wrote = gains_after _ _ _ _ c.in_ok-file.ensures.files (rw (← c.as_slice-4.ensures.value) c.in_ok-write.ensures) in
    MatchResult-weaker c.print_bound.result c.print_bound.ensures.told
    (λ did so. record {
      job = c.in_ok-job.job;
      asked = asked;
      file = c.in_ok-file.file.items;
      there = c.in_ok-file.ensures.bytes;
      bytes = c.in_ok-bytes.bytes.items;
      made = made_whole c.in_ok-job.job c.in_ok-file.file.items c.in_ok-image.image _ (rw (← c.as_slice.ensures.value) image) (rw (← c.as_slice-2.ensures.value) made);
      accepted = c.in_ok-read_back.field-0;
      passes = rw (← c.as_slice-3.ensures.value) accepted;
      wrote = wrote;
      budget = c.budget-budget.result;
      entry = c.budget-budget.ensures;
      told = so.0;
      done = so.1;
    })
    (λ why so. inr (c.in_ok-job.job, asked, inr (c.in_ok-file.file.items, c.in_ok-file.ensures.bytes, inr (c.in_ok-image.image, rw (← c.as_slice.ensures.value) image, inr (c.in_ok-bytes.bytes.items, rw (← c.as_slice-2.ensures.value) made, inr (c.in_ok-read_back.field-0, rw (← c.as_slice-3.ensures.value) accepted, inr (c.budget-budget.result, c.budget-budget.ensures, so.0, (wrote, so.1))))))))
