use Rattle.std.proofs.Common.{None, inl, inr, refl}
use Rattle.std.proofs.lemmas.Result.{MatchResult-weaker}
use Rattle.endings.specs.Accepted.{accepted_of}
use Rattle.commands.proofs.CommandLemmas.{handed_on, want_ok}
use Rattle.commands.specs.WrittenLemmas.{nothing}
use Rattle.commands.proofs.checks.check_at.Goals as goal

pub returns-in_err-image-clause-done : goal.returns-in_err-image-clause-done
returns-in_err-image-clause-done g c =
    handed_on _ _ _ _ c.from_residual.ensures.1 (inl (c.in_err-image.ensures.image, (nothing _ _ c.in_err-image.ensures.files, refl)))

pub returns-in_err-accept-clause-done : goal.returns-in_err-accept-clause-done
returns-in_err-accept-clause-done g c =
    handed_on _ _ _ _ c.from_residual-in_err-accept.ensures.1 (inr (c.in_ok-image.image, c.in_ok-image.ensures.image, inl (((c.in_err-accept.ensures.certificate, c.in_err-accept.ensures.answer), c.in_err-accept.ensures.told), (nothing _ _ c.in_ok-image.ensures.files, refl))))

pub returns-clause-done : goal.returns-clause-done
returns-clause-done g c =
    let accepted = c.in_ok-accept.field-0 in
    let passes = want_ok (accepted_of None c.in_ok-image.image) accepted c.in_ok-accept.ensures.answer in
    MatchResult-weaker c.print_bound.result c.print_bound.ensures.told
    (λ did so. record {
      image = c.in_ok-image.image;
      there = c.in_ok-image.ensures.image;
      accepted = accepted;
      passes = passes;
      budget = c.budget-budget.result;
      entry = c.budget-budget.ensures;
      wrote = nothing _ _ c.in_ok-image.ensures.files;
      told = so.0;
      done = so.1;
    })
    (λ why so. inr (c.in_ok-image.image, c.in_ok-image.ensures.image, inr (accepted, passes, (c.budget-budget.result, c.budget-budget.ensures, so.0, (nothing _ _ c.in_ok-image.ensures.files, so.1)))))
