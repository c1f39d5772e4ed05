-- Any other error is a refusal of the check, whose reason is told.
use Rattle.std.proofs.Common.{rules}
use Rattle.endings.specs.Why.{IsOfCheck}
use Rattle.endings.proofs.WhyLemmas.{check_told, explained_as}
use Rattle.endings.proofs.why.not_accepted.Goals as goal

pub returns-in-Ok : goal.returns-in-Ok
returns-in-Ok c = record {
  stop = search rules;
  told = explained_as c.explained.result _ (IsOfCheck c.args.refused.now.image c.args.refused.now.certificate c.args.vlen) c.explained.ensures.kept
      (check_told c.args.refused.now.image c.args.refused.now.certificate c.args.vlen c.args.refused.now.error c.args.refused.now.stop c.in-Ok.reason
      c.requires c.in-Ok.ensures.explanation c.in-Ok.ensures.listing c.in-Ok.ensures.wanted);
}
