use Rattle.std.proofs.Common.{inr, refl}
use Rattle.sandbox_run.specs.Session.{open_fault}
use Rattle.commands.proofs.CommandLemmas.{handed_on}
use Rattle.commands.proofs.MonLemmas.{stopped, unrefused}
use Rattle.commands.proofs.mons.mon_session.Goals as goal

pub returns-in_ok-watch-in-Ok-clause-stopped : goal.returns-in_ok-watch-in-Ok-clause-stopped
returns-in_ok-watch-in-Ok-clause-stopped g c =
    let fault = open_fault g.row.VLENB c.args.ready.now.accepted c.args.args.places c.args.ready.now.job.max in
    stopped g.row.VLENB c.args.ready.now.job.agnostic c.args.ready.now.job.max c.args.ready.now.accepted c.args.args.places fault _ c.in-Ok.session c.watch.new.session c.close.result.places
    refl c.in-Ok.ensures.refused c.in-Ok.ensures.opened c.in_ok-watch-in-Ok.ensures.talks c.in_ok-watch-in-Ok.ensures.heard c.in_ok-watch-in-Ok.ensures.first c.stands.ensures.stop c.close.ensures.places

pub returns-in_err-watch-in-Ok-clause-stopped : goal.returns-in_err-watch-in-Ok-clause-stopped
returns-in_err-watch-in-Ok-clause-stopped g c =
    handed_on _ _ _ _ c.from_residual.ensures.1 (inr (record {
      opens = unrefused _ c.in-Ok.ensures.refused;
      opened = c.in-Ok.session;
      begins = c.in-Ok.ensures.opened;
      unanswered = c.in_err-watch-in-Ok.ensures.unanswered;
    }))

pub returns-in_ok-watch-in-Ok-clause-few : goal.returns-in_ok-watch-in-Ok-clause-few
returns-in_ok-watch-in-Ok-clause-few g c = c.watch.ensures.few

pub returns-in_ok-watch-in-Ok-clause-passed : goal.returns-in_ok-watch-in-Ok-clause-passed
returns-in_ok-watch-in-Ok-clause-passed g c = c.in_ok-watch-in-Ok.ensures.passed

pub returns-in_err-watch-in-Ok-clause-few : goal.returns-in_err-watch-in-Ok-clause-few
returns-in_err-watch-in-Ok-clause-few g c = c.watch.ensures.few
