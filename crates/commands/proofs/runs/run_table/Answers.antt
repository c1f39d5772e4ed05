use Rattle.std.proofs.Common.{None, inl, refl}
use Rattle.job_file.specs.Needs.{run_job_lent}
use Rattle.file_store.specs.Store.{files_of}
use Rattle.job_reasons.specs.declared.job.Command.TheVariants as command
use Rattle.commands.specs.Runs.{StopsRan, run_of_job}
use Rattle.endings.specs.Why.{ExplainsRun}
use Rattle.endings.specs.Streams.{stream}
use Rattle.commands.specs.Changes.{Wrote, change}
use Rattle.commands.proofs.CommandLemmas.{finished, handed_on, or_ok, stops_finished, stops_started, unstarted}
use Rattle.commands.specs.WrittenLemmas.{nothing}
use Rattle.commands.proofs.WhyLemmas.{memory_opened}
use Rattle.commands.proofs.runs.run_table.Goals as goal

pub returns-in_err-ready-clause-done : goal.returns-in_err-ready-clause-done
returns-in_err-ready-clause-done g c =
    handed_on _ _ _ _ c.from_residual.ensures.1 (unstarted command.Run (files_of (g.S.Store.held c.args.store.now)) (Wrote (change (g.S.Store.held c.args.store.now) (g.S.Store.held c.started.new.store) (stream (g.O.Sink.contents c.args.output.now) (g.O.Sink.failures c.args.output.now)) (stream (g.O.Sink.contents c.args.output.now) (g.O.Sink.failures c.args.output.now)))) (StopsRan (files_of (g.S.Store.held c.args.store.now)) c.args.registers (change (g.S.Store.held c.args.store.now) (g.S.Store.held c.started.new.store) (stream (g.O.Sink.contents c.args.output.now) (g.O.Sink.failures c.args.output.now)) (stream (g.O.Sink.contents c.args.output.now) (g.O.Sink.failures c.args.output.now)))) _ _ c.in_err-ready.ensures.start (nothing _ _ c.in_err-ready.ensures.files, refl))

pub returns-in_err-trial-clause-done : goal.returns-in_err-trial-clause-done
returns-in_err-trial-clause-done g c =
    handed_on _ _ _ _ c.from_residual-in_err-trial.ensures.1 (stops_started command.Run (files_of (g.S.Store.held c.args.store.now)) (Wrote (change (g.S.Store.held c.args.store.now) (g.S.Store.held c.started.new.store) (stream (g.O.Sink.contents c.args.output.now) (g.O.Sink.failures c.args.output.now)) (stream (g.O.Sink.contents c.args.output.now) (g.O.Sink.failures c.args.output.now)))) (StopsRan (files_of (g.S.Store.held c.args.store.now)) c.args.registers (change (g.S.Store.held c.args.store.now) (g.S.Store.held c.started.new.store) (stream (g.O.Sink.contents c.args.output.now) (g.O.Sink.failures c.args.output.now)) (stream (g.O.Sink.contents c.args.output.now) (g.O.Sink.failures c.args.output.now)))) _ _ _ _ _ c.in_ok-ready.ensures.start (inl ((c.in_err-trial.ensures.answer, c.in_err-trial.ensures.told), (nothing _ _ c.in_ok-ready.ensures.files, refl))))

pub returns-clause-done : goal.returns-clause-done
returns-clause-done g c =
    let job = run_job_lent c.in_ok-ready.field-0.ready.job in
    let accepted = c.in_ok-ready.field-0.ready.accepted in
    let args = c.in_ok-ready.field-0.args.places in
    let old = (stream (g.O.Sink.contents c.args.output.now) (g.O.Sink.failures c.args.output.now)) in
    let new = (stream (g.O.Sink.contents c.finish.new.output) (g.O.Sink.failures c.finish.new.output)) in
    let left = (change (g.S.Store.held c.args.store.now) (g.S.Store.held c.finish.new.store) old new) in
    finished old new left.was _ left.has _ job.params c.args.registers c.in_ok-trial.trial None c.finish.result _ _ refl c.in_ok-ready.ensures.files c.finish.ensures.done
    (λ did so. record {
      job = job;
      accepted = accepted;
      args = args;
      started = c.in_ok-ready.ensures.start;
      trial = c.in_ok-trial.trial;
      comes = or_ok (run_of_job job accepted args) c.in_ok-trial.trial c.in_ok-trial.ensures.answer;
      finished = so;
    })
    (λ why so. stops_started command.Run (files_of left.was) (Wrote left) (StopsRan (files_of left.was) c.args.registers left) _ _ _ _ _ c.in_ok-ready.ensures.start (stops_finished (files_of left.was) left c.args.registers job.params (run_of_job job accepted args) (ExplainsRun job.max accepted args) c.in_ok-trial.trial why c.in_ok-trial.ensures.answer (memory_opened _ _ _ _ _) so))
