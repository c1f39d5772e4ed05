use Rattle.std.proofs.Common.{inl, inr, refl}
use Rattle.job_file.specs.Needs.{run_job_lent}
use Rattle.job_reasons.specs.declared.job.Command.TheVariants as command
use Rattle.file_store.specs.Store.{files_of}
use Rattle.commands.specs.Mons.{BeforeAll, StopsWatched}
use Rattle.endings.specs.Streams.{stream}
use Rattle.commands.specs.Changes.{exchange}
use Rattle.file_store.specs.Sources.{source}
use Rattle.file_store.specs.Written.{Gains}
use Rattle.commands.proofs.CommandLemmas.{handed_on, stops_started, unstarted, unwritten_after}
use Rattle.commands.specs.WrittenLemmas.{gains_after, nothing}
use Rattle.commands.proofs.mons.mon_table.Goals as goal

pub returns-in_err-ready-clause-done : goal.returns-in_err-ready-clause-done
returns-in_err-ready-clause-done g c =
    let was = g.S.Store.held c.args.store.now in
    let e = (exchange (source (g.I.Source.remaining c.args.input.now) (g.I.Source.reads c.args.input.now) (g.I.Source.failures c.args.input.now)) (source (g.I.Source.remaining c.args.input.now) (g.I.Source.reads c.args.input.now) (g.I.Source.failures c.args.input.now)) (stream (g.O.Sink.contents c.args.output.now) (g.O.Sink.failures c.args.output.now)) (stream (g.O.Sink.contents c.args.output.now) (g.O.Sink.failures c.args.output.now))) in
    let wrote = Gains was (g.S.Store.held c.started.new.store) in
    handed_on _ _ _ _ c.from_residual.ensures.1 (unstarted command.Mon (files_of was) (BeforeAll e wrote) (StopsWatched c.args.reads (files_of was) e wrote) _ _ c.in_err-ready.ensures.start (nothing _ _ c.in_err-ready.ensures.files, (refl, refl)))

pub returns-in_err-kept-clause-done : goal.returns-in_err-kept-clause-done
returns-in_err-kept-clause-done g c =
    let was = g.S.Store.held c.args.store.now in
    let e = (exchange (source (g.I.Source.remaining c.args.input.now) (g.I.Source.reads c.args.input.now) (g.I.Source.failures c.args.input.now)) (source (g.I.Source.remaining c.mon_accepted.new.input) (g.I.Source.reads c.mon_accepted.new.input) (g.I.Source.failures c.mon_accepted.new.input)) (stream (g.O.Sink.contents c.args.output.now) (g.O.Sink.failures c.args.output.now)) (stream (g.O.Sink.contents c.mon_accepted.new.output) (g.O.Sink.failures c.mon_accepted.new.output))) in
    let wrote = Gains was (g.S.Store.held c.started.new.store) in
    handed_on _ _ _ _ c.from_residual-in_err-kept.ensures.1 (stops_started command.Mon (files_of was) (BeforeAll e wrote) (StopsWatched c.args.reads (files_of was) e wrote) _ _ _ _ _ c.in_ok-ready.ensures.start (inl (c.in_err-kept.ensures.stopped, nothing _ _ c.in_ok-ready.ensures.files)))

pub returns-in_err-write_outs-clause-done : goal.returns-in_err-write_outs-clause-done
returns-in_err-write_outs-clause-done g c =
    let was = g.S.Store.held c.args.store.now in
    let e = (exchange (source (g.I.Source.remaining c.args.input.now) (g.I.Source.reads c.args.input.now) (g.I.Source.failures c.args.input.now)) (source (g.I.Source.remaining c.mon_accepted.new.input) (g.I.Source.reads c.mon_accepted.new.input) (g.I.Source.failures c.mon_accepted.new.input)) (stream (g.O.Sink.contents c.args.output.now) (g.O.Sink.failures c.args.output.now)) (stream (g.O.Sink.contents c.mon_accepted.new.output) (g.O.Sink.failures c.mon_accepted.new.output))) in
    let wrote = Gains was (g.S.Store.held c.write_outs.new.store) in
    let un = unwritten_after was _ (g.S.Store.held c.write_outs.new.store) _ _ _ c.in_ok-ready.ensures.files c.in_err-write_outs.ensures in
    handed_on _ _ _ _ c.from_residual-in_err-write_outs.ensures.1 (stops_started command.Mon (files_of was) (BeforeAll e wrote) (StopsWatched c.args.reads (files_of was) e wrote) _ _ _ _ _ c.in_ok-ready.ensures.start (inr (c.in_ok-kept.kept.places, c.in_ok-kept.ensures.stopped, un)))

pub returns-clause-done : goal.returns-clause-done
returns-clause-done g c = record {
  job = run_job_lent c.in_ok-ready.field-0.ready.job;
  accepted = c.in_ok-ready.field-0.ready.accepted;
  args = c.in_ok-ready.field-0.args.places;
  started = c.in_ok-ready.ensures.start;
  kept = c.in_ok-kept.kept.places;
  stopped = c.in_ok-kept.ensures.stopped;
  wrote = gains_after _ _ _ _ c.in_ok-ready.ensures.files c.in_ok-write_outs.ensures;
  done = refl;
}
