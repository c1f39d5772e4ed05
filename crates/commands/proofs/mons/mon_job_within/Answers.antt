use Rattle.std.proofs.Common.{inl, inr, refl, Err, MatchResult, Option, subst}
use Rattle.toml.specs.View.{table_view}
use Rattle.file_store.specs.Store.{files_of}
use Rattle.commands.specs.Mons.{Mons, StopsMon}
use Rattle.endings.specs.Streams.{stream}
use Rattle.commands.specs.Changes.{exchange}
use Rattle.file_store.specs.Sources.{source}
use Rattle.file_store.specs.Written.{Gains, Held}
use Rattle.commands.proofs.CommandLemmas.{did_so, ends_as, ends_by}
use Rattle.commands.specs.WrittenLemmas.{nothing}
use Rattle.commands.proofs.mons.mon_job_within.Goals as goal

pub returns-in-Ok-clause-ends : goal.returns-in-Ok-clause-ends
returns-in-Ok-clause-ends g c =
    let has = g.S.Store.held c.mon_table-done.new.store in
    let e = (exchange (source (g.I.Source.remaining c.args.input.now) (g.I.Source.reads c.args.input.now) (g.I.Source.failures c.args.input.now)) (source (g.I.Source.remaining c.mon_table-done.new.input) (g.I.Source.reads c.mon_table-done.new.input) (g.I.Source.failures c.mon_table-done.new.input)) (stream (g.O.Sink.contents c.args.output.now) (g.O.Sink.failures c.args.output.now)) (stream (g.O.Sink.contents c.mon_table-done.new.output) (g.O.Sink.failures c.mon_table-done.new.output))) in
    let came = subst (λ (h : Option Held). MatchResult c.mon_table-done.result
    (Mons (files_of h) (table_view c.in-Ok.read) e h has) (StopsMon c.args.reads (files_of h) e (Gains h has) (table_view c.in-Ok.read)))
    c.in-Ok.ensures.files c.mon_table-done.ensures.done in
    ends_by c.mon_table-done.result _ _ c.ended.ensures.status c.ended.ensures.told came (λ did it. (table_view c.in-Ok.read, c.in-Ok.ensures.table, it)) (λ why it. inr (table_view c.in-Ok.read, c.in-Ok.ensures.table, it))

pub returns-in-Err-clause-ends : goal.returns-in-Err-clause-ends
returns-in-Err-clause-ends g c =
    ends_as (Err c.in-Err.halt) c.ended-in-Err.ensures.status c.ended-in-Err.ensures.told (inl (c.in-Err.ensures.table, (nothing _ _ c.in-Err.ensures.files, (refl, refl))))

pub returns-in-Ok-clause-passed : goal.returns-in-Ok-clause-passed
returns-in-Ok-clause-passed g c was ended =
    did_so c.mon_table-done.result _ c.ended.ensures.status c.mon_table-done.ensures.passed ended was

pub returns-in-Err-clause-passed : goal.returns-in-Err-clause-passed
returns-in-Err-clause-passed g c was = did_so (Err c.in-Err.halt) _ c.ended-in-Err.ensures.status tt
