use Rattle.std.proofs.Common.{inl, inr, refl, Err, MatchResult, Option, subst}
use Rattle.toml.specs.View.{table_view}
use Rattle.file_store.specs.Store.{files_of}
use Rattle.commands.specs.Makes.{Makes, StopsMake}
use Rattle.endings.specs.Streams.{stream}
use Rattle.commands.specs.Changes.{change}
use Rattle.file_store.specs.Written.{Held}
use Rattle.commands.proofs.CommandLemmas.{did_so, ends_as, ends_by}
use Rattle.commands.specs.WrittenLemmas.{nothing}
use Rattle.commands.proofs.makes.make_image.Goals as goal

pub returns-in-Ok-clause-ends : goal.returns-in-Ok-clause-ends
returns-in-Ok-clause-ends g c =
    let has = g.S.Store.held c.make_table-done.new.store in
    let old = (stream (g.O.Sink.contents c.args.output.now) (g.O.Sink.failures c.args.output.now)) in
    let new = (stream (g.O.Sink.contents c.make_table-done.new.output) (g.O.Sink.failures c.make_table-done.new.output)) in
    let came = subst (λ (h : Option Held). MatchResult c.make_table-done.result
    (Makes (files_of h) c.args.paths.image.now c.args.paths.out.now (table_view c.in-Ok.read) (change h has old new))
    (StopsMake (files_of h) (change h has old new) c.args.paths.image.now c.args.paths.out.now (table_view c.in-Ok.read)))
    c.in-Ok.ensures.files c.make_table-done.ensures.done in
    ends_by c.make_table-done.result _ _ c.ended.ensures.status c.ended.ensures.told came (λ did it. (table_view c.in-Ok.read, c.in-Ok.ensures.table, it)) (λ why it. inr (table_view c.in-Ok.read, c.in-Ok.ensures.table, it))

pub returns-in-Err-clause-ends : goal.returns-in-Err-clause-ends
returns-in-Err-clause-ends g c =
    ends_as (Err c.in-Err.halt) c.ended-in-Err.ensures.status c.ended-in-Err.ensures.told (inl (c.in-Err.ensures.table, (nothing _ _ c.in-Err.ensures.files, refl)))

pub returns-in-Ok-clause-passed : goal.returns-in-Ok-clause-passed
returns-in-Ok-clause-passed g c = did_so c.make_table-done.result _ c.ended.ensures.status c.make_table-done.ensures.passed

pub returns-in-Err-clause-passed : goal.returns-in-Err-clause-passed
returns-in-Err-clause-passed g c = did_so (Err c.in-Err.halt) _ c.ended-in-Err.ensures.status tt
