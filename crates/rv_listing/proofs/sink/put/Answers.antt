use Rattle.std.proofs.Common.{◌<◌, length, ◌-◌, take, drop, refl, arith}
use Rattle.std.proofs.lemmas.List.{length-drop}
use Rattle.rv_listing.specs.SinkLemmas.{appends_more, appends_some, counted_is, none_taken, none_more, same_count, rest_is}
use Rattle.rv_listing.specs.declared.sink.Failed.{Failed}
use Rattle.rv_listing.proofs.sink.put.Goals as goal

pub returns-in-Ok-eq0 : goal.returns-in-Ok-eq0
returns-in-Ok-eq0 g c =
    let rest = rest_is c.args.text.now c.writing.done in
    let some : 0 < length (drop c.writing.done c.args.text.now) = omega (arith, length-drop c.writing.done c.args.text.now, c.writing-test.true) in
    let fails = none_taken Failed c.in-Ok-eq0.field-0 (take (length c.args.text.now - c.writing.done) (drop c.writing.done c.args.text.now)) c.in-Ok-eq0.field-0-test (rw rest some) in (
      none_more _ _ _ c.args.text.now c.writing.done c.in-Ok-eq0.field-0 _ c.writing.invariant.told c.in-Ok-eq0.field-0-test c.in-Ok-eq0.ensures.bytes,
      counted_is _ _ _ _ c.in-Ok-eq0.ensures.counts c.writing.invariant.same fails,
    )

pub writing-preserved : goal.writing-preserved
writing-preserved g c =
    let rest = rest_is c.args.text.now c.writing.done in
    let bound = rw rest at c.in-Ok.ensures.bound in
    let bytes = rw rest at c.in-Ok.ensures.bytes in
    record {
      within = omega (arith, bound, length-drop c.writing.done c.args.text.now, c.writing.invariant.within);
      told = appends_more _ _ _ c.args.text.now c.writing.done c.in-Ok.n c.writing.invariant.told bytes;
      same = same_count Failed c.in-Ok.n _ _ _ _ c.in-Ok.n-test.1 c.in-Ok.ensures.counts c.writing.invariant.same;
    }

pub returns-in-Err : goal.returns-in-Err
returns-in-Err g c = (
  appends_some _ _ _ c.args.text.now c.writing.done c.writing.invariant.told c.in-Err.ensures.bytes,
  counted_is _ _ _ _ c.in-Err.ensures.counts c.writing.invariant.same refl,
)
