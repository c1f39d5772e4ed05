use Rattle.std.proofs.Common.{arith}
use Rattle.std.proofs.lemmas.Result.{err_from_is_err_and}
use Rattle.cert_note.specs.Reading.{many_at}
use Rattle.cert_note.proofs.Loop.{goes_on, ends, is_done}
use Rattle.cert_note.proofs.reading.many_at.Goals as goal

pub returns-in_err-item : goal.returns-in_err-item
returns-in_err-item g c =
    let p = err_from_is_err_and c.from_residual.result c.from_residual.ensures.1 in
    rw (p.1, p.2)
    (ends (g.T.Item.one c.args.context.now) g.T.Item.next c.in_err-item.field-0.0 c.loop.items.items c.args.count c.loop.counter c.loop.from c.loop.rest.now (many_at (g.T.Item.one c.args.context.now) g.T.Item.next c.args.count c.args.first c.args.bytes.now) c.loop-test.true c.in_err-item.ensures c.loop.invariant.0)

pub loop-preserved : goal.loop-preserved
loop-preserved g c =
    let n = c.in_ok-item.item in (
      rw (c.push.ensures.items, c.next-from.ensures)
          (goes_on (g.T.Item.one c.args.context.now) g.T.Item.next c.loop.items.items c.args.count c.loop.counter c.loop.from c.loop.rest.now n c.in_ok-item.after.now (many_at (g.T.Item.one c.args.context.now) g.T.Item.next c.args.count c.args.first c.args.bytes.now) c.loop-test.true c.in_ok-item.ensures c.loop.invariant.0),
      omega (arith, c.push.ensures.len, c.loop.invariant.1),
      c.loop.invariant.2,
    )

pub returns : goal.returns
returns g c =
    is_done (g.T.Item.one c.args.context.now) g.T.Item.next c.loop.items.items c.args.count c.loop.counter c.loop.from c.loop.rest.now (many_at (g.T.Item.one c.args.context.now) g.T.Item.next c.args.count c.args.first c.args.bytes.now) c.loop-test.false c.loop.invariant.0
