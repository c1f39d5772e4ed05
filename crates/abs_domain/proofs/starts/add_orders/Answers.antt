-- Each order makes one atom more at most.
use Rattle.std.proofs.Common.{arith, ◌∙◌, ◌+◌, sym, ap, drop}
use Rattle.abs_domain.specs.Orders.{with_orders}
use Rattle.abs_domain.specs.OrderStartLemmas.{order_at_place, orders_more, orders_done}
use Rattle.abs_domain.proofs.starts.add_orders.Goals as goal

pub add_order-requires-clause-greater : goal.add_order-requires-clause-greater
add_order-requires-clause-greater g c =
    omega (arith, order_at_place c.args.orders.now c.loop-order.order-index record { greater = 0; lesser = 0 } c.requires.greater c.loop-order-test.true, c.requires.many, c.loop-order.invariant.grows)

pub loop-order-preserved : goal.loop-order-preserved
loop-order-preserved g c = record {
  rest =
      ap (λ l. with_orders l (drop (c.loop-order.order-index + 1) c.args.orders.now)) c.add_order.ensures.atoms
      ∙ (sym (orders_more c.loop-order.atoms.items c.args.orders.now c.loop-order.order-index record { greater = 0; lesser = 0 } c.loop-order-test.true)
      ∙ c.loop-order.invariant.rest);
  count = omega (arith, c.add_order.ensures.count, c.loop-order.invariant.count);
  grows = omega (arith, c.add_order.ensures.grows, c.loop-order.invariant.grows);
  room = c.add_order.ensures.room;
}

pub returns-clause-atoms : goal.returns-clause-atoms
returns-clause-atoms g c = sym (orders_done _ _ _ c.loop-order-test.false) ∙ c.loop-order.invariant.rest
