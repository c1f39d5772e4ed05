-- Adding those that are left gives the whole.
use Rattle.std.proofs.Common.{◌≡◌, ◌≤◌, ◌+◌, length, drop, vec_capacity}
use Rattle.abs_domain.specs.declared.numbers.TheConstants.{MOST_ATOMS}
use Rattle.abs_domain.specs.Orders.{with_orders}
use Rattle.abs_domain.proofs.starts.add_orders.Given as goal

abbrev pub invariant-loop-order : goal.invariant-loop-order
invariant-loop-order g l = record {
  rest : with_orders l.atoms.items (drop l.order-index l.orders) ≡ with_orders l.initial.atoms.items l.orders;
  count : length l.atoms.items ≤ length l.initial.atoms.items + l.order-index;
  grows : length l.initial.atoms.items ≤ length l.atoms.items;
  room : MOST_ATOMS ≤ vec_capacity l.atoms;
}
