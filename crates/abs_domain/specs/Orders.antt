-- Orders: where a block begins, one register's number is at most another's.
use Rattle.std.specs.Prelude.{◌-◌, nat_le, if◌then◌else◌, List, [], ◌∷◌, ◌++◌, length}
use Rattle.abs_domain.specs.Words.{Atom, OrderFact}
use Rattle.linear_facts.specs.Ranges.{range_at}
use Rattle.abs_domain.specs.Numbers.{plain, table_with, with_split}

-- The greater one's atom is split into the lesser one's and a new one, which is what lies between
-- them; not where its range lies below the lesser one's, so that the order can't be true.
unfoldable pub with_order : List Atom → OrderFact → List Atom
with_order atoms order =
    let greater = range_at (table_with atoms) order.greater in
    let lesser = range_at (table_with atoms) order.lesser in
    if nat_le lesser.lo greater.hi
    then with_split order.greater record { first = order.lesser; second = length atoms }
    (atoms ++ plain record { lo = greater.lo - lesser.hi; hi = greater.hi - lesser.lo } ∷ [])
    else atoms

unfoldable pub with_orders : List Atom → List OrderFact → List Atom
with_orders atoms [] = atoms
with_orders atoms (order ∷ orders) = with_orders (with_order atoms order) orders
