-- To store by the rest of the accesses gives what to store by all gives.
use Rattle.std.proofs.Common.{◌≡◌, drop, map}
use Rattle.std.specs.List.{fold}
use Rattle.vector_mem.specs.Accesses.{stored, with_stored}
use Rattle.vector_mem.proofs.transfers.store_elements.Given as goal

abbrev pub invariant-loop-access : goal.invariant-loop-access
invariant-loop-access g l =
    fold (with_stored (map g.E.Element.number l.values)) l.memory (drop l.access-index l.access-items)
    ≡ stored l.access-items (map g.E.Element.number l.values) l.initial.memory
