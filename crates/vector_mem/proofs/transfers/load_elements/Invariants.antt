-- No access so far is refused, and to load by the rest gives what to load by all gives.
use Rattle.std.proofs.Common.{◌≡◌, drop, length, map}
use Rattle.std.specs.List.{fold}
use Rattle.std.specs.Prelude.{find}
use Rattle.vector_mem.specs.Accesses.{first_refused, is_refused, loaded, with_loaded}
use Rattle.vector_mem.proofs.transfers.load_elements.Given as goal

abbrev pub invariant-loop-access : goal.invariant-loop-access
invariant-loop-access g l = record {
  permitted : find (is_refused l.memory) (drop l.access-index l.access-items) ≡ first_refused l.access-items l.memory;
  so_far : fold (with_loaded l.memory) (map g.E.Element.number l.values) (drop l.access-index l.access-items)
      ≡ loaded (length l.values) l.access-items l.memory;
}
