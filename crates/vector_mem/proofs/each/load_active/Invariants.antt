-- No access so far is refused, and to load by the rest gives what to load by all gives.
use Rattle.std.proofs.Common.{◌≡◌, ◌-◌, ℕ, length, map}
use Rattle.std.specs.List.{fold}
use Rattle.std.specs.Prelude.{find}
use Rattle.region_mem.specs.declared.faults.Right.TheVariants.{Read}
use Rattle.vector_mem.specs.Accesses.{AreAddresses, accesses, accesses_from, first_refused, is_refused, loaded, with_loaded}
use Rattle.vector_mem.proofs.each.load_active.Given as goal

abbrev pub invariant-loop-i : goal.invariant-loop-i
invariant-loop-i g l = record {
  permitted : (place : ℕ → ℕ) → AreAddresses (goal.F-post g l.address) place (length l.active) →
      find (is_refused l.memory) (accesses_from Read g.E.Element.SIZE place l.active l.i (length l.active - l.i))
      ≡ first_refused (accesses Read g.E.Element.SIZE place l.active) l.memory;
  so_far : (place : ℕ → ℕ) → AreAddresses (goal.F-post g l.address) place (length l.active) →
      fold (with_loaded l.memory) (map g.E.Element.number l.values)
      (accesses_from Read g.E.Element.SIZE place l.active l.i (length l.active - l.i))
      ≡ loaded (length l.values) (accesses Read g.E.Element.SIZE place l.active) l.memory;
  count : length l.values ≡ length l.active;
}
