-- No access so far is refused; then to store by the rest gives what to store by all gives.
use Rattle.std.proofs.Common.{◌≡◌, ◌-◌, ℕ, length, map}
use Rattle.std.specs.List.{fold}
use Rattle.std.specs.Prelude.{find}
use Rattle.region_mem.specs.declared.faults.Right.TheVariants.{Write}
use Rattle.vector_mem.specs.Accesses.{AreAddresses, accesses, accesses_from, first_refused, is_refused, stored, with_stored}
use Rattle.vector_mem.proofs.each.store_active.Given as goal

abbrev pub invariant-loop-i : goal.invariant-loop-i
invariant-loop-i g l =
    (place : ℕ → ℕ) → AreAddresses (goal.F-post g l.address) place (length l.active) →
    find (is_refused l.memory) (accesses_from Write g.E.Element.SIZE place l.active l.i (length l.active - l.i))
    ≡ first_refused (accesses Write g.E.Element.SIZE place l.active) l.memory

abbrev pub invariant-loop-i-2 : goal.invariant-loop-i-2
invariant-loop-i-2 g l =
    (place : ℕ → ℕ) → AreAddresses (goal.F-post g l.address) place (length l.active) →
    fold (with_stored (map g.E.Element.number l.values)) l.memory
    (accesses_from Write g.E.Element.SIZE place l.active l.i (length l.active - l.i))
    ≡ stored (accesses Write g.E.Element.SIZE place l.active) (map g.E.Element.number l.values) l.initial.memory
