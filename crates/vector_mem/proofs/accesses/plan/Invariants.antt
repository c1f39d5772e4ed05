-- The plan has the accesses of the elements so far, wherever their addresses say that they lie.
use Rattle.std.proofs.Common.{◌≡◌, ◌≤◌, ℕ, length}
use Rattle.vector_mem.specs.Accesses.{AreAddresses, accesses_from}
use Rattle.vector_mem.proofs.accesses.plan.Given as goal

abbrev pub invariant-loop-element : goal.invariant-loop-element
invariant-loop-element g l = record {
  plan : (place : ℕ → ℕ) → AreAddresses (goal.F-post g l.address) place (length l.active) →
      l.plan ≡ accesses_from l.right l.size place l.active 0 l.element;
  count : length l.plan ≤ l.element;
}
