-- Nothing is wrong with the places so far.
use Rattle.std.proofs.Common.{◌≡◌, ◌<◌, ℕ, None}
use Rattle.rvvbox_c.specs.Apart.{fault_at}
use Rattle.rvvbox_c.proofs.apart.first_fault.Given as goal

abbrev pub invariant-loop-k : goal.invariant-loop-k
invariant-loop-k l = (j : ℕ) → j < l.k → fault_at l.places j ≡ None
