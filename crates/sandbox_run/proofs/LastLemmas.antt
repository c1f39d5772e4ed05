-- From where the last step of a run was done.
use Rattle.std.proofs.Common.{◌≡◌, ℕ, ◌+◌, Ok, Some, ap, add-one}
use Rattle.machine.specs.Machine.{Machine}
use Rattle.machine.specs.MachineStep.{step}
use Rattle.machine.specs.Run.{after}
use Rattle.sandbox_run.specs.Answer.{last_pc, pc_in}

-- one step more leads to the next state
pub after_one_more : (vlenb k : ℕ) (first m t : Machine) → after vlenb first k ≡ Ok m → step vlenb m ≡ Ok t → after vlenb first (k + 1) ≡ Ok t
unfolding after
after_one_more vlenb k first m t is next = rw (add-one, is) next

-- and was done from here
pub last_pc_one_more : (vlenb k : ℕ) (first m : Machine) → after vlenb first k ≡ Ok m → last_pc vlenb first (k + 1) ≡ Some m.hart.pc
last_pc_one_more vlenb k first m is = rw add-one (ap pc_in is)
