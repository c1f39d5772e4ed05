-- Runs that go on for a limited number of steps.
use Rattle.std.proofs.Common.{◌≡◌, ℕ, zero, suc, ◌+◌, ◌-◌, ◌<◌, Bool, true, false, if◌then◌else◌, Ok, refl, sym, arith}
use Rattle.machine.specs.Machine.{Machine}
use Rattle.machine.specs.MachineStep.{step}
use Rattle.machine.specs.Run.{has_ended, outcome_from, Ended, OutOfSteps}
use Rattle.machine.specs.RunLemmas.{outcome_from-ended}

-- a run that goes on has one step less to go
pub outcome_from-step : (vlenb left k : ℕ) (m t : Machine) → 0 < left → has_ended m ≡ false → step vlenb m ≡ Ok t
    → outcome_from vlenb left k m ≡ outcome_from vlenb (left - 1) (k + 1) t
unfolding outcome_from
outcome_from-step vlenb zero k m t lt going e = absurd (omega (arith, lt))
outcome_from-step vlenb (suc left) k m t lt going e = let less : suc left - 1 ≡ left = omega arith in rw less (rw (going, e) refl)

outcome_from-zero : (vlenb k : ℕ) (m : Machine) → has_ended m ≡ false → outcome_from vlenb 0 k m ≡ OutOfSteps k m
unfolding outcome_from
outcome_from-zero vlenb k m e = rw e refl

-- a run that has ended, or has no steps left, stops as it stands
pub outcome_from-stops : (vlenb left k : ℕ) (m : Machine) (ended : Bool) → ended ≡ has_ended m → (ended ≡ false → left ≡ 0)
    → outcome_from vlenb left k m ≡ (if ended then Ended k m else OutOfSteps k m)
outcome_from-stops vlenb left k m true is none = outcome_from-ended vlenb left k m (sym is)
outcome_from-stops vlenb left k m false is none = rw (none refl) (outcome_from-zero vlenb k m (sym is))
