-- Lemmas of runs: their steps one after the other, and how they end.
use Rattle.std.proofs.Common.{◌≡◌, ℕ, zero, suc, ◌+◌, ◌-◌, ◌<◌, Bool, true, false, Result, Ok, Err, refl, ap, arith, add-zero, add-one, zero-add, add-suc, below_more, if◌then◌else◌}
use Rattle.region_mem.specs.declared.faults.Fault.{Fault}
use Rattle.machine.specs.Machine.{Machine}
use Rattle.machine.specs.MachineStep.{step}
use Rattle.machine.specs.Run.{has_ended, then_step, after, Stop, Ended, Trapped, OutOfSteps, outcome_from, outcome, GoesOnUntil, IsOutcome, OutcomeIsFirst, RunsGoOn}

-- a run that goes on has one step less to go
pub outcome_from-next : (vlenb max k : ℕ) (m t : Machine) → k < max → has_ended m ≡ false → step vlenb m ≡ Ok t
    → outcome_from vlenb (max - k) k m ≡ outcome_from vlenb (max - (k + 1)) (k + 1) t
unfolding outcome_from
outcome_from-next vlenb max k m t lt going e =
    let more : max - k ≡ suc (max - (k + 1)) = omega arith in
    rw more (rw (going, e) refl)

-- a run whose next step is a fault stops there
pub outcome_from-trap : (vlenb max k : ℕ) (m : Machine) (fault : Fault) → k < max → has_ended m ≡ false → step vlenb m ≡ Err fault
    → outcome_from vlenb (max - k) k m ≡ Trapped fault k m
unfolding outcome_from
outcome_from-trap vlenb max k m fault lt going e =
    let more : max - k ≡ suc (max - (k + 1)) = omega arith in
    rw more (rw (going, e) refl)

-- a run that has ended stops there, whatever is left
pub outcome_from-ended : (vlenb n k : ℕ) (m : Machine) → has_ended m ≡ true → outcome_from vlenb n k m ≡ Ended k m
unfolding outcome_from
outcome_from-ended vlenb zero k m e = rw e refl
outcome_from-ended vlenb (suc n) k m e = rw e refl

-- a run that has done its steps, and has not ended, is out of steps
pub outcome_from-out : (vlenb max k : ℕ) (m : Machine) → k ≡ max → has_ended m ≡ false → outcome_from vlenb (max - k) k m ≡ OutOfSteps k m
unfolding outcome_from
outcome_from-out vlenb max k m same e =
    let none : max - k ≡ zero = omega arith in
    rw none (rw e refl)

pub after-plus : RunsGoOn
unfolding after
after-plus vlenb m j zero t e = rw add-zero e
after-plus vlenb m j (suc k) t e = rw add-suc (ap (then_step vlenb) (after-plus vlenb m j k t e))

abbrev pub after_step : ℕ → ℕ → ℕ → Machine → Result Machine Fault → Stop
after_step vlenb n k m (Ok t) = outcome_from vlenb n (k + 1) t
after_step vlenb n k m (Err fault) = Trapped fault k m

after-next : (vlenb : ℕ) (s : Machine) (k : ℕ) (m t : Machine) → after vlenb s k ≡ Ok m → step vlenb m ≡ Ok t → after vlenb s (k + 1) ≡ Ok t
unfolding after
after-next vlenb s k m t e st = rw (add-one, e) st

goes-on-more : (vlenb : ℕ) (s : Machine) (k : ℕ) (t : Machine) → after vlenb s k ≡ Ok t → has_ended t ≡ false → GoesOnUntil vlenb s k → GoesOnUntil vlenb s (k + 1)
goes-on-more vlenb s k t e going before =
    below_more (λ j. (u : Machine) × (after vlenb s j ≡ Ok u) × (has_ended u ≡ false)) k before (t, e, going)

-- by induction on the steps that are left
outcome_from-is : (vlenb n k : ℕ) (s m : Machine) → after vlenb s k ≡ Ok m → GoesOnUntil vlenb s k → IsOutcome vlenb (k + n) s (outcome_from vlenb n k m)
unfolding outcome_from
outcome_from-is vlenb zero k s m e before =
    let ended : (b : Bool) → has_ended m ≡ b → IsOutcome vlenb (k + zero) s (if b then Ended k m else OutOfSteps k m) =
    λ b. elim b as (λ b. has_ended m ≡ b → IsOutcome vlenb (k + zero) s (if b then Ended k m else OutOfSteps k m)) [
      | true ↦ λ h. (omega arith, e, h, before)
      | false ↦ λ h. (omega arith, e, h, before)
    ] in
    ended (has_ended m) refl
outcome_from-is vlenb (suc n) k s m e before =
    let next : (t : Machine) → step vlenb m ≡ Ok t → has_ended m ≡ false → IsOutcome vlenb (k + suc n) s (outcome_from vlenb n (k + 1) t) =
    λ t st going.
    let same : k + suc n ≡ (k + 1) + n = omega arith in
    rw same (outcome_from-is vlenb n (k + 1) s t (after-next vlenb s k m t e st) (goes-on-more vlenb s k m e going before)) in
    let stepped : (r : Result Machine Fault) → step vlenb m ≡ r → has_ended m ≡ false → IsOutcome vlenb (k + suc n) s (after_step vlenb n k m r) =
    λ r. elim r as (λ r. step vlenb m ≡ r → has_ended m ≡ false → IsOutcome vlenb (k + suc n) s (after_step vlenb n k m r)) [
      | Ok t ↦ next t
      | Err fault ↦ λ st going. (omega arith, e, going, st, before)
    ] in
    let ended : (b : Bool) → has_ended m ≡ b → IsOutcome vlenb (k + suc n) s (if b then Ended k m else after_step vlenb n k m (step vlenb m)) =
    λ b. elim b as (λ b. has_ended m ≡ b → IsOutcome vlenb (k + suc n) s (if b then Ended k m else after_step vlenb n k m (step vlenb m))) [
      | true ↦ λ h. (omega arith, e, h, before)
      | false ↦ stepped (step vlenb m) refl
    ] in
    ended (has_ended m) refl

pub outcome-is : OutcomeIsFirst
unfolding outcome after
outcome-is vlenb max s =
    let fact : IsOutcome vlenb (0 + max) s (outcome_from vlenb max 0 s) =
    outcome_from-is vlenb max 0 s s refl (λ j below. absurd (omega arith)) in
    rw zero-add at fact
