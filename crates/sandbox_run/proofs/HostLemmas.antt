-- Laws of runs for those who run kernels.
use Rattle.std.proofs.Common.{◌≡◌, ◌∙◌, ℕ, zero, suc, ◌+◌, ◌-◌, ◌≤◌, Bool, true, false, Result, Ok, Err, refl, subst, sym, arith}
use Rattle.std.specs.Prelude.{if◌then◌else◌}
use Rattle.region_mem.specs.declared.faults.Fault.{Fault}
use Rattle.region_mem.specs.Start.{start_areas, start_memory}
use Rattle.block_checker.specs.Sound.{IsWellBehaved}
use Rattle.machine.specs.Machine.{Machine}
use Rattle.machine.specs.MachineStep.{step}
use Rattle.machine.specs.Run.{Ended, OutOfSteps, Stop, Trapped, IsOutcome, after, has_ended, outcome, outcome_from}
use Rattle.machine.specs.Start.{start}
use Rattle.machine.specs.RunLemmas.{after-plus, outcome-is, outcome_from-ended, after_step}
use Rattle.sandbox_run.specs.HostLaws.{SaysOfMore, StepsAreUnique, MoreStepsChangeNothing, StartsAreAlike}
use Rattle.sandbox_run.proofs.StopLemmas.{within_end}
use Rattle.sandbox_run.specs.SessionLemmas.{no_fault}

-- As `SaysOfMore`, of the outcome `whole` of a run that goes on with `max` steps more after k.
abbrev SaysFrom : ℕ → ℕ → Stop → Stop → Type 0
SaysFrom vlenb all whole (Ended j t) = whole ≡ Ended j t
SaysFrom vlenb all whole (Trapped fault j t) = whole ≡ Trapped fault j t
SaysFrom vlenb all whole (OutOfSteps j t) = whole ≡ outcome_from vlenb (all - j) j t

out_from : (vlenb max k : ℕ) (m : Machine) → outcome_from vlenb max k m ≡ outcome_from vlenb (k + max - k) k m
out_from vlenb max k m = let same : k + max - k ≡ max = omega arith in rw same refl

ended_from : (vlenb max k : ℕ) (m : Machine) → has_ended m ≡ true → outcome_from vlenb max k m ≡ Ended k m
ended_from vlenb max k m e = outcome_from-ended vlenb max k m e

more_from : (vlenb n max k : ℕ) (m : Machine) → n ≤ max
    → SaysFrom vlenb (k + max) (outcome_from vlenb max k m) (outcome_from vlenb n k m)
unfolding outcome_from
more_from vlenb zero max k m least = by_end (has_ended m) refl
  where
    by_end : (b : Bool) → has_ended m ≡ b
        → SaysFrom vlenb (k + max) (outcome_from vlenb max k m) (if b then Ended k m else OutOfSteps k m)
    by_end true e = ended_from vlenb max k m e
    by_end false e = out_from vlenb max k m
more_from vlenb (suc n) zero k m least = absurd (omega (arith, least))
more_from vlenb (suc n) (suc max) k m least =
    by_end (has_ended m) (λ next. more_from vlenb n max (k + 1) next (omega (arith, least)))
  where
    by_step : (r : Result Machine Fault)
        → ((next : Machine) → SaysFrom vlenb (k + 1 + max) (outcome_from vlenb max (k + 1) next) (outcome_from vlenb n (k + 1) next))
        → SaysFrom vlenb (k + suc max) (after_step vlenb max k m r) (after_step vlenb n k m r)
    by_step (Ok next) further =
        let same : k + 1 + max ≡ k + suc max = omega arith in
        subst (λ (all : ℕ). SaysFrom vlenb all (outcome_from vlenb max (k + 1) next) (outcome_from vlenb n (k + 1) next)) same (further next)
    by_step (Err fault) further = refl

    by_end : (b : Bool)
        → ((next : Machine) → SaysFrom vlenb (k + 1 + max) (outcome_from vlenb max (k + 1) next) (outcome_from vlenb n (k + 1) next))
        → SaysFrom vlenb (k + suc max) (if b then Ended k m else after_step vlenb max k m (step vlenb m))
        (if b then Ended k m else after_step vlenb n k m (step vlenb m))
    by_end true further = refl
    by_end false further = by_step (step vlenb m) further

says : (vlenb max : ℕ) (first : Machine) (stop : Stop) → SaysFrom vlenb max (outcome vlenb max first) stop → SaysOfMore vlenb max first stop
says vlenb max first (Ended k t) s = s
says vlenb max first (Trapped fault k t) s = s
says vlenb max first (OutOfSteps k t) s = s

pub more_steps_change_nothing : MoreStepsChangeNothing
unfolding outcome
more_steps_change_nothing vlenb n max first least =
    let all : 0 + max ≡ max = omega arith in
    says vlenb max first (outcome_from vlenb n 0 first)
    (subst (λ (steps : ℕ). SaysFrom vlenb steps (outcome_from vlenb max 0 first) (outcome_from vlenb n 0 first)) all
    (more_from vlenb n max 0 first least))

pub ended_with_more : (vlenb n max k : ℕ) (first t : Machine) → n ≤ max → outcome vlenb n first ≡ Ended k t → outcome vlenb max first ≡ Ended k t
ended_with_more vlenb n max k first t least e =
    subst (λ (stop : Stop). SaysOfMore vlenb max first stop) e (more_steps_change_nothing vlenb n max first least)

pub steps_are_unique : StepsAreUnique
steps_are_unique vlenb j k first t u (there, goes) ended (here, on) last =
    let before = within_end vlenb first j k u goes here last in
    let behind = within_end vlenb first k j t on there ended in
    let same : j ≡ k = omega (arith, before, behind) in
    let also : after vlenb first k ≡ Ok t = rw (← same) there in
    (same, cc (also, here))

pub starts_are_alike : StartsAreAlike
unfolding start start_memory start_areas
starts_are_alike vlenb agnostic image other params args entry segments = rw (entry, segments) refl

-- A run that ends within n steps is Ended in its outcome with n.
pub record Ends (vlenb n : ℕ) (first : Machine) : Type 0 where
  pub steps : ℕ
  pub state : Machine
  pub is : outcome vlenb n first ≡ Ended steps state

-- No run that ends faults before.
no_trap : (vlenb : ℕ) (first : Machine) (k steps : ℕ) (t last : Machine) (fault : Fault) → after vlenb first k ≡ Ok t → has_ended t ≡ false
    → step vlenb t ≡ Err fault → k ≤ steps → after vlenb first steps ≡ Ok last → has_ended last ≡ true → ⊥
no_trap vlenb first k steps t last fault there going faults least leads ended =
    let more : k + (steps - k) ≡ steps = omega (arith, least) in
    let rest : after vlenb t (steps - k) ≡ Ok last = sym (after-plus vlenb first k (steps - k) t there) ∙ (rw more leads) in
    no_fault vlenb (steps - k) t fault (steps - k, last, omega arith, rest, ended) going faults

by_outcome : (vlenb n : ℕ) (first : Machine) (stop : Stop) → outcome vlenb n first ≡ stop → IsOutcome vlenb n first stop → IsWellBehaved vlenb n first
    → Ends vlenb n first
by_outcome vlenb n first (Ended k t) is holds well = record { steps = k; state = t; is = is }
by_outcome vlenb n first (OutOfSteps k t) is (all, there, going, goes) (steps, last, least, leads, ended) =
    let before : k ≤ steps = within_end vlenb first k steps last goes leads ended in
    let same : steps ≡ k = omega (arith, all, before, least) in
    let here : after vlenb first k ≡ Ok last = rw (← same) leads in
    absurd (cc (here, there, going, ended))
by_outcome vlenb n first (Trapped fault k t) is (all, there, going, faults, goes) (steps, last, least, leads, ended) =
    let before : k ≤ steps = within_end vlenb first k steps last goes leads ended in
    absurd (no_trap vlenb first k steps t last fault there going faults before leads ended)

pub ends : (vlenb n : ℕ) (first : Machine) → IsWellBehaved vlenb n first → Ends vlenb n first
ends vlenb n first well = by_outcome vlenb n first (outcome vlenb n first) refl (outcome-is vlenb n first) well

-- and it is so in no state before.
pub ended_first : (vlenb n : ℕ) (first : Machine) (run : Ends vlenb n first) → IsOutcome vlenb n first (Ended run.steps run.state)
ended_first vlenb n first run = subst (λ (stop : Stop). IsOutcome vlenb n first stop) run.is (outcome-is vlenb n first)
