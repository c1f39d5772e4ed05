-- Runs that end without a fault: how they are opened, and their steps.
use Rattle.std.proofs.Common.{◌≡◌, ℕ, zero, suc, ◌+◌, ◌-◌, ◌<◌, ◌≤◌, Bool, true, false, Option, IsNone, IsSome, List, [], ◌∷◌, length, get_or, Result, Ok, Err, refl, ap, subst, ◌∙◌, arith}
use Rattle.std.specs.List.{AllByRecursion}
use Rattle.region_mem.specs.Laws.{BringsBytes}
use Rattle.region_mem.specs.Parameter.{Argument, AreArguments}
use Rattle.region_mem.specs.declared.arguments.Arg.TheVariants as argument
use Rattle.region_mem.specs.declared.faults.Fault.{Fault}
use Rattle.block_checker.specs.Accepted.{AcceptedView}
use Rattle.block_checker.specs.Bound.{bound_of, scalar_of, scalars_of}
use Rattle.block_checker.specs.Sound.{IsWellBehaved, RunsEnd}
use Rattle.machine.specs.Machine.{Machine}
use Rattle.machine.specs.MachineStep.{step}
use Rattle.machine.specs.Run.{has_ended, then_step, after}
use Rattle.machine.specs.Start.{start}
use Rattle.vreg_groups.specs.VectorLength.{vlenb_of}
use Rattle.vreg_groups.specs.declared.policies.Agnostic.{Agnostic}

-- ---- the first step of a run

-- a run that begins with a step: that step, and the run from the state after it
abbrev Begins : ℕ → Machine → ℕ → Machine → Type 0
Begins vlenb s k u = (t : Machine) × (step vlenb s ≡ Ok t) × (after vlenb t k ≡ Ok u)

-- by induction on the steps, since `after` takes the last one apart
first-step : (vlenb k : ℕ) (s u : Machine) → after vlenb s (suc k) ≡ Ok u → Begins vlenb s k u
unfolding after
first-step vlenb zero s u e = (u, e, refl)
first-step vlenb (suc k) s u e =
    let by : (r : Result Machine Fault) → after vlenb s (suc k) ≡ r → then_step vlenb r ≡ Ok u → Begins vlenb s (suc k) u =
    λ r. elim r as (λ r. after vlenb s (suc k) ≡ r → then_step vlenb r ≡ Ok u → Begins vlenb s (suc k) u) [
      | Ok w ↦ λ is last. let (t, first, rest) = first-step vlenb k s w is in (t, first, ap (then_step vlenb) rest ∙ last)
      | Err fault ↦ λ is last. cc
    ] in
    by (after vlenb s (suc k)) refl e

-- no step at all leads from a state that has not ended to one that has
stays : (vlenb : ℕ) (s u : Machine) → after vlenb s zero ≡ Ok u → has_ended u ≡ true → has_ended s ≡ false → ⊥
unfolding after
stays vlenb s u is ended going = cc

-- a run that has not ended has a next step, and from there ends in one step less
record Next (vlenb n : ℕ) (s : Machine) : Type 0 where
  state : Machine
  is : step vlenb s ≡ Ok state
  some : 0 < n
  ends : IsWellBehaved vlenb (n - 1) state

next : (vlenb n : ℕ) (s : Machine) → IsWellBehaved vlenb n s → has_ended s ≡ false → Next vlenb n s
next vlenb n s (zero, u, within, is, ended) going = absurd (stays vlenb s u is ended going)
next vlenb n s (suc k, u, within, is, ended) going =
    let (t, first, rest) = first-step vlenb k s u is in
    record { state = t; is = first; some = omega (arith, within); ends = (k, u, omega (arith, within), rest, ended) }

-- the next step is no fault
pub no_fault : (vlenb n : ℕ) (s : Machine) (fault : Fault) → IsWellBehaved vlenb n s → has_ended s ≡ false → step vlenb s ≡ Err fault → ⊥
no_fault vlenb n s fault well going is = let more = next vlenb n s well going in cc (more.is, is)

-- a step more, of a run with a bound
pub step-well : (vlenb steps bound : ℕ) (s t : Machine) → IsWellBehaved vlenb (bound - steps) s → has_ended s ≡ false → step vlenb s ≡ Ok t
    → (steps + 1 ≤ bound) × IsWellBehaved vlenb (bound - (steps + 1)) t
step-well vlenb steps bound s t well going is =
    let more = next vlenb (bound - steps) s well going in
    let same : more.state ≡ t = cc (more.is, is) in
    let left : bound - (steps + 1) ≡ bound - steps - 1 = omega arith in
    (omega (arith, more.some), rw left (subst (λ (m : Machine). IsWellBehaved vlenb (bound - steps - 1) m) same more.ends))

-- ---- a run's steps, one at a time

-- a step that was done did not begin at the end
pub not_ended : (m : Machine) (done : Option (Unit {0})) → IsSome done → (has_ended m ≡ true → IsNone done) → has_ended m ≡ false
not_ended m done some ends = go (has_ended m) ends
  where
    go : (b : Bool) → (b ≡ true → IsNone done) → b ≡ false
    go true ends = let none : IsNone done = ends refl in cc
    go false ends = refl

pub after_none : (vlenb n : ℕ) (s : Machine) → after vlenb s (n - n) ≡ Ok s
unfolding after
after_none vlenb n s = let none : n - n ≡ 0 = omega arith in rw none refl

pub after_more : (vlenb from n : ℕ) (s m t : Machine) → from ≤ n → after vlenb s (n - from) ≡ Ok m → step vlenb m ≡ Ok t
    → after vlenb s (n + 1 - from) ≡ Ok t
unfolding after
after_more vlenb from n s m t least e is =
    let more : n + 1 - from ≡ suc (n - from) = omega arith in
    rw (more, e) is

-- ---- how a run is opened

-- the scalars of arguments, place by place
pub scalars-each : (made : List ℕ) (args : List Argument) → length args ≡ length made
    → ((k : ℕ) → k < length made → get_or made k 0 ≡ scalar_of (get_or args k argument.None)) → made ≡ scalars_of args
scalars-each [] [] same at = refl
scalars-each (n ∷ ns) (arg ∷ args) same at =
    let first : n ≡ scalar_of arg = at 0 (omega arith) in
    let more = scalars-each ns args (omega (arith, same)) (λ k below. at (suc k) (omega (arith, below))) in
    rw (first, more) refl
scalars-each [] (arg ∷ args) same at = absurd (omega (arith, same))
scalars-each (n ∷ ns) [] same at = absurd (omega (arith, same))

-- the run that is opened ends within its bound
pub opened-well : (vlenb bound : ℕ) (a : AcceptedView) (args : List Argument) (agnostic : Agnostic) (m : Machine)
    → RunsEnd a → length args ≡ 8 → AreArguments a.certificate.parameters args → AllByRecursion BringsBytes args → vlenb_of a.vlen ≡ vlenb
    → bound ≡ bound_of a (scalars_of args) → m ≡ start vlenb agnostic a.image a.certificate.parameters args
    → (0 ≤ bound) × IsWellBehaved vlenb (bound - 0) m
opened-well vlenb bound a args agnostic m ends eight matching bring length-is bound-is m-is =
    let fact : IsWellBehaved vlenb bound m = rw (bound-is, m-is, ← length-is) (ends args agnostic eight matching bring) in
    let all : bound - 0 ≡ bound = omega arith in
    (omega arith, rw all fact)
