-- Steps of a run, one at a time.
use Rattle.std.proofs.Common.{◌≡◌, ◌+◌, ◌<◌, ◌≤◌, ◌-◌, ◌==◌, inl, inr, ◌∙◌, ℕ, suc, Bool, true, false, List, Ok, refl, arith}
use Rattle.std.specs.List.{list_any}
use Rattle.std.proofs.Math.Nat.{eq-or-lt_of_le}
use Rattle.sandbox_run.specs.Session.{SessionView}
use Rattle.machine.specs.Machine.{Machine}
use Rattle.machine.specs.MachineStep.{step}
use Rattle.machine.specs.Run.{after, has_ended}
use Rattle.monitor.specs.Moves.{Does, GoesOn, stops}

pub does_none : (vlenb : ℕ) (s : SessionView) → Does vlenb 0 s s
unfolding after
does_none vlenb s = record { leads = refl; counted = omega arith; bound = refl; opened = refl; parameters = refl; going = λ i below. absurd (omega (arith, below)) }

pub does_more : (vlenb j : ℕ) (s m t : SessionView) → Does vlenb j s m → has_ended m.machine ≡ false
    → step vlenb m.machine ≡ Ok t.machine → t.steps ≡ m.steps + 1 → t.bound ≡ m.bound → t.first ≡ m.first → t.parameters ≡ m.parameters → Does vlenb (suc j) s t
unfolding after
does_more vlenb j s m t so going is counts bound opened parameters =
    record {
      leads = rw so.leads is;
      counted = omega (arith, so.counted, counts);
      bound = bound ∙ so.bound;
      opened = opened ∙ so.opened;
      parameters = parameters ∙ so.parameters;
      going = λ i below.
          let within : i ≤ j = omega (arith, below) in
          elim (eq-or-lt_of_le {n = i} {m = j} within) as (λ _. (u : Machine) × (after vlenb s.machine i ≡ Ok u) × (has_ended u ≡ false)) [
            | inl equal ↦ (m.machine, rw equal so.leads, going)
            | inr less ↦ so.going i less
          ];
    }

-- a run that has ended stays
pub goes_nowhere : (vlenb : ℕ) (bs : List ℕ) (s t : SessionView) → has_ended s.machine ≡ true → t ≡ s → GoesOn vlenb bs s t
goes_nowhere vlenb bs s t ended same =
    record {
      j = 0;
      does = rw same (does_none vlenb s);
      none = λ _. refl;
      some = λ going. absurd (clash (has_ended s.machine) ended going);
      stopped = rw (same, ended) refl;
      first = λ i some below. absurd (omega (arith, below));
    }
  where
    clash : (b : Bool) → b ≡ true → b ≡ false → ⊥
    clash b is_true is_false = cc

pub does_one : (vlenb : ℕ) (s t : SessionView) → has_ended s.machine ≡ false → step vlenb s.machine ≡ Ok t.machine → t.steps ≡ s.steps + 1 → t.bound ≡ s.bound → t.first ≡ s.first → t.parameters ≡ s.parameters
    → Does vlenb (t.steps - s.steps) s t
does_one vlenb s t going is counts bound opened parameters =
    let one : t.steps - s.steps ≡ 1 = omega (arith, counts) in
    rw one (does_more vlenb 0 s s t (does_none vlenb s) going is counts bound opened parameters)

-- before step j, but not at step 0, is no state to stop at.
abbrev pub NoStop : ℕ → List ℕ → SessionView → ℕ → Type 0
NoStop vlenb bs s j = (i : ℕ) → 0 < i → i < j → (m : Machine) → after vlenb s.machine i ≡ Ok m → stops bs m ≡ false

pub no_stop_more : (vlenb : ℕ) (bs : List ℕ) (s m : SessionView) (j : ℕ) → NoStop vlenb bs s j → Does vlenb j s m
    → stops bs m.machine ≡ false → NoStop vlenb bs s (suc j)
no_stop_more vlenb bs s m j before so going i some below x is =
    let within : i ≤ j = omega (arith, below) in
    elim (eq-or-lt_of_le {n = i} {m = j} within) as (λ _. stops bs x ≡ false) [
      | inl equal ↦
          let here : after vlenb s.machine j ≡ Ok x = rw (← equal) is in
          let same : m.machine ≡ x = cc (so.leads, here) in
          rw (← same) going
      | inr less ↦ before i some less x is
    ]

-- no breakpoint, and a step that was done
pub goes_past : (bs : List ℕ) (m : Machine) (pc : ℕ) (at : Bool) → has_ended m ≡ false → pc ≡ m.hart.pc
    → at ≡ list_any (λ b. b == pc) bs → at ≡ false → stops bs m ≡ false
goes_past bs m pc at going here is none =
    let past : list_any (λ b. b == m.hart.pc) bs ≡ false = rw (← here, ← is) none in
    rw (going, past) refl
