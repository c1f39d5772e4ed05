-- A run that was opened: what a host learns of it, and which bytes it may be put back to.
use Rattle.std.specs.Prelude.{ℕ, ◌≡◌, ◌==◌, ◌≤◌, ◌+◌, Bool, false, nat_lt, List, length, Option, None, Some, if◌then◌else◌}
use Rattle.std.specs.Option.{option_map, option_or}
use Rattle.sandbox_run.specs.AnySession.{run_in, vlenb_in}
use Rattle.sandbox_run.specs.Session.{SessionView}
use Rattle.machine.specs.Run.{Ended, OutOfSteps, Stop, has_ended, outcome_from}
use Rattle.rvvbox_c.specs.Status.{at_place}
use Rattle.rvvbox_c.specs.declared.forms.Form.{Form}
use Rattle.rvvbox_c.specs.declared.forms.Forms.{Forms}
use Rattle.rvvbox_c.specs.declared.forms.Slices.{Slices}
use Rattle.rvvbox_c.specs.declared.opened.Open.{Open}
use Rattle.rvvbox_c.specs.declared.opened.Progress.{Progress}
use Rattle.rvvbox_c.specs.declared.opened.Registers.{Registers}
use Rattle.rvvbox_c.specs.declared.opened.Sizes.{Sizes}
use Rattle.rvvbox_c.specs.declared.status.Refusal.{Refusal}
use Rattle.rvvbox_c.specs.declared.status.Status.{Status, TheVariants.WrongKind, TheVariants.WrongSize}

-- ---- what a host learns

-- 1 of what is so, and 0 of what is not
abbrev pub bit_of : Bool → ℕ
bit_of is = if is then 1 else 0

abbrev pub progress_of : SessionView → Progress
progress_of s =
    record { ended = bit_of (has_ended s.machine); reserved = 0; steps = s.steps }

abbrev pub registers_told : SessionView → Registers
registers_told s = record {
  pc = s.machine.hart.pc;
  vl = s.machine.vectors.config.vl;
  vtype = s.machine.vectors.config.vtype;
  vxrm = s.machine.hart.vxrm;
  vxsat = s.machine.hart.vxsat;
  ended = bit_of (has_ended s.machine);
  x = s.machine.hart.x;
  steps = s.steps;
}

-- how a run stands: it has ended, or it was out of the steps that it was given
abbrev pub stop_of : Bool → SessionView → Stop
stop_of ended s = if ended then Ended s.steps s.machine else OutOfSteps s.steps s.machine

-- It is the same run: at the same length of registers, with the bound, the first state and the
-- parameters that it was opened with, and on the same bytes.
abbrev pub IsSameRun : Open → Open → Type 0
IsSameRun old new =
    (vlenb_in new.session ≡ vlenb_in old.session)
    × ((run_in new.session).bound ≡ (run_in old.session).bound)
    × ((run_in new.session).first ≡ (run_in old.session).first)
    × ((run_in new.session).parameters ≡ (run_in old.session).parameters)
    × (new.sizes ≡ old.sizes)

-- A run has gone on for at most these steps, and this tells how far it is.
abbrev pub HasGoneOn : ℕ → Open → Open → Progress → Type 0
HasGoneOn most old new told =
    (told ≡ progress_of (run_in new.session))
    × (outcome_from (vlenb_in old.session) most (run_in old.session).steps
    (run_in old.session).machine
    ≡ stop_of (has_ended (run_in new.session).machine) (run_in new.session))
    × ((run_in new.session).steps ≤ (run_in old.session).steps + most)
    × (has_ended (run_in new.session).machine ≡ false
    → (run_in new.session).steps ≡ (run_in old.session).steps + most)
    × ((run_in new.session).steps ≤ (run_in new.session).bound)
    × IsSameRun old new

-- ---- the bytes of the host

-- how many bytes a form names, where it names any
abbrev pub named_in : Form → List ℕ → Option ℕ
named_in form bytes = if nat_lt form.kind 2 then None else Some (length bytes)

abbrev pub sizes_in : Forms → (b0 b1 b2 b3 b4 b5 b6 b7 : List ℕ) → Sizes
sizes_in s b0 b1 b2 b3 b4 b5 b6 b7 = record {
  a0 = named_in s.a0 b0;
  a1 = named_in s.a1 b1;
  a2 = named_in s.a2 b2;
  a3 = named_in s.a3 b3;
  a4 = named_in s.a4 b4;
  a5 = named_in s.a5 b5;
  a6 = named_in s.a6 b6;
  a7 = named_in s.a7 b7;
}

-- of the bytes at eight places
abbrev pub sizes_of : Forms → Slices → Sizes
sizes_of s z =
    sizes_in s z.a0.now z.a1.now z.a2.now z.a3.now z.a4.now z.a5.now z.a6.now z.a7.now

-- `n` bytes can't take those of the run's argument: it has none, or another number of them
abbrev pub size_differs : Option ℕ → ℕ → Option Status
size_differs None n = Some WrongKind
size_differs (Some m) n = if m == n then None else Some WrongSize

-- what is wrong with what stands at a place, where it is to be put back
abbrev pub back_fault : Option ℕ → Form → List ℕ → Option Status
back_fault size form bytes =
    if form.kind == 2 then size_differs size (length bytes) else None

abbrev pub back_at : ℕ → Option ℕ → Form → List ℕ → Option Refusal
back_at place size form bytes =
    option_map (λ fault. at_place fault place) (back_fault size form bytes)

-- the first of them
abbrev pub back_refusal : Sizes → Forms → (b0 b1 b2 b3 b4 b5 b6 b7 : List ℕ) → Option Refusal
back_refusal z s b0 b1 b2 b3 b4 b5 b6 b7 =
    option_or (back_at 0 z.a0 s.a0 b0) (option_or (back_at 1 z.a1 s.a1 b1)
    (option_or (back_at 2 z.a2 s.a2 b2) (option_or (back_at 3 z.a3 s.a3 b3)
    (option_or (back_at 4 z.a4 s.a4 b4) (option_or (back_at 5 z.a5 s.a5 b5)
    (option_or (back_at 6 z.a6 s.a6 b6) (back_at 7 z.a7 s.a7 b7)))))))

-- of the bytes at eight places
abbrev pub back_refusal_of : Sizes → Forms → Slices → Option Refusal
back_refusal_of sizes s z =
    back_refusal sizes s z.a0.now z.a1.now z.a2.now z.a3.now z.a4.now z.a5.now z.a6.now z.a7.now
