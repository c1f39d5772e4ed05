-- What comes of a run, and the words for it.
use Rattle.std.specs.Prelude.{◌≡◌, ◌++◌, ◌⊎◌, [], codes, Bool, true, false, ℕ, List, Option, Result, Ok, Err}
use Rattle.std.specs.Fmt.{decimal}
use Rattle.job_file.specs.declared.values.RunParam.{RunParam}
use Rattle.monitor.specs.Texts.{csrs_text, registers_text}
use Rattle.region_mem.specs.Faults.{name_of, number_of}
use Rattle.sandbox_run.specs.Answer.{answer_of}
use Rattle.sandbox_run.specs.declared.outcome.Final.{Final}
use Rattle.sandbox_run.specs.declared.outcome.Outcome.{Outcome}
use Rattle.sandbox_run.specs.declared.outcome.Outcome.TheVariants as stopped
use Rattle.machine.specs.declared.registers.Registers.{Registers}
use Rattle.machine.specs.Run.{outcome}
use Rattle.region_mem.specs.Digits.{digits_text}
pub use Rattle.endings.specs.Accepted.{OrMemory}
use Rattle.endings.specs.Did.{did_of}
use Rattle.commands.specs.Files.{IsUnfinished, outs_of}
use Rattle.file_store.specs.Store.{Files}
use Rattle.endings.specs.Halt.{stop_of}
use Rattle.endings.specs.Streams.{Prints}
use Rattle.commands.specs.Steps.{StopsAt}
use Rattle.commands.specs.Changes.{Change, Wrote}
use Rattle.commands.specs.Words.{Gains, Halt, Machine, Stop, Text}
use Rattle.endings.specs.declared.did.Did.{Did}
use Rattle.endings.specs.declared.stands.End.{End}
use Rattle.endings.specs.declared.stands.End.TheVariants as end
use Rattle.endings.specs.declared.stands.Stand.{Stand}
use Rattle.endings.specs.declared.stop.Stop.TheVariants as stop
use Rattle.commands.specs.declared.trial.Trial.{Trial}

-- how a run ended, after how many steps, and the arguments and the registers as they then stood
abbrev pub trial_in : {vlenb : ℕ} → End → Final vlenb (List ℕ) → Trial
trial_in {vlenb} how last = record {
  end = how;
  steps = last.steps;
  args = last.args;
  registers = last.registers;
  vlenb = vlenb;
}

abbrev pub trial_at : {vlenb : ℕ} → Outcome vlenb (List ℕ) → Trial
trial_at (stopped.Ended last) = trial_in end.Ended last
trial_at (stopped.Trapped fault last) = trial_in (end.Trapped fault) last
trial_at (stopped.OutOfSteps last) = trial_in end.OutOfSteps last

-- what comes of a run from a state on, with at most `max` steps
abbrev pub trial_from : ℕ → ℕ → Machine → Trial
trial_from vlenb max m = trial_at (answer_of vlenb (outcome vlenb max m))

-- ---- the words for it

abbrev pub end_line : End → ℕ → List ℕ
end_line end.Ended steps = codes "ended: " ++ (decimal steps ++ codes " steps\n")
end_line (end.Trapped fault) steps = codes "trapped: " ++ (name_of fault ++ (codes " "
    ++ (digits_text (number_of fault) ++ (codes " after " ++ (decimal steps ++ codes " steps\n")))))
end_line end.OutOfSteps steps = codes "out of steps: " ++ (decimal steps ++ codes "\n")

-- the line that tells how a run ended
abbrev pub line_of : Trial → List ℕ
line_of trial = end_line trial.end trial.steps

-- the monitor's lines of the integer registers, and of pc and the vector unit's state
abbrev pub state_text : Registers → ℕ → List ℕ
state_text registers vlenb = registers_text registers.x ++ csrs_text registers vlenb

-- the registers that a run left, where they are asked for
abbrev pub shown_of : Bool → Trial → List ℕ
shown_of false trial = []
shown_of true trial = state_text trial.registers trial.vlenb

-- what is printed of a run: its line, and the registers behind it where they are asked for
abbrev pub told_of : Bool → Trial → List ℕ
told_of asked trial = line_of trial ++ shown_of asked trial

-- ---- what is done: `c` is what is left

-- a run that came to this is told, with the registers or without, and the out files of all places
-- were written with the buffers as the run left them. It stands there
pub record IsFinished (c : Change) (asked : Bool) (params : List (RunParam Text)) (trial : Trial)
    (stand : Option Stand) (d : Did) : Type 0 where
  pub wrote : Gains c.was c.has (outs_of params trial.args.places)
  pub told : Prints c.old c.new (told_of asked trial)
  pub done : d ≡ did_of trial.end stand

-- ---- why it stops

-- a run that came to this is not told: memory runs out before anything is written, or its outcome
-- is not written or told
abbrev pub StopsFinishing : Files → Change → Bool → List (RunParam Text) → Trial → Halt → Type 0
StopsFinishing files c asked params trial why =
    ((stop_of why ≡ stop.Memory) × Wrote c [])
    ⊎ IsUnfinished files c params trial.args.places (told_of asked trial) (stop_of why)

-- where this is what is defined of a run: it does not start, and `explains` says what the
-- explanation is, or its outcome is not written or told
abbrev pub StopsAtTrial : Files → Change → Bool → List (RunParam Text) → Result Trial Stop
    → (Halt → Type 0) → Halt → Type 0
StopsAtTrial files c asked params defined explains =
    StopsAt (Wrote c) (λ why. OrMemory defined (Err (stop_of why)) × explains why)
    (λ trial. defined ≡ Ok trial)
    (λ trial why. IsUnfinished files c params trial.args.places (told_of asked trial) (stop_of why))
