-- What comes of a run that is opened.
use Rattle.std.proofs.Common.{◌≡◌, ℕ, List, Option, Some, None, IfSome, Ok, ◌-◌, ◌∙◌, arith, ap}
use Rattle.block_checker.specs.Accepted.{AcceptedView}
use Rattle.block_checker.specs.Bound.{bound_of, scalars_of}
use Rattle.region_mem.specs.Memory.{args_of}
use Rattle.region_mem.specs.Parameter.{Argument}
use Rattle.region_mem.specs.declared.arguments.Args.{Args}
use Rattle.machine.specs.Registers.{registers_of}
use Rattle.sandbox_run.specs.Session.{SessionView}
use Rattle.sandbox_run.specs.declared.outcome.OpenError.{OpenError}
use Rattle.machine.specs.declared.registers.Registers.{Registers}
use Rattle.machine.specs.Machine.{Machine}
use Rattle.machine.specs.Run.{Ended, outcome, outcome_from}
use Rattle.machine.specs.Start.{start}
use Rattle.vreg_groups.specs.declared.policies.Agnostic.{Agnostic}
use Rattle.commands.specs.Runs.{if_opened}
use Rattle.commands.specs.Trial.{OrMemory}
use Rattle.endings.specs.declared.stands.End.TheVariants as end
use Rattle.commands.specs.declared.trial.Trial.{Trial}

-- a run that is opened and ended is the one that is defined
pub opened : (vlenb : ℕ) (agnostic : Agnostic) (a : AcceptedView) (args : List Argument) (fault : Option OpenError)
    (session : SessionView) (steps : ℕ) (m : Machine) (registers : Registers) (kept : Args (List ℕ)) (trial : Trial) → IfSome fault (λ told. ⊥)
    → session.machine ≡ start vlenb agnostic a.image a.certificate.parameters args → session.steps ≡ 0
    → session.bound ≡ bound_of a (scalars_of args)
    → outcome_from vlenb (session.bound - session.steps) session.steps session.machine ≡ Ended steps m
    → registers ≡ registers_of m → kept.places ≡ args_of m.memory
    → trial ≡ record { end = end.Ended; steps = steps; args = kept; registers = registers; vlenb = vlenb }
    → OrMemory (if_opened vlenb agnostic a args fault) (Ok trial)
unfolding outcome
opened vlenb agnostic a args (Some told) session steps m registers kept trial none first zero bounded ended shows kept-is is = absurd none
opened vlenb agnostic a args None session steps m registers kept trial none first zero bounded ended shows kept-is is =
    let all : session.bound - session.steps ≡ bound_of a (scalars_of args) = omega (arith, zero, bounded) in
    let run : outcome vlenb (bound_of a (scalars_of args)) (start vlenb agnostic a.image a.certificate.parameters args) ≡ Ended steps m =
    rw (← first, ← all, ← zero) ended in
    let with_args = ap (λ (p : List Argument). record { end = end.Ended; steps = steps; args = record { places = p }; registers = registers; vlenb = vlenb }) kept-is in
    let with_registers = ap (λ (r : Registers). record { end = end.Ended; steps = steps; args = record { places = args_of m.memory }; registers = r; vlenb = vlenb }) shows in
    is ∙ rw run (with_args ∙ with_registers)
