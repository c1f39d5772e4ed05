-- A session's run is that of what it was opened with.
use Rattle.std.proofs.Common.{◌≡◌, ◌≤◌, ◌-◌, ℕ, List, subst, arith}
use Rattle.region_mem.specs.Parameter.{Argument, AreArguments}
use Rattle.vreg_groups.specs.declared.policies.Agnostic.{Agnostic}
use Rattle.machine.specs.Machine.{Machine}
use Rattle.machine.specs.Run.{Ended, outcome, outcome_from}
use Rattle.machine.specs.Start.{start}
use Rattle.block_checker.specs.Accepted.{AcceptedView}
use Rattle.block_checker.specs.Bound.{bound_of, scalars_of}
use Rattle.sandbox_run.specs.Session.{SessionView}
use Rattle.rvvbox_c.specs.Runs.{IsRun}

pub is_run : (vlenb : ℕ) (agnostic : Agnostic) (a : AcceptedView) (args named : List Argument) (session : SessionView) (steps : ℕ) (last : Machine) (bound : ℕ)
    → args ≡ named → AreArguments a.certificate.parameters args
    → session.machine ≡ start vlenb agnostic a.image a.certificate.parameters args → session.steps ≡ 0
    → session.bound ≡ bound_of a (scalars_of args)
    → outcome_from vlenb (session.bound - session.steps) session.steps session.machine ≡ Ended steps last
    → bound ≡ session.bound → steps ≤ bound
    → IsRun vlenb agnostic a named steps last
unfolding outcome
is_run vlenb agnostic a args named session steps last bound is matching machine none most ran same within =
    let all : session.bound - session.steps ≡ bound_of a (scalars_of args) = omega (arith, none, most) in
    subst (λ (l : List Argument). IsRun vlenb agnostic a l steps last) is (record {
      matching = matching;
      within = omega (arith, most, same, within);
      ended = rw (← machine, ← all, ← none) ran;
    })
