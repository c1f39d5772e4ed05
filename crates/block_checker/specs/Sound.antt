-- What passes the check ends, within the number that its certificate states, without a fault.
use Rattle.std.specs.Prelude.{ℕ, ◌≡◌, ◌≤◌, true, List, length, Some, Ok}
use Rattle.block_checker.specs.Words.{ImageView, Argument, vlenb_of, Vlen, Block, CertificateView}
use Rattle.elf_image.specs.Image.{IsImage}
use Rattle.std.specs.List.{AllByRecursion}
use Rattle.region_mem.specs.Laws.{BringsBytes}
use Rattle.region_mem.specs.Parameter.{AreArguments}
use Rattle.vreg_groups.specs.declared.policies.Agnostic.{Agnostic}
use Rattle.scalar_core.specs.Hart.{reg_of}
use Rattle.machine.specs.Machine.{Machine}
use Rattle.machine.specs.Run.{after, has_ended}
use Rattle.machine.specs.Start.{start}
use Rattle.cert_note.specs.Certificate.{IsCertificate}
use Rattle.block_checker.specs.Passes.{block_at, checked}
use Rattle.block_checker.specs.Accepted.{AcceptedView}
use Rattle.abs_state.specs.Held.{budget_at}
use Rattle.block_checker.specs.Bound.{bound_of, scalars_of}

-- After at most n steps without a fault the run from here has ended.
abbrev pub IsWellBehaved : ℕ → ℕ → Machine → Type 0
IsWellBehaved vlenb n m =
    (k : ℕ) × (t : Machine) × (k ≤ n) × (after vlenb m k ≡ Ok t) × (has_ended t ≡ true)

-- On arguments that match, a run of what passes is well-behaved for the budget of the block at the
-- entry, with its register as it is at the start.
abbrev pub PassingRunsEnd : Type 0
PassingRunsEnd =
    (image : ImageView) (certificate : CertificateView) (vlen : Vlen) (args : List Argument)
    (agnostic : Agnostic) (block : Block) → IsImage image → IsCertificate certificate →
    length args ≡ 8 → AreArguments certificate.parameters args → AllByRecursion BringsBytes args →
    checked image certificate vlen ≡ Ok tt →
    block_at image.entry certificate.blocks ≡ Some block →
    let s = start (vlenb_of vlen) agnostic image certificate.parameters args in
    IsWellBehaved (vlenb_of vlen) (budget_at block.budget (λ r. reg_of r s.hart)) s

-- Each run on arguments that match ends within the bound.
abbrev pub RunsEnd : AcceptedView → Type 0
RunsEnd a =
    (args : List Argument) (agnostic : Agnostic) → length args ≡ 8 →
    AreArguments a.certificate.parameters args → AllByRecursion BringsBytes args →
    IsWellBehaved (vlenb_of a.vlen) (bound_of a (scalars_of args))
    (start (vlenb_of a.vlen) agnostic a.image a.certificate.parameters args)
