-- The bound of a run is a budget.
use Rattle.std.specs.Prelude.{◌≡◌, List, length, Some}
use Rattle.block_checker.specs.Words.{Argument, Block, vlenb_of}
use Rattle.region_mem.specs.Parameter.{AreArguments}
use Rattle.vreg_groups.specs.declared.policies.Agnostic.{Agnostic}
use Rattle.scalar_core.specs.Hart.{reg_of}
use Rattle.machine.specs.Start.{start}
use Rattle.block_checker.specs.Passes.{block_at}
use Rattle.block_checker.specs.Accepted.{AcceptedView}
use Rattle.abs_state.specs.Held.{budget_at}
use Rattle.block_checker.specs.Bound.{bound_of, scalars_of}

-- For the scalars of arguments that match, the bound is the budget of the block at the entry, with
-- its registers as they are at the start.
abbrev pub BoundIsBudget : AcceptedView → Type 0
BoundIsBudget a =
    (args : List Argument) (agnostic : Agnostic) → length args ≡ 8 →
    AreArguments a.certificate.parameters args →
    let s = start (vlenb_of a.vlen) agnostic a.image a.certificate.parameters args in
    (block : Block) × (block_at a.image.entry a.certificate.blocks ≡ Some block)
    × (bound_of a (scalars_of args) ≡ budget_at block.budget (λ r. reg_of r s.hart))
