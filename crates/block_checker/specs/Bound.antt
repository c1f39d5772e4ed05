-- The greatest number of instructions of a run, as a certificate states it for the arguments.
use Rattle.std.specs.Prelude.{ℕ, List, map, slice_index, Option, Some, None}
use Rattle.region_mem.specs.declared.parameter.Param.{Param}
use Rattle.region_mem.specs.declared.arguments.Arg.TheVariants as argument
use Rattle.block_checker.specs.Words.{Argument, Block}
use Rattle.scalar_core.specs.Entry.{number_with}
use Rattle.abs_domain.specs.Starts.{start_value}
use Rattle.abs_state.specs.Held.{budget_at}
use Rattle.block_checker.specs.Passes.{block_at}
use Rattle.block_checker.specs.Accepted.{AcceptedView}

-- the number that a scalar argument is; 0 for every other argument
abbrev pub scalar_of : Argument → ℕ
scalar_of argument.None = 0
scalar_of (argument.Scalar value) = value
scalar_of (argument.Buffer bytes) = 0

abbrev pub scalars_of : List Argument → List ℕ
scalars_of args = map scalar_of args

-- what a register holds at the start of a run with these scalars, by place
abbrev pub start_number : List Param → List ℕ → ℕ → ℕ
start_number params scalars r = number_with (slice_index scalars) (start_value params r)

unfoldable pub bound_in : List Param → List ℕ → Option Block → ℕ
bound_in params scalars None = 0
bound_in params scalars (Some block) =
    budget_at block.budget (start_number params scalars)

-- the budget of the block at the entry, with the registers as they are at the start of a run
-- on these scalars
unfoldable pub bound_of : AcceptedView → List ℕ → ℕ
bound_of a scalars =
    bound_in a.certificate.parameters scalars (block_at a.image.entry a.certificate.blocks)
