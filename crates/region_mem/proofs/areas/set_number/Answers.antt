-- What `search` finds late, or not at all.
use Rattle.std.proofs.Common.{arith}
use Rattle.std.proofs.lemmas.Grind.{common_steps}
use Rattle.region_mem.specs.AccessLemmas.{open_at, goes_at, admits_spans}
use Rattle.region_mem.specs.ExtentLemmas.{number_order, number_inside}
use Rattle.region_mem.proofs.areas.set_number.Goals as goal

pub offset_bounds-regions-place : goal.offset_bounds-regions-place
offset_bounds-regions-place g c = grind (arith, common_steps)

pub bounds-regions-place : goal.bounds-regions-place
bounds-regions-place g c = grind (arith, common_steps)

pub offset_bounds-regions-place-then-admits : goal.offset_bounds-regions-place-then-admits
offset_bounds-regions-place-then-admits g c = grind (arith, common_steps)

pub bounds-regions-place-then-admits : goal.bounds-regions-place-then-admits
bounds-regions-place-then-admits g c = grind (arith, common_steps)

pub returns-then-admits-clause-value : goal.returns-then-admits-clause-value
returns-then-admits-clause-value g c =
    grind (arith, open_at, goes_at, number_order, number_inside, admits_spans)
