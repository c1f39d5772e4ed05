-- What `search` finds late, or not at all.
use Rattle.region_mem.proofs.LendLemmas.{found_below, found_is, found_some, window_is}
use Rattle.region_mem.proofs.WindowWrites.{window_spans}
use Rattle.std.proofs.Common.{arith}
use Rattle.std.proofs.lemmas.Grind.{common_steps}
use Rattle.region_mem.proofs.areas.window_place.Goals as goal

pub returns-clause-place : goal.returns-clause-place
returns-clause-place g c = grind (arith, common_steps)

pub returns-clause-below : goal.returns-clause-below
returns-clause-below g c = grind (arith, common_steps)

pub unreachable-requires : goal.unreachable-requires
unreachable-requires g c = grind (arith, window_spans, found_below, found_is, found_some, window_is)

pub returns-clause-inside : goal.returns-clause-inside
returns-clause-inside g c =
    grind (arith, window_spans, found_below, found_is, found_some, window_is)

pub returns-clause-part : goal.returns-clause-part
returns-clause-part g c = grind (arith, window_spans, found_below, found_is, found_some, window_is)
