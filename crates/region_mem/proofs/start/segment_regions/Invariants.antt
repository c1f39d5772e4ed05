-- What is left to insert leads to what all of it does.
use Rattle.std.proofs.Common.{◌≡◌, ◌+◌, ◌≤◌, [], length, map, drop, vec_len, vec_capacity}
use Rattle.region_mem.specs.Start.{segment_area, insert_areas}
use Rattle.region_mem.proofs.start.segment_regions.Given as goal

abbrev pub invariant-loop-segment : goal.invariant-loop-segment
invariant-loop-segment g l =
    (insert_areas (map segment_area (drop l.segment-index l.segments)) l.regions.items ≡ insert_areas (map segment_area l.segments) [])
    × (vec_len l.regions ≡ l.segment-index)
    × (length l.segments + 9 ≤ vec_capacity l.regions)
