-- The zones of the segments so far.
use Rattle.std.proofs.Common.{◌≡◌, ◌≤◌, length, map, take}
use Rattle.abs_domain.specs.Zones.{segment_zone}
use Rattle.abs_domain.proofs.zones.memory_zones.Given as goal

abbrev pub invariant-loop-segment : goal.invariant-loop-segment
invariant-loop-segment g l =
    (l.zones.items ≡ map segment_zone (take l.segment-index l.segment-items)) × (length l.segment-items ≤ 16)
