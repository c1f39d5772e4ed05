-- What the places so far asked for has been appended.
use Rattle.std.proofs.Common.{◌≡◌, ◌≤◌, ◌+◌, ◌++◌, drop}
use Rattle.arrayvec.specs.ArrayVec.{array_vec_len}
use Rattle.abs_domain.specs.Zones.{buffer_zones}
use Rattle.abs_domain.proofs.zones.add_buffers.Given as goal

abbrev pub invariant-loop-place : goal.invariant-loop-place
invariant-loop-place l =
    (l.zones.items ++ buffer_zones l.param-items l.place (drop l.place l.param-items) ≡ l.initial.zones.items ++ buffer_zones l.param-items 0 l.param-items)
    × (array_vec_len l.zones ≤ 17 + l.place)
