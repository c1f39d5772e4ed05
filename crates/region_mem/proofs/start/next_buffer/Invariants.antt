-- The buffers that are left are all of them.
use Rattle.std.proofs.Common.{◌≡◌, filter}
use Rattle.std.specs.Vec.Iter.{into_iter_items, into_iter_len}
use Rattle.region_mem.specs.Memory.{is_buffer_area}
use Rattle.region_mem.proofs.start.next_buffer.Given as goal

abbrev pub invariant-loop-region : goal.invariant-loop-region
invariant-loop-region g l = filter is_buffer_area (into_iter_items l.regions) ≡ filter is_buffer_area (into_iter_items l.initial.regions)

abbrev pub decreases-loop-region : goal.decreases-loop-region
decreases-loop-region g l = into_iter_len l.regions
