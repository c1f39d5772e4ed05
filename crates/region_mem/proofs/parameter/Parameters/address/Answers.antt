-- What `search` finds late, or not at all.
use Rattle.std.proofs.Common.{arith}
use Rattle.region_mem.specs.RoomLemmas.{sum_by_room}
use Rattle.region_mem.specs.Parameter.{address_of}
use Rattle.region_mem.proofs.parameter.Parameters.address.Goals as goal

pub room_before-requires : goal.room_before-requires
unfolding address_of
room_before-requires c = grind (arith, sum_by_room)
