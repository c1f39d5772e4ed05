-- An accepted image that is shared, as a type.
use denote.RattleType.{RattleType}
use Rattle.std.specs.contracts.alloc.Global as heap
use Rattle.std.specs.contracts.sync.Arc as arc
use Rattle.std.specs.contracts.impls.GlobalAllocator.TheImpl.{ghosts}
use Rattle.block_checker.specs.contracts.accepted.Accepted as accepted

abbrev pub shared_row : RattleType
shared_row = arc.the_row (accepted.the_row heap.the_row ghosts) heap.the_row ghosts

abbrev pub SharedView : Type 0
SharedView = shared_row.Denot
