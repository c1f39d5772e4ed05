-- What a kernel holds may go to another thread: an accepted image that is shared, and what a run left.
-- So may what a session holds: a run, and what one left.
use denote.Param.Send.{IsSend, sendable}
use Rattle.std.specs.contracts.alloc.Global as heap
use Rattle.std.specs.contracts.impls.GlobalAllocator.TheImpl.{ghosts}
use Rattle.std.proofs.Crossing.{crosses}
use Rattle.region_mem.specs.contracts.stack.Stack as stack
use Rattle.machine.specs.contracts.spare.Spare as spare
use Rattle.rvvbox_c.proofs.Crosses.{shared_send}
use Rattle.rvvbox_c.proofs.RunCrosses.{memo_send, open_send}
use Rattle.rvvbox_c.specs.Holds.{held_row}
use Rattle.rvvbox_c.specs.Running.{standing_row}

pub stack_send : IsSend (stack.the_field heap.the_row ghosts).row
stack_send = search (sendable, crosses) depth 20

pub spare_send : IsSend (spare.the_field heap.the_row ghosts).row
spare_send = let a = stack_send in let b = memo_send in search (sendable, crosses) depth 20

pub held_send : IsSend held_row
held_send = let a = shared_send in let b = spare_send in search (sendable, crosses) depth 20

pub standing_send : IsSend standing_row
standing_send = let a = open_send in let b = spare_send in search (sendable, crosses) depth 20
