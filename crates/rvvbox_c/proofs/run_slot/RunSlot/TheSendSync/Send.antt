-- A pointer to a session may go to another thread, as the session may.
use Rattle.std.proofs.Common.{Option}
use base.Shift.{Keyless}
use denote.RawPtr.{Ptr}
use denote.Struct.Struct.{exits_of}
use denote.Struct.Owning.{shape, fields, to}
use denote.Param.Send.{IsSend, AllSend, owning_send, struct_send}
use Rattle.std.specs.declared.option.Option.TheVariants.{None, Some}
use Rattle.rvvbox_c.specs.RunSlot.{RunView, run_row, run_slot_owns}
use Rattle.rvvbox_c.proofs.running.Run.TheSendSync.{the_send as run_send}
use Rattle.rvvbox_c.proofs.PointerCrosses.{boxed, quiet, pointer_send}
use Rattle.rvvbox_c.specs.contracts.run_slot.RunSlot.{the_row, the_type}

owned : (p : Ptr) (x : Option RunView) → Keyless (run_slot_owns p x)
owned p None = tt
owned p (Some a) = boxed run_row run_send p a

pub send : IsSend the_row
send = let all : AllSend (fields the_type) = (pointer_send, tt) in owning_send the_type all (λ d. owned d.at d.held)
    (λ k. quiet (to the_type) (exits_of k (fields the_type)) ((struct_send (shape the_type) all).leaving k))
