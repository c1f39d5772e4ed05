-- A session may go to another thread: it owns a box of a run that was opened, or nothing.
use Rattle.std.proofs.Common.{Option}
use base.Shift.{Keyless}
use denote.RawPtr.{Ptr}
use denote.Struct.Struct.{exits_of}
use denote.Struct.Owning.{shape, fields, to}
use denote.Param.Send.{IsSend, AllSend, owning_send, struct_send}
use Rattle.std.specs.declared.option.Option.TheVariants.{None, Some}
use Rattle.rvvbox_c.specs.Running.{StandingView, standing_row, run_owns}
use Rattle.rvvbox_c.proofs.HeldCrosses.{standing_send}
use Rattle.rvvbox_c.proofs.PointerCrosses.{boxed, quiet, pointer_send}
use Rattle.rvvbox_c.specs.contracts.running.Run.{the_row, the_type}

owned : (p : Ptr) (x : Option StandingView) → Keyless (run_owns p x)
owned p None = tt
owned p (Some a) = boxed standing_row standing_send p a

pub send : IsSend the_row
send = let all : AllSend (fields the_type) = (pointer_send, tt) in owning_send the_type all (λ d. owned d.at d.kept)
    (λ k. quiet (to the_type) (exits_of k (fields the_type)) ((struct_send (shape the_type) all).leaving k))
