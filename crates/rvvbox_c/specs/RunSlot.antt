-- What a place for a pointer to a session owns, and what it holds.
use Rattle.std.specs.Prelude.{Option, None, Some}
use base.Fml.{Fml, feq}
use denote.RattleType.{RattleType}
use Rattle.std.specs.Box.Ownership.{box_owns}
use Rattle.std.specs.Ptr.{Ptr, null_ptr}
use Rattle.std.specs.contracts.impls.GlobalAllocator.TheImpl.{ghosts}
use Rattle.rvvbox_c.specs.contracts.running.Run as run
use Rattle.rvvbox_c.specs.Holds.{global}

-- a session, as a type
abbrev pub run_row : RattleType
run_row = run.the_row

abbrev pub RunView : Type 0
RunView = run_row.Denot

-- nothing at null, and a box of a session
abbrev pub run_slot_owns : Ptr → Option RunView → Fml
run_slot_owns p None = feq Ptr p null_ptr
run_slot_owns p (Some r) = box_owns (ghosts.dealloc_token global) run_row p r
