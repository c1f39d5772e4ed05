-- What a session owns, and what it keeps.
use Rattle.std.specs.Prelude.{Option, None, Some}
use base.Fml.{Fml, feq}
use denote.RattleType.{RattleType}
use Rattle.std.specs.Box.Ownership.{box_owns}
use Rattle.std.specs.Ptr.{Ptr, null_ptr}
use Rattle.std.specs.contracts.impls.GlobalAllocator.TheImpl.{ghosts}
use Rattle.rvvbox_c.specs.contracts.standing.Standing as standing
use Rattle.rvvbox_c.specs.Holds.{global}
use Rattle.rvvbox_c.specs.Standing.{OpenView}

-- what a session holds, as a type
abbrev pub standing_row : RattleType
standing_row = standing.the_row

abbrev pub StandingView : Type 0
StandingView = standing_row.Denot

-- the run that a session keeps, if it keeps one
abbrev pub run_kept : Option StandingView → Option OpenView
run_kept None = None
run_kept (Some o) = o

-- nothing at null, and a box of what is held
abbrev pub run_owns : Ptr → Option StandingView → Fml
run_owns p None = feq Ptr p null_ptr
run_owns p (Some s) = box_owns (ghosts.dealloc_token global) standing_row p s
