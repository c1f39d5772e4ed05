-- What a place for a pointer to a kernel owns, and what it holds.
use Rattle.std.specs.Prelude.{Option, None, Some}
use base.Fml.{Fml, feq}
use denote.RattleType.{RattleType}
use Rattle.std.specs.Arc.{arc_value}
use Rattle.std.specs.Box.Ownership.{box_owns}
use Rattle.std.specs.Option.{option_map}
use Rattle.std.specs.Ptr.{Ptr, null_ptr}
use Rattle.std.specs.contracts.impls.GlobalAllocator.TheImpl.{ghosts}
use Rattle.block_checker.specs.Accepted.{AcceptedView}
use Rattle.rvvbox_c.specs.contracts.kept.Kernel as kernel
use Rattle.rvvbox_c.specs.Holds.{HeldView, global}

-- a kernel, as a type
abbrev pub kernel_row : RattleType
kernel_row = kernel.the_row

abbrev pub KernelView : Type 0
KernelView = kernel_row.Denot

-- the image that a kernel keeps, if it keeps one
abbrev pub image_kept : Option HeldView → Option AcceptedView
image_kept held = option_map arc_value held

-- nothing at null, and a box of a kernel
abbrev pub slot_owns : Ptr → Option KernelView → Fml
slot_owns p None = feq Ptr p null_ptr
slot_owns p (Some k) = box_owns (ghosts.dealloc_token global) kernel_row p k
