-- What a kernel owns, and what it keeps.
use Rattle.std.specs.Prelude.{ℕ, ◌≡◌, ◌*◌, List, Option, None, Some, Ok}
use base.Fml.{Fml, feq}
use denote.RattleType.{RattleType}
use Rattle.std.specs.Box.Ownership.{box_owns}
use Rattle.std.specs.Ptr.{Ptr, null_ptr}
use Rattle.std.specs.contracts.impls.GlobalAllocator.TheImpl.{ghosts}
use Rattle.std.specs.declared.alloc.Global.{Global}
use Rattle.block_checker.specs.Accepted.{AcceptedView, Passes}
use Rattle.elf_image.specs.File.{image_of}
use Rattle.vreg_groups.specs.VectorLength.{vlenb_of}
use Rattle.rvvbox_c.specs.Accept.{answer_for}
use Rattle.rvvbox_c.specs.contracts.held.Held as held

-- what a kernel holds, as a type
abbrev pub held_row : RattleType
held_row = held.the_row

abbrev pub HeldView : Type 0
HeldView = held_row.Denot

abbrev pub global : Global
global = record { memory = record { seal = tt } }

-- nothing at null, and a box of what is kept
abbrev pub kernel_owns : Ptr → Option HeldView → Fml
kernel_owns p None = feq Ptr p null_ptr
kernel_owns p (Some a) = box_owns (ghosts.dealloc_token global) held_row p a

-- The image that the file spells, with the certificate in its note, which passed the check for
-- vector registers of `bits` bits.
abbrev pub IsKeptOf : List ℕ → ℕ → Option AcceptedView → Type 0
IsKeptOf file bits None = ⊥
IsKeptOf file bits (Some a) =
    (a.image ≡ image_of file) × (vlenb_of a.vlen * 8 ≡ bits) × Passes a
    × (answer_for bits file ≡ Ok a)

-- A status other than that all was done.
abbrev pub IsFailure : ℕ → Type 0
IsFailure status = status ≡ 0 → ⊥
