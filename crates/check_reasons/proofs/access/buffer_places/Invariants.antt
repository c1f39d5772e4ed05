-- The places so far, and those of what is left, are all.
use Rattle.std.proofs.Common.{◌≡◌, ◌≤◌, ◌++◌, drop}
use Rattle.arrayvec.specs.ArrayVec.{array_vec_len}
use Rattle.check_reasons.specs.Access.{buffer_places}
use Rattle.check_reasons.proofs.access.buffer_places.Given as goal

abbrev pub invariant-loop-place : goal.invariant-loop-place
invariant-loop-place l =
    (l.places.items ++ buffer_places l.place (drop l.place l.param-items) ≡ buffer_places 0 l.param-items)
    × (array_vec_len l.places ≤ l.place)
