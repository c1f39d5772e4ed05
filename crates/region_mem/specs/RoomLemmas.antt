-- How much room buffers take.
use Rattle.std.proofs.Common.{◌≡◌, ℕ, zero, suc, ◌+◌, ◌*◌, ◌<◌, ◌≤◌, ◌^◌, true, List, [], ◌∷◌, length, take, arith, sum_by}
use Rattle.std.specs.List.{list_all}
use Rattle.std.proofs.lemmas.Bool.{and_parts}
use Rattle.std.proofs.lemmas.List.Sums.{sum_by-cons}
use Rattle.std.proofs.lemmas.Bool.Decides.{nat_tests}
use Rattle.region_mem.specs.Words.{Param, MAX_BUFFER_SIZE, PAGE_SIZE}
use Rattle.region_mem.specs.Parameter.{is_valid, room_of}

-- A valid parameter takes at most 16 MiB and a page.
pub room_of_valid : (param : Param) → is_valid param ≡ true → room_of param ≤ (MAX_BUFFER_SIZE + PAGE_SIZE)
unfolding is_valid room_of
room_of_valid Param.None h = omega arith
room_of_valid (Param.Scalar lo hi) h = omega arith
room_of_valid (Param.Buffer mode size) h = grind (arith, nat_tests)

pub sum_by_rooms : (place : ℕ) (params : List Param) → list_all is_valid params ≡ true → sum_by room_of (take place params) ≤ place * (MAX_BUFFER_SIZE + PAGE_SIZE)
sum_by_rooms zero params h = omega arith
sum_by_rooms (suc place) [] h = omega arith
sum_by_rooms (suc place) (param ∷ params) h =
    omega (arith, sum_by-cons room_of param (take place params), room_of_valid param (and_parts _ _ h).0, sum_by_rooms place params (and_parts _ _ h).1)

-- The room before each of eight places.
pub sum_by_room : (place : ℕ) (params : List Param) → list_all is_valid params ≡ true → place < length params → length params ≤ 8 → sum_by room_of (take place params) < 2 ^ 30
sum_by_room place params h below eight = omega (arith, sum_by_rooms place params h)
