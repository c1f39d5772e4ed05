-- Areas that are put in order are the same areas.
use Rattle.std.proofs.Common.{Bool, true, false, cond, List, [], ◌∷◌, ◌++◌, map, ltb, IsPermutation}
use Rattle.std.proofs.lemmas.List.Sorted.{IsPermutation-refl, IsPermutation-cons, IsPermutation-trans, IsPermutation-sym}
use Rattle.std.proofs.lemmas.List.Sorted.{IsPermutation-append_left, IsPermutation-append_comm, IsPermutation-middle}
use Rattle.region_mem.specs.Areas.{Area}
use Rattle.region_mem.specs.Start.{segment_area, stack_area, buffer_areas, insert_area, insert_areas, start_areas, start_memory}
use Rattle.region_mem.specs.StartLaws.{StartsWithNothingElse}

by_test : (area other : Area) (areas inserted : List Area) → IsPermutation (area ∷ areas) inserted → (t : Bool)
    → IsPermutation (area ∷ other ∷ areas) (cond t (area ∷ other ∷ areas) (other ∷ inserted))
by_test area other areas inserted same true = IsPermutation-refl (area ∷ other ∷ areas)
by_test area other areas inserted same false =
    IsPermutation-trans (area ∷ other ∷ areas) (other ∷ area ∷ areas) (other ∷ inserted)
    (IsPermutation-sym (other ∷ area ∷ areas) (area ∷ other ∷ areas) (IsPermutation-middle (other ∷ []) area areas))
    (IsPermutation-cons other (area ∷ areas) inserted same)

insert_same : (area : Area) (areas : List Area) → IsPermutation (area ∷ areas) (insert_area area areas)
unfolding insert_area
insert_same area [] = IsPermutation-refl (area ∷ [])
insert_same area (other ∷ areas) = by_test area other areas (insert_area area areas) (insert_same area areas) (ltb area.first other.first)

inserts_same : (others areas : List Area) → IsPermutation (areas ++ others) (insert_areas others areas)
unfolding insert_areas
inserts_same [] areas = IsPermutation-append_comm areas []
inserts_same (area ∷ others) areas =
    let inserted = insert_area area areas in
    let front = IsPermutation-middle areas area others in
    let there : IsPermutation (area ∷ areas ++ others) (inserted ++ others) = IsPermutation-append_left others (area ∷ areas) inserted (insert_same area areas) in
    IsPermutation-trans (areas ++ area ∷ others) (inserted ++ others) (insert_areas others inserted)
    (IsPermutation-trans (areas ++ area ∷ others) (area ∷ areas ++ others) (inserted ++ others) front there)
    (inserts_same others inserted)

pub starts_with_nothing_else : StartsWithNothingElse
unfolding start_memory start_areas
starts_with_nothing_else image params args =
    let segments : List Area = map segment_area image.segments in
    let buffers : List Area = buffer_areas params 0 args in
    let placed = insert_areas segments [] in
    let first = inserts_same segments [] in
    let stack = IsPermutation-trans (stack_area ∷ segments) (stack_area ∷ placed) (insert_area stack_area placed)
    (IsPermutation-cons stack_area segments placed first) (insert_same stack_area placed) in
    let whole = IsPermutation-append_left buffers (stack_area ∷ segments) (insert_area stack_area placed) stack in
    IsPermutation-trans (segments ++ stack_area ∷ buffers) (insert_area stack_area placed ++ buffers) _
    (IsPermutation-trans (segments ++ stack_area ∷ buffers) (stack_area ∷ segments ++ buffers) (insert_area stack_area placed ++ buffers)
    (IsPermutation-middle segments stack_area buffers) whole)
    (inserts_same buffers (insert_area stack_area placed))
