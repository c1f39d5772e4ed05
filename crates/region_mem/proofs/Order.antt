-- Areas in the order of their first addresses.
use Rattle.std.proofs.Common.{◌≡◌, ℕ, suc, ◌+◌, ◌<◌, ◌≤◌, Bool, true, false, not, cond, List, [], ◌∷◌, length, drop, ltb, arith, sym, ap, refl, ◌∙◌, None, get_or, map, drop-cons, add-one}
use Rattle.std.specs.List.{position, position_or_len, insert}
use Rattle.std.proofs.lemmas.Grind.{common_steps}
use Rattle.region_mem.proofs.Lists.{eight_found}
use Rattle.std.proofs.Math.Numerals.{one-add}
use Rattle.region_mem.specs.Areas.{Area}
use Rattle.std.proofs.lemmas.List.{drop_all}
use Rattle.elf_image.specs.Image.{SegmentView}
use Rattle.region_mem.specs.Start.{segment_area, insert_area, insert_areas, buffer_areas}
use Rattle.region_mem.specs.Words.{Param, Arg}
use Rattle.region_mem.specs.Parameter.{Argument}

insert_step : (area other : Area) (areas : List Area) (b : Bool) (n : ℕ) → insert_area area areas ≡ insert areas n area →
    cond b (area ∷ other ∷ areas) (other ∷ insert_area area areas) ≡ insert (other ∷ areas) (cond (not b) (1 + n) 0) area
insert_step area other areas true n rest = refl
insert_step area other areas false n rest = rw one-add (ap (λ xs. other ∷ xs) rest)

-- An area is inserted in front of the first that begins above it.
pub insert_area_at : (area : Area) (areas : List Area) → insert_area area areas ≡ insert areas (position_or_len (λ other. ltb area.first other.first) areas) area
unfolding insert_area
insert_area_at area [] = refl
insert_area_at area (other ∷ areas) = insert_step area other areas (ltb area.first other.first) _ (insert_area_at area areas)

-- The segment at a place is inserted before those behind it.
pub insert_areas_more : (segments : List SegmentView) (i : ℕ) (d : SegmentView) (areas : List Area) → i < length segments →
    insert_areas (map segment_area (drop i segments)) areas ≡ insert_areas (map segment_area (drop (i + 1) segments)) (insert_area (segment_area (get_or segments i d)) areas)
unfolding insert_areas
insert_areas_more segments i d areas below = rw (add-one, drop-cons segments i d) refl

pub insert_areas_all : (segments : List SegmentView) (i : ℕ) (areas : List Area) → length segments ≤ i → insert_areas (map segment_area (drop i segments)) areas ≡ areas
unfolding insert_areas
insert_areas_all segments i areas past = rw (drop_all i segments past) refl

length_step : (b : Bool) (n k : ℕ) → n ≤ k → cond (not b) (1 + n) 0 ≤ suc k
length_step true n k h = omega arith
length_step false n k h = omega arith

-- The same, with what the code computed in its place.
pub insert_area_place : (area : Area) (areas others : List Area) (address i : ℕ) → address ≡ area.first → others ≡ areas →
    i ≡ position_or_len (λ other. ltb address other.first) others → insert_area area areas ≡ insert areas i area
insert_area_place area areas others address i first same place =
    let here : i ≡ position_or_len (λ other. ltb area.first other.first) areas = rw (first, same) at place in
    rw here (insert_area_at area areas)

length_position : (address : ℕ) (areas : List Area) → position_or_len (λ other. ltb address other.first) areas ≤ length areas
length_position address [] = omega arith
length_position address (area ∷ areas) = length_step (ltb address area.first) _ _ (length_position address areas)

-- Where no place is found it is the end.
pub position_none : (address : ℕ) (areas : List Area) → position (λ other. ltb address other.first) areas ≡ None → length areas ≡ position_or_len (λ other. ltb address other.first) areas
position_none address areas none = grind (arith, common_steps, length_position address areas)

-- A place's buffer is inserted before those of the places behind it.
pub insert_buffer : (params : List Param) (place : ℕ) (arg : Argument) (args : List Argument) (areas : List Area) →
    insert_areas (buffer_areas params place (arg ∷ args)) areas ≡ insert_areas (buffer_areas params (place + 1) args) (insert_areas (buffer_areas params place (arg ∷ [])) areas)
unfolding insert_areas buffer_areas
insert_buffer params place Arg.None args areas = refl
insert_buffer params place (Arg.Scalar value) args areas = refl
insert_buffer params place (Arg.Buffer bytes) args areas = refl

-- one place after another
pub insert_buffer_step : (params : List Param) (place : ℕ) (arg : Argument) (args : List Argument) (areas next : List Area) →
    next ≡ insert_areas (buffer_areas params place (arg ∷ [])) areas →
    insert_areas (buffer_areas params place (arg ∷ args)) areas ≡ insert_areas (buffer_areas params (place + 1) args) next
insert_buffer_step params place arg args areas next h = rw h (insert_buffer params place arg args areas)

-- all eight places
pub insert_eight : (params : List Param) (args : List Argument) (areas r1 r2 r3 r4 r5 r6 r7 r8 : List Area) (a b c d e f g h : Argument) →
    r1 ≡ insert_areas (buffer_areas params 0 (a ∷ [])) areas →
    r2 ≡ insert_areas (buffer_areas params 1 (b ∷ [])) r1 →
    r3 ≡ insert_areas (buffer_areas params 2 (c ∷ [])) r2 →
    r4 ≡ insert_areas (buffer_areas params 3 (d ∷ [])) r3 →
    r5 ≡ insert_areas (buffer_areas params 4 (e ∷ [])) r4 →
    r6 ≡ insert_areas (buffer_areas params 5 (f ∷ [])) r5 →
    r7 ≡ insert_areas (buffer_areas params 6 (g ∷ [])) r6 →
    r8 ≡ insert_areas (buffer_areas params 7 (h ∷ [])) r7 →
    length args ≡ 8 → a ≡ get_or args 0 a → b ≡ get_or args 1 b → c ≡ get_or args 2 c → d ≡ get_or args 3 d → e ≡ get_or args 4 e → f ≡ get_or args 5 f → g ≡ get_or args 6 g → h ≡ get_or args 7 h →
    r8 ≡ insert_areas (buffer_areas params 0 args) areas
insert_eight params args areas r1 r2 r3 r4 r5 r6 r7 r8 a b c d e f g h i1 i2 i3 i4 i5 i6 i7 i8 n s0 s1 s2 s3 s4 s5 s6 s7 =
    rw (eight_found args a b c d e f g h n s0 s1 s2 s3 s4 s5 s6 s7)
    (sym (insert_buffer_step params 0 a (b ∷ c ∷ d ∷ e ∷ f ∷ g ∷ h ∷ []) areas r1 i1 ∙ insert_buffer_step params 1 b (c ∷ d ∷ e ∷ f ∷ g ∷ h ∷ []) r1 r2 i2 ∙ insert_buffer_step params 2 c (d ∷ e ∷ f ∷ g ∷ h ∷ []) r2 r3 i3 ∙ insert_buffer_step params 3 d (e ∷ f ∷ g ∷ h ∷ []) r3 r4 i4 ∙ insert_buffer_step params 4 e (f ∷ g ∷ h ∷ []) r4 r5 i5 ∙ insert_buffer_step params 5 f (g ∷ h ∷ []) r5 r6 i6 ∙ insert_buffer_step params 6 g (h ∷ []) r6 r7 i7 ∙ sym i8))
