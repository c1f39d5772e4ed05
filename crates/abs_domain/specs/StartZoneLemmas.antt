-- The areas that a run starts with have the zones of its image and parameters, in another order.
use Rattle.std.proofs.Common.{◌≡◌, ◌+◌, ℕ, Bool, true, false, cond, ltb, arith, refl, sym, ap, ◌∙◌, List, [], ◌∷◌, ◌++◌, map, length, length-append, append_assoc, Some}
use Rattle.std.specs.Prelude.{◌||◌}
use Rattle.std.specs.Option.{option_to_list}
use Rattle.std.specs.List.{AllByRecursion, list_any, slice_get, zip}
use Rattle.std.proofs.lemmas.Bool.{eqb-true, not-false}
use Rattle.std.proofs.lemmas.List.Folds.{list_any-append}
use Rattle.elf_image.specs.Image.{SegmentView, IsSegment}
use Rattle.region_mem.specs.declared.layout.TheConstants.{STACK_SIZE}
use Rattle.region_mem.specs.declared.parameter.Mode.{Mode}
use Rattle.region_mem.specs.declared.parameter.Mode.TheVariants as mode
use Rattle.region_mem.specs.declared.parameter.Param.{Param}
use Rattle.region_mem.specs.declared.parameter.Param.TheVariants as parameter
use Rattle.region_mem.specs.declared.arguments.Arg.TheVariants as argument
use Rattle.region_mem.specs.Areas.{Area}
use Rattle.region_mem.specs.Parameter.{Argument, is_wrong_kind, is_wrong_size}
use Rattle.region_mem.specs.Start.{segment_area, stack_area, is_writable, buffer_area, buffer_areas, insert_area, insert_areas, start_areas, start_memory}
use Rattle.region_mem.specs.ApartLemmas.{at_middle, length_segment, length_zeros}
use Rattle.region_mem.specs.MatchingLemmas.{NonePasses, nothing_wrong}
use Rattle.region_mem.specs.StartCodeLemmas.{starts_inside}
use Rattle.abs_domain.specs.declared.zones.Zone.{Zone}
use Rattle.abs_domain.specs.Zones.{zone_of, segment_zone, stack_zone, may_write, buffer_zone, buffer_zones, zones_of}
use Rattle.abs_domain.specs.StartZones.{ZonesAreThere}

-- What a test finds among the zones of areas does not hang on their order.
abbrev any : (Zone → Bool) → List Area → Bool
any p areas = list_any p (map zone_of areas)

or_swap : (a b c : Bool) → (a || (b || c)) ≡ (b || (a || c))
or_swap true true c = refl
or_swap true false c = refl
or_swap false b c = refl

or_move : (a b c : Bool) → (a || (b || c)) ≡ ((b || a) || c)
or_move true true c = refl
or_move true false c = refl
or_move false true c = refl
or_move false false c = refl

or_turned : (a s b : Bool) → (b || (s || (a || false))) ≡ ((a || (s || false)) || b)
or_turned true true true = refl
or_turned true true false = refl
or_turned true false true = refl
or_turned true false false = refl
or_turned false true true = refl
or_turned false true false = refl
or_turned false false true = refl
or_turned false false false = refl

insert_step : (p : Zone → Bool) (area other : Area) (areas : List Area) (b : Bool) → any p (insert_area area areas) ≡ (p (zone_of area) || any p areas)
    → any p (cond b (area ∷ other ∷ areas) (other ∷ insert_area area areas)) ≡ (p (zone_of area) || (p (zone_of other) || any p areas))
insert_step p area other areas true rest = refl
insert_step p area other areas false rest =
    ap (λ (t : Bool). p (zone_of other) || t) rest ∙ or_swap (p (zone_of other)) (p (zone_of area)) (any p areas)

insert_any : (p : Zone → Bool) (area : Area) (areas : List Area) → any p (insert_area area areas) ≡ (p (zone_of area) || any p areas)
unfolding insert_area
insert_any p area [] = refl
insert_any p area (other ∷ areas) = insert_step p area other areas (ltb area.first other.first) (insert_any p area areas)

inserts_any : (p : Zone → Bool) (others areas : List Area) → any p (insert_areas others areas) ≡ (any p others || any p areas)
unfolding insert_areas
inserts_any p [] areas = refl
inserts_any p (area ∷ others) areas =
    inserts_any p others (insert_area area areas)
    ∙ (ap (λ (t : Bool). any p others || t) (insert_any p area areas) ∙ or_move (any p others) (p (zone_of area)) (any p areas))

-- The zones of the segments' areas and of the stack's
abbrev zone_to : SegmentView → ℕ → Zone
zone_to s n = record { first = s.address; end = s.address + n; read = s.read; write = s.write }

segment_is : (s : SegmentView) → IsSegment s → zone_of (segment_area s) ≡ segment_zone s
unfolding segment_zone segment_area
segment_is s is = ap (zone_to s) (length_segment s is)

segments_are : (ss : List SegmentView) → AllByRecursion IsSegment ss → map zone_of (map segment_area ss) ≡ map segment_zone ss
segments_are [] all = refl
segments_are (s ∷ ss) all = rw (segment_is s all.0, segments_are ss all.1) refl

stack_is : zone_of stack_area ≡ stack_zone
unfolding stack_area stack_zone
stack_is = rw (length_zeros STACK_SIZE) refl

-- and of the buffers of arguments that match.
writable_is : (access : Mode) (size : ℕ) → is_writable (parameter.Buffer access size) ≡ may_write access
unfolding is_writable
writable_is mode.Read size = refl
writable_is mode.ReadWrite size = refl

place_is : (params others : List Param) (place : ℕ) (param : Param) (arg : Argument) (args : List Argument) → slice_get params place ≡ Some param
    → is_wrong_kind (param, arg) ≡ false → is_wrong_size (param, arg) ≡ false
    → map zone_of (buffer_areas params (place + 1) args) ≡ buffer_zones params (place + 1) others
    → map zone_of (buffer_areas params place (arg ∷ args)) ≡ option_to_list (buffer_zone params place param) ++ buffer_zones params (place + 1) others
unfolding buffer_areas buffer_area buffer_zone is_wrong_kind is_wrong_size
place_is params others place parameter.None argument.None args at kind size rest = rest
place_is params others place parameter.None (argument.Scalar value) args at kind size rest = absurd (cc)
place_is params others place parameter.None (argument.Buffer bytes) args at kind size rest = absurd (cc)
place_is params others place (parameter.Scalar lo hi) argument.None args at kind size rest = absurd (cc)
place_is params others place (parameter.Scalar lo hi) (argument.Scalar value) args at kind size rest = rest
place_is params others place (parameter.Scalar lo hi) (argument.Buffer bytes) args at kind size rest = absurd (cc)
place_is params others place (parameter.Buffer access n) argument.None args at kind size rest = absurd (cc)
place_is params others place (parameter.Buffer access n) (argument.Scalar value) args at kind size rest = absurd (cc)
place_is params others place (parameter.Buffer access n) (argument.Buffer bytes) args at kind size rest =
    rw (at, writable_is access n, eqb-true (length bytes) n (not-false _ size), rest) refl

buffers_are : (done todo params : List Param) (place : ℕ) (args : List Argument) → params ≡ done ++ todo → place ≡ length done
    → length args ≡ length todo → NonePasses is_wrong_kind (zip todo args) → NonePasses is_wrong_size (zip todo args)
    → map zone_of (buffer_areas params place args) ≡ buffer_zones params place todo
unfolding buffer_zones buffer_areas
buffers_are done [] params place [] whole at few kinds sizes = refl
buffers_are done [] params place (arg ∷ args) whole at few kinds sizes = absurd (omega arith)
buffers_are done (param ∷ todo) params place [] whole at few kinds sizes = absurd (omega arith)
buffers_are done (param ∷ todo) params place (arg ∷ args) whole at few kinds sizes =
    let here : slice_get params place ≡ Some param = rw (whole, at) (at_middle done todo param) in
    let next = buffers_are (done ++ param ∷ []) todo params (place + 1) args
    (whole ∙ sym (append_assoc done (param ∷ []) todo)) (omega (arith, at, length-append done (param ∷ []))) (omega arith) kinds.1 sizes.1 in
    place_is params todo place param arg args here kinds.0 sizes.0 next

-- So the same tests find something in both.
all_any : (p : Zone → Bool) (segments buffers : List Area) → any p (insert_areas buffers (insert_area stack_area (insert_areas segments [])))
    ≡ list_any p ((map zone_of segments ++ zone_of stack_area ∷ []) ++ map zone_of buffers)
all_any p segments buffers =
    let a : any p (insert_areas segments []) ≡ (any p segments || false) = inserts_any p segments [] in
    let s = insert_any p stack_area (insert_areas segments []) in
    let b = inserts_any p buffers (insert_area stack_area (insert_areas segments [])) in
    let left = list_any-append p (map zone_of segments) (zone_of stack_area ∷ []) in
    let whole = list_any-append p (map zone_of segments ++ zone_of stack_area ∷ []) (map zone_of buffers) in
    rw (b, s, a, whole, left) (or_turned (any p segments) (p (zone_of stack_area)) (any p buffers))

pub zones_are_there : ZonesAreThere
unfolding start_memory start_areas zones_of
zones_are_there image params args is valid eight places matching =
    let wrong = nothing_wrong params args matching in
    let segments = segments_are image.segments is.each in
    let buffers = buffers_are [] params params 0 args refl refl (omega arith) wrong.0 wrong.1 in
    record {
      inside = starts_inside image params args is valid eight places matching;
      there = λ p e. all_any p (map segment_area image.segments) (buffer_areas params 0 args) ∙ rw (segments, stack_is, buffers) e;
    }
