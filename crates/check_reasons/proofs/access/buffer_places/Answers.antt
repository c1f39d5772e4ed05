-- A parameter's place is the first of those that are left.
use Rattle.std.proofs.Common.{◌<◌, ◌≤◌, length, arith, ap, ◌∙◌}
use Rattle.check_reasons.specs.Access.{buffer_places}
use Rattle.check_reasons.proofs.BufferPlaces.{places_done, places_more}
use Rattle.check_reasons.proofs.access.buffer_places.Goals as goal

pub loop-place-preserved : goal.loop-place-preserved
loop-place-preserved c =
    let inside : c.loop-place.place < length c.to_array-params.result = omega arith in (
      places_more c.to_array-params.result c.loop-place.place _ c.loop-place.places.items c.add_place.new.places.items _ inside c.loop-place.invariant.0
          c.add_place.ensures.items,
      omega (arith, c.add_place.ensures.len, c.loop-place.invariant.1),
    )

pub returns : goal.returns
returns c =
    let past : length c.to_array-params.result ≤ c.loop-place.place = omega arith in
    places_done c.to_array-params.result c.loop-place.place c.loop-place.places.items _ past c.loop-place.invariant.0
    ∙ ap (buffer_places 0) c.to_array-params.ensures
