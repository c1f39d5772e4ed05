-- A place's zone is the first of those that are left.
use Rattle.std.proofs.Common.{◌<◌, ◌≤◌, ◌++◌, List, length, arith, ap, ◌∙◌}
use Rattle.std.specs.Option.{option_to_list}
use Rattle.region_mem.specs.declared.parameter.Param.{Param}
use Rattle.abs_domain.specs.Zones.{buffer_zones}
use Rattle.abs_domain.proofs.Lists.{zone_is, zones_more, zones_done}
use Rattle.abs_domain.proofs.zones.add_buffers.Goals as goal

pub loop-place-preserved : goal.loop-place-preserved
loop-place-preserved c =
    let is = zone_is _ _ _ _ _ c.buffer_zone.ensures c.to_array-params.ensures in
    let inside : c.loop-place.place < length c.to_array-params.result = omega arith in (
      zones_more c.to_array-params.result c.loop-place.place _ c.loop-place.zones.items c.add.new.zones.items _ inside c.loop-place.invariant.0
          (c.add.ensures.items ∙ ap (λ o. c.loop-place.zones.items ++ option_to_list o) is),
      omega (arith, c.add.ensures.len, c.loop-place.invariant.1),
    )

pub returns : goal.returns
returns c =
    let past : length c.to_array-params.result ≤ c.loop-place.place = omega arith in
    zones_done c.to_array-params.result c.loop-place.place c.loop-place.zones.items _ past c.loop-place.invariant.0
    ∙ ap (λ (ps : List Param). c.args.zones.now.items ++ buffer_zones ps 0 ps) c.to_array-params.ensures
