-- Each segment's zone is behind those of the ones before it; the stack and the buffers come last.
use Rattle.std.proofs.Common.{arith}
use Rattle.std.proofs.lemmas.Grind.{common_steps}
use Rattle.abs_domain.specs.Zones.{zones_of}
use Rattle.abs_domain.proofs.zones.memory_zones.Goals as goal

pub returns : goal.returns
unfolding zones_of
returns g c = grind (arith, common_steps)

pub loop-segment-preserved : goal.loop-segment-preserved
loop-segment-preserved g c = grind (arith, common_steps)

pub push-requires : goal.push-requires
unfolding zones_of
push-requires g c = grind (arith, common_steps)

pub push-requires-2 : goal.push-requires-2
unfolding zones_of
push-requires-2 g c = grind (arith, common_steps)

pub add_buffers-requires : goal.add_buffers-requires
unfolding zones_of
add_buffers-requires g c = grind (arith, common_steps)
