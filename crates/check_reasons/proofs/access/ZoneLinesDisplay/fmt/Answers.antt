-- A zone's line is the last one of those so far.
use Rattle.std.proofs.Common.{arith, refl, true, ◌<◌, length}
use Rattle.std.proofs.lemmas.Grind.{common_steps, put_two}
use Rattle.check_reasons.specs.Access.{zones_from}
use Rattle.check_reasons.proofs.BufferPlaces.{zones_snoc}
use Rattle.check_reasons.proofs.access.ZoneLinesDisplay.fmt.Goals as goal

pub loop-number-init : goal.loop-number-init
unfolding zones_from
loop-number-init g c = grind (arith, common_steps)

pub loop-number-preserved : goal.loop-number-preserved
loop-number-preserved g c = λ plain.
    let so_far = c.loop-number.invariant plain in
    let s = c.args.self.now.segments in
    let b = c.args.self.now.buffers.now in
    let inside : c.loop-number.number < length c.args.self.now.zones.now = omega (arith, c.loop-number-test.true) in
    put_two g.W.Write.write_str_gives _ _ _ _ _ _ so_far (c.in_ok-write.ensures.writes so_far.plain (refl {a = true})) (zones_snoc s b c.loop-number.number c.args.self.now.zones.now _ inside)
