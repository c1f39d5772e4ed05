-- A parameter's line is the last one of those so far.
use Rattle.std.proofs.Common.{arith, refl, true, ◌<◌, length}
use Rattle.std.proofs.lemmas.Grind.{common_steps, put_two}
use Rattle.job_reasons.specs.Loops.{param_lines}
use Rattle.job_reasons.proofs.ParamLemmas.{lines_snoc}
use Rattle.job_reasons.proofs.loops.ParamLinesDisplay.fmt.Goals as goal

pub loop-place-init : goal.loop-place-init
unfolding param_lines
loop-place-init g c = grind (arith, common_steps)

pub loop-place-preserved : goal.loop-place-preserved
loop-place-preserved g c = λ plain.
    let so_far = c.loop-place.invariant plain in
    let params = c.args.self.now.0.now in
    let inside : c.loop-place.place < length params = omega (arith, c.loop-place-test.true) in
    put_two g.W.Write.write_str_gives _ _ _ _ _ _ so_far (c.in_ok-write.ensures.writes so_far.plain (refl {a = true})) (lines_snoc c.loop-place.place params _ inside)
