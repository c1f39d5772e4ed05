use Rattle.std.proofs.Common.{◌<◌, rules, arith, refl, sym, ◌∙◌}
use Rattle.abs_state.specs.declared.state.TheConstants.{MOST_WORDS}
use Rattle.block_checker.proofs.Walks.{walk_more, walk_refused}
use Rattle.block_checker.proofs.Explaining.{known_next, stops_at}
use Rattle.block_checker.proofs.checks.walk.Goals as goal

pub returns-in-Err-clause-answer : goal.returns-in-Err-clause-answer
returns-in-Err-clause-answer g c =
    let l : c.loop-steps._steps < MOST_WORDS = first_of (search rules, omega (arith, c.loop-steps-test.true)) in
    sym (walk_refused c.args.image.now c.args.certificate.now c.loop-steps._steps c.loop-steps.pc c.loop-steps.state c.in-Err.error l
    (sym c.in-Err.ensures.value))
    ∙ c.loop-steps.invariant.rest

pub returns-in-Err-clause-stop : goal.returns-in-Err-clause-stop
returns-in-Err-clause-stop g c =
    let l : c.loop-steps._steps < MOST_WORDS = first_of (search rules, omega (arith, c.loop-steps-test.true)) in
    stops_at c.args.image.now c.args.certificate.now c.args.start c.loop-steps._steps c.loop-steps.pc c.args.state.now c.loop-steps.state
    _ c.in-Err.error c.in-Err.kept c.loop-steps.invariant.place l c.loop-steps.invariant.known
    c.in-Err.ensures.at c.in-Err.ensures.word c.in-Err.ensures.kept

pub loop-steps-preserved : goal.loop-steps-preserved
loop-steps-preserved g c =
    let l : c.loop-steps._steps < MOST_WORDS = first_of (search rules, omega (arith, c.loop-steps-test.true)) in
    let value = rw c.in-Ok-On.field-0-is at c.in-Ok-On.ensures.value in
    let counts = rw c.in-Ok-On.field-0-is at c.in-Ok-On.ensures.counts in
    record {
      words = omega (arith, counts refl, c.loop-steps.invariant.words);
      rest =
          sym (walk_more c.args.image.now c.args.certificate.now c.loop-steps._steps c.loop-steps.pc c.loop-steps.state c.word_passes.new.state l (sym value))
          ∙ c.loop-steps.invariant.rest;
      place = omega (arith, c.loop-steps.invariant.place);
      known =
          known_next c.args.image.now c.args.certificate.now c.args.start c.loop-steps._steps c.loop-steps.pc c.args.state.now c.loop-steps.state
          c.word_passes.new.state c.loop-steps.invariant.place c.loop-steps.invariant.known (sym value);
    }
