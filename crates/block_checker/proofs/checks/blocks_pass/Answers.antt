use Rattle.std.proofs.Common.{◌<◌, ◌≤◌, rules, arith, sym, ◌∙◌, length}
use Rattle.std.proofs.lemmas.Grind.{common_steps}
use Rattle.block_checker.proofs.Walks.{blocks_next, blocks_stop, blocks_none}
use Rattle.block_checker.proofs.checks.blocks_pass.Goals as goal

pub returns-in-Err-clause-answer : goal.returns-in-Err-clause-answer
returns-in-Err-clause-answer g c =
    let l : c.loop-index.index < length c.args.certificate.now.blocks = first_of (search rules, grind (arith, common_steps)) in
    sym (blocks_stop c.args.image.now c.args.certificate.now c.args.certificate.now.blocks c.loop-index.index c.in-Err.fault.error l c.in-Err.ensures.answer)
    ∙ c.loop-index.invariant

pub loop-index-preserved : goal.loop-index-preserved
loop-index-preserved g c =
    let l : c.loop-index.index < length c.args.certificate.now.blocks = first_of (search rules, grind (arith, common_steps)) in
    sym (blocks_next c.args.image.now c.args.certificate.now c.args.certificate.now.blocks c.loop-index.index l c.in_default.ensures.answer)
    ∙ c.loop-index.invariant

pub returns-clause-answer : goal.returns-clause-answer
returns-clause-answer g c =
    let l : length c.args.certificate.now.blocks ≤ c.loop-index.index = first_of (search rules, grind (arith, common_steps)) in
    sym (blocks_none c.args.image.now c.args.certificate.now c.args.certificate.now.blocks c.loop-index.index l) ∙ c.loop-index.invariant
