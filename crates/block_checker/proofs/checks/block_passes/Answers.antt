-- The block that is walked is the one at the place.
use Rattle.std.proofs.Common.{rules}
use Rattle.block_checker.proofs.Walks.{at_place}
use Rattle.block_checker.proofs.Explaining.{block_answers, block_faults, start_there}
use Rattle.block_checker.proofs.checks.block_passes.Goals as goal

pub returns-clause-answer : goal.returns-clause-answer
returns-clause-answer g c = λ block there.
    block_answers c.args.image.now c.args.certificate.now block c.index.result.now.start c.set_block.new.self _
    (start_there _ c.args.index c.index.result.now block there (search rules)) (c.set_block.ensures.state block there) c.walk.ensures.answer

pub returns-clause-stop : goal.returns-clause-stop
returns-clause-stop g c =
    let place = at_place _ c.args.index c.requires in
    block_faults c.args.image.now c.args.certificate.now c.args.index place.0 c.index.result.now.start c.set_block.new.self _ _
    c.contents.ensures.certificate place.1 (start_there _ c.args.index c.index.result.now place.0 place.1 (search rules))
    (c.set_block.ensures.state place.0 place.1) c.walk.ensures.answer c.walk.ensures.stop
