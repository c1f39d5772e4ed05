-- No block begins at the address where the one at the search's place does not, or where there is none.
use Rattle.std.proofs.Common.{arith}
use Rattle.std.proofs.lemmas.Grind.{common_steps}
use Rattle.block_checker.proofs.SearchLemmas.{found_elsewhere, found_past}
use Rattle.block_checker.proofs.checks.find_block.Goals.{else-place-blocks-via-then-place-blocks+else-blocks-place, else-place-blocks-via-else-place-blocks}
use Rattle.block_checker.proofs.checks.find_block.Goals as goal

pub returns-else-place-blocks : goal.returns-else-place-blocks
returns-else-place-blocks c =
    elim c.else-place-blocks.branch [
      | else-place-blocks-via-then-place-blocks+else-blocks-place w ↦ found_elsewhere c.args.address c.args.blocks.now c.count_below-place.result
          w.index-blocks-place.result c.requires c.count_below-place.ensures.split w.if-blocks-place.false
      | else-place-blocks-via-else-place-blocks w ↦ found_past c.args.address c.args.blocks.now c.count_below-place.result c.requires
          c.count_below-place.ensures.split (grind (arith, common_steps, w.if-place-blocks.false))
    ]
