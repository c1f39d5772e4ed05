use Rattle.std.proofs.Common.{arith, get_or, false, ◌∙◌, sym}
use Rattle.std.proofs.lemmas.List.{get_or_default}
use Rattle.vector_core.specs.Moves.{chosen}
use Rattle.vector_core.proofs.Numbers.{zip3_more, zip3_end}
use Rattle.vector_core.proofs.moves.choose_each.Goals as goal

pub loop-i-preserved : goal.loop-i-preserved
loop-i-preserved g c =
    zip3_more chosen c.loop-i.values c.args.b.now c.args.bits.now c.loop-i.i c.index-values-i.result c.index-b-i.result
    (get_or c.args.bits.now c.loop-i.i false) c.choose.result (omega arith) (omega arith) (omega arith)
    c.index-values-i.is c.index-b-i.is (get_or_default c.args.bits.now c.loop-i.i false _ (omega arith)) c.choose.ensures
    ∙ c.loop-i.invariant

pub returns : goal.returns
returns g c =
    sym (zip3_end chosen c.loop-i.values c.args.b.now c.args.bits.now c.loop-i.i (omega arith)) ∙ c.loop-i.invariant
