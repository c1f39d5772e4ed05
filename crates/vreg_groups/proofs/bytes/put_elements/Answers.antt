use Rattle.std.proofs.Common.{arith, length}
use Rattle.vreg_groups.specs.PlaceLemmas.{begins_inside, replaced_none}
use Rattle.vreg_groups.specs.PartLemmas.{put_more, puts_are}
use Rattle.vreg_groups.proofs.bytes.put_elements.Goals as goal

pub loop-i-init : goal.loop-i-init
loop-i-init g c = replaced_none _ _ _ _

pub loop-i-preserved : goal.loop-i-preserved
loop-i-preserved g c =
    let room = begins_inside g.E.Element.SIZE c.args.at c.loop-i.i (length c.args.values.now) (length c.args.bytes.now) (omega arith) c.requires in
    put_more g.E.Element.number g.E.Element.SIZE c.args.at c.loop-i.i c.SIZE.result c.args.values.now c.args.bytes.now
    c.loop-i.bytes c.put.new.bytes c.index-values-i.result c.SIZE.ensures room (omega arith) c.index-values-i.is
    c.loop-i.invariant c.put.ensures

pub returns : goal.returns
returns g c =
    puts_are g.E.Element.number g.E.Element.SIZE c.args.at c.loop-i.i c.args.values.now c.args.bytes.now c.loop-i.bytes (omega arith)
    c.loop-i.invariant
