use Rattle.std.proofs.lemmas.Grind.{elements}
use Rattle.std.proofs.Common.{arith, ap, ◌+◌, ◌-◌, ◌*◌}
use Rattle.vreg_groups.specs.PartLemmas.{write_all_is}
use Rattle.vreg_groups.proofs.bytes.write_all_elements.Goals as goal

pub returns : goal.returns
returns g c =
    write_all_is g.E.Element.number g.E.Element.SIZE c.args.at c.args.count c.min-body.result c.args.policy
    c.args.values.now c.args.bytes.now c.put_elements.new.bytes c.fill_if.new.bytes _ _ c.requires c.are_bytes.ensures
    (omega arith) c.put_elements.ensures
    (ap (λ w. c.args.at + w * c.min-body.result) c.SIZE.ensures)
    (ap (λ w. w * (c.args.count - c.min-body.result)) c.SIZE-2.ensures)
    c.fill_if.ensures

pub fill_if-requires : goal.fill_if-requires
fill_if-requires g c = grind (arith, elements)
