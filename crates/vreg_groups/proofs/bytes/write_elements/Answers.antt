use Rattle.std.proofs.Common.{arith, ap, ◌+◌, ◌-◌, ◌*◌}
use Rattle.vreg_groups.specs.PartLemmas.{write_is}
use Rattle.std.proofs.lemmas.Bool.Decides.{nat_tests}
use Rattle.vreg_groups.proofs.bytes.write_elements.Goals as goal

pub returns : goal.returns
returns g c =
    write_is g.E.Element.number g.E.Element.SIZE c.args.at c.args.count c.min-body.result c.min-told.result c.args.policy
    c.args.values.now c.args.active.now c.args.bytes.now c.write_body.new.bytes c.fill_if.new.bytes c.fill_if-2.new.bytes
    _ _ _ _ c.requires c.are_bytes.ensures (omega arith) (omega arith) c.write_body.ensures
    (ap (λ w. c.args.at + w * c.min-told.result) c.SIZE.ensures)
    (ap (λ w. w * (c.min-body.result - c.min-told.result)) c.SIZE-2.ensures)
    c.fill_if.ensures
    (ap (λ w. c.args.at + w * c.min-body.result) c.SIZE-3.ensures)
    (ap (λ w. w * (c.args.count - c.min-body.result)) c.SIZE-4.ensures)
    c.fill_if-2.ensures

pub fill_if-requires-2 : goal.fill_if-requires-2
fill_if-requires-2 g c = grind (arith, nat_tests)
