use Rattle.std.proofs.Common.{sym, ◌∙◌}
use Rattle.lane_file.specs.InPlace.{second_of}
use Rattle.lane_file.proofs.Calls.{fixed_is, saturated_is}
use Rattle.lane_file.proofs.fixed_point.fixed.Goals as goal

pub returns-in-Some-clause-done : goal.returns-in-Some-clause-done
returns-in-Some-clause-done g c =
    let ys = second_of g.row.VLENB g.E.Lane.number c.args.setup.now c.args.b c.args.registers.now in
    c.write_fixed.ensures.written ∙ fixed_is g.row.VLENB c.args.vd c.args.vs2 c.args.setup.now g.E.Lane.width c.args.op c.args.mode c.in-Some.op ys c.args.masked c.args.registers.now (sym c.in-Some.ensures)

pub returns-in-Some-clause-saturated : goal.returns-in-Some-clause-saturated
returns-in-Some-clause-saturated g c =
    let ys = second_of g.row.VLENB g.E.Lane.number c.args.setup.now c.args.b c.args.registers.now in
    c.write_fixed.ensures.saturated ∙ saturated_is g.row.VLENB c.args.vs2 c.args.setup.now g.E.Lane.width c.args.op c.args.mode c.in-Some.op ys c.args.masked c.args.registers.now (sym c.in-Some.ensures)
