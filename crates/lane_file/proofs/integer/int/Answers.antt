use Rattle.std.proofs.Common.{◌∙◌}
use Rattle.lane_file.specs.InPlace.{second_of}
use Rattle.lane_file.proofs.Calls.{int_is}
use Rattle.lane_file.proofs.integer.int.Goals as goal

pub returns-clause-done : goal.returns-clause-done
returns-clause-done g c = λ yes.
    let ys = second_of g.row.VLENB g.E.Lane.number c.args.setup.now c.args.b c.args.registers.now in
    c.write_body.ensures ∙ int_is g.row.VLENB c.args.vd c.args.vs2 c.args.setup.now g.E.Lane.width c.args.op ys c.args.masked c.args.registers.now
