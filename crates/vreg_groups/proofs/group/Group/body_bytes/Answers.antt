use Rattle.vreg_groups.proofs.Spans.{body_numbers, body_of_bytes}
use Rattle.vreg_groups.proofs.group.Group.body_bytes.Goals as goal

pub returns-clause-numbers : goal.returns-clause-numbers
returns-clause-numbers g c =
    let group = c.self.inside in
    body_numbers g.row.VLENB group.first group.count group.bytes group.vl c.args.self.now c.args.registers.now
    c.group-whole.result.now c.self.view_is c.self.invariant.3 c.group-whole.ensures.meaning

pub returns-clause-bytes : goal.returns-clause-bytes
returns-clause-bytes g c =
    let group = c.self.inside in
    body_of_bytes g.row.VLENB group.first group.count group.bytes group.vl c.args.self.now c.args.registers.now
    c.group-whole.result.now c.self.view_is c.self.invariant.3 c.group-whole.ensures.meaning
    c.group-whole.ensures.size c.are_bytes.ensures
