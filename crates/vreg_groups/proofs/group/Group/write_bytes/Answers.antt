use Rattle.vreg_groups.proofs.Spans.{group_written}
use Rattle.vreg_groups.proofs.group.Group.write_bytes.Goals as goal

pub returns : goal.returns
returns g c =
    let group = c.self.inside in
    group_written g.row.VLENB group.first group.count group.bytes group.vl c.args.self.now c.args.policy c.args.results.now
    c.args.registers.now c.write_group_bytes.new.self c.self.view_is c.self.invariant.0 c.self.invariant.1
    c.self.invariant.3 c.requires.size c.requires.length c.write_group_bytes.ensures.bytes c.write_group_bytes.ensures.shape
    c.are_bytes.ensures c.write_group_bytes.ensures.meaning
