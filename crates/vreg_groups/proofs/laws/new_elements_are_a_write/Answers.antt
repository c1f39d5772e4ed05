use Rattle.std.proofs.Common.{arith}
use Rattle.vreg_groups.specs.PointwiseLemmas.{is_written}
use Rattle.vreg_groups.proofs.laws.new_elements_are_a_write.Goals as goal

pub returns : goal.returns
returns c =
    is_written c.args.vlenb c.args.size c.args.first c.args.count c.args.policy c.args.results.now c.args.active.now c.args.file.now c.args.new.now
    c.requires.vlenb_is c.requires.size_is c.requires.group c.requires.registers c.requires.same (λ k. omega (arith, c.type_inv.new k)) c.requires.elements c.requires.others
