-- At most two atoms are new.
use Rattle.abs_transfer.proofs.Lengthened.{vset_grows}
use Rattle.abs_transfer.proofs.vset.after_vset.Goals as goal

pub returns-clause-grows : goal.returns-clause-grows
returns-clause-grows g c =
    vset_grows c.request_of-wanted.result.rd c.args.vlenb c.args.known c.request_of-wanted.result.length c.request_of-wanted.result.vtype c.args.numbers.now
    c.set_length_in.new.numbers _ c.configure-set.ensures c.set_length_in.ensures
