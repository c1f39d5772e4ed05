-- Eight registers hold what a group of 2*SEW holds.
use Rattle.rv_decode.specs.declared.extents.Eew.TheVariants.{Double}
use Rattle.vreg_groups.specs.Legality.{count_of}
use Rattle.vector_core.proofs.Lengths.{group_body_room}
use Rattle.vector_core.proofs.doubles.double_vl.Goals as goal

pub returns-clause-room : goal.returns-clause-room
unfolding count_of
returns-clause-room g c =
    group_body_room c.args.setup.now.vtype Double g.row.VLENB c.args.setup.now.vl c.requires.setup.length.within c.requires.inside.size
