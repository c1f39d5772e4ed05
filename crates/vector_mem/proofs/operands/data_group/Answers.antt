-- The data of a legal load or store is inside the registers.
use Rattle.std.proofs.Common.{lit<, ◌≡◌, arith}
use Rattle.std.proofs.lemmas.Grind.{common_steps}
use Rattle.vector_mem.specs.Transfers.{data_at}
use Rattle.vector_mem.specs.Words.{Unit, Strided, Indexed, Whole}
use Rattle.vector_mem.proofs.Inside.{unit_inside, strided_inside, indexed_inside, whole_inside}
use Rattle.vector_mem.proofs.operands.data_group.Goals as goal

pub group-requires : goal.group-requires
group-requires g c =
    let place : c.args.insn.now.place ≡ Unit c.in-Unit.width c.in-Unit.masked = cc in
    (lit< tt, (c.requires.setup, unit_inside c.args.setup.now.vtype c.args.insn.now _ _ place c.requires.inside))

pub group-requires-in-Strided : goal.group-requires-in-Strided
group-requires-in-Strided g c =
    let place : c.args.insn.now.place ≡ Strided c.in-Strided.width c.in-Strided.rs2 c.in-Strided.masked = cc in
    (lit< tt, (c.requires.setup, strided_inside c.args.setup.now.vtype c.args.insn.now _ _ _ place c.requires.inside))

pub group-requires-in-Indexed : goal.group-requires-in-Indexed
group-requires-in-Indexed g c =
    let place : c.args.insn.now.place ≡ Indexed c.in-Indexed.width c.in-Indexed.vs2 c.in-Indexed.ordered c.in-Indexed.masked = cc in
    (lit< tt, (c.requires.setup, indexed_inside c.args.setup.now.vtype c.args.insn.now _ _ _ _ place c.requires.inside))

pub whole-requires : goal.whole-requires
whole-requires g c =
    let place : c.args.insn.now.place ≡ Whole c.in-Whole.width c.in-Whole.count = cc in
    (lit< tt, (c.requires.setup.vlenb_is, whole_inside c.args.setup.now.vtype c.args.insn.now _ _ place c.requires.inside))

pub returns-in-Mask-clause-meaning : goal.returns-in-Mask-clause-meaning
unfolding data_at
returns-in-Mask-clause-meaning g c = grind (arith, common_steps)
