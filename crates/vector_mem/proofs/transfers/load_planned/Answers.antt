use Rattle.std.proofs.Common.{ap, length, sym}
use Rattle.region_mem.specs.declared.faults.Right.TheVariants.{Read}
use Rattle.vector_mem.specs.Transfers.{right_of}
use Rattle.vector_mem.proofs.Plans.{plan_within}
use Rattle.vector_mem.proofs.transfers.load_planned.Goals as goal

pub load_elements-requires : goal.load_elements-requires
load_elements-requires g c =
    plan_within g.row.VLENB c.args.asked.now.setup c.args.asked.now.insn c.args.asked.now.base c.args.asked.now.stride c.args.registers.now c.plan-plan.result Read
    g.E.Element.SIZE (length c.args.values.now) c.plan-plan.ensures (ap right_of c.requires.asked.direction_is) (sym c.requires.size)
    (sym c.requires.length)
