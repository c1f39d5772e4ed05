use Rattle.std.proofs.Common.{ap, length, sym, arith}
use Rattle.std.proofs.lemmas.Grind.{common_steps}
use Rattle.region_mem.specs.declared.faults.Right.TheVariants.{Write}
use Rattle.vector_mem.specs.Transfers.{right_of}
use Rattle.vector_mem.proofs.Plans.{plan_within}
use Rattle.vector_mem.proofs.transfers.store_planned.Goals as goal

pub store_elements-requires : goal.store_elements-requires
store_elements-requires g c =
    plan_within g.row.VLENB c.args.asked.now.setup c.args.asked.now.insn c.args.asked.now.base c.args.asked.now.stride c.args.registers.now c.plan-plan.result Write
    g.E.Element.SIZE (length c.args.values.now) c.plan-plan.ensures (ap right_of c.requires.asked.direction_is) (sym c.requires.size)
    (sym c.requires.length)

pub returns-else-is_none-clause-kept : goal.returns-else-is_none-clause-kept
returns-else-is_none-clause-kept g c = grind (arith, common_steps)
