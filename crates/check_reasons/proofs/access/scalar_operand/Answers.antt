use Rattle.std.proofs.Common.{rules, ap, false}
use Rattle.scalar_core.specs.Step.{size_of_load}
use Rattle.check_reasons.specs.Access.{operand}
use Rattle.check_reasons.proofs.access.scalar_operand.Goals as goal

pub returns-in-Load : goal.returns-in-Load
returns-in-Load c =
    rw (c.in-Load.is, c.load_size.ensures)
    (ap (λ offset. operand false c.in-Load.rs1 offset (size_of_load c.in-Load.kind)) (search rules))
