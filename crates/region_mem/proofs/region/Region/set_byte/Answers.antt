use Rattle.std.proofs.Common.{◌-◌}
use Rattle.region_mem.specs.StackLemmas.{stays_at}
use Rattle.region_mem.proofs.region.Region.set_byte.Goals as goal

pub invariant_of-self : goal.invariant_of-self
invariant_of-self g c =
    rw c.set.ensures (stays_at c.self.inside.first c.self.inside.untouched c.left-self-inside.result (c.args.address - c.self.inside.first) c.args.byte c.self.inside.bytes
    c.self.invariant c.left-self-inside.ensures.below c.left-self-inside.ensures.before)
