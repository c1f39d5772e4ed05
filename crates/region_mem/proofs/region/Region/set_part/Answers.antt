use Rattle.std.proofs.Common.{◌-◌, length, ap, arith}
use Rattle.region_mem.specs.AccessLemmas.{spans_from, spans_to}
use Rattle.region_mem.specs.StackLemmas.{stays_part}
use Rattle.region_mem.proofs.region.Region.set_part.Goals as goal

pub invariant_of-self : goal.invariant_of-self
invariant_of-self g c =
    let from = spans_from c.args.address (length c.args.bytes.now) c.args.self.now c.requires.inside in
    let to = spans_to c.args.address (length c.args.bytes.now) c.args.self.now c.requires.inside in
    rw c.set_part.ensures (stays_part c.self.inside.first c.self.inside.untouched c.left-self-inside.result (c.args.address - c.self.inside.first) c.self.inside.bytes c.args.bytes.now
    c.self.invariant c.left-self-inside.ensures.below c.left-self-inside.ensures.before (omega (arith, from, to, ap (λ a. a.first) c.self.view_is, ap (λ a. length a.bytes) c.self.view_is)))
