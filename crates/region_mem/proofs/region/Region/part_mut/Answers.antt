use Rattle.std.proofs.Common.{◌-◌, length, ap, arith}
use Rattle.region_mem.proofs.LendLemmas.{length_overlaid}
use Rattle.region_mem.specs.AccessLemmas.{spans_from, spans_to}
use Rattle.region_mem.specs.StackLemmas.{stays_lent}
use Rattle.region_mem.proofs.region.Region.part_mut.Goals as goal

pub invariant_of-self-lent : goal.invariant_of-self-lent
invariant_of-self-lent g c =
    let at = c.args.address - c.self.inside.first in
    let from = spans_from c.args.address c.args.n c.args.self.now c.requires.inside in
    let to = spans_to c.args.address c.args.n c.args.self.now c.requires.inside in
    λ w. stays_lent c.self.inside.first c.self.inside.untouched c.left-self-inside.result at c.self.inside.bytes w
    c.self.invariant c.left-self-inside.ensures.below c.left-self-inside.ensures.before (omega (arith, from, to, ap (λ a. a.first) c.self.view_is, ap (λ a. length a.bytes) c.self.view_is)) (length_overlaid at c.self.inside.bytes w)
