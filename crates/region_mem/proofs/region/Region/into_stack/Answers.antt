use Rattle.std.proofs.Common.{◌∙◌, sym}
use Rattle.region_mem.specs.StackLemmas.{untouched_below, cleared}
use Rattle.region_mem.specs.Words.{STACK_SIZE}
use Rattle.region_mem.proofs.region.Region.into_stack.Goals as goal

pub clear_from-requires : goal.clear_from-requires
clear_from-requires g c = untouched_below c.self.inside.untouched c.self.inside.bytes c.self.invariant.1

pub of-requires : goal.of-requires
of-requires g c =
    c.clear_from.ensures
    ∙ cleared c.self.inside.untouched STACK_SIZE c.self.inside.bytes (sym c.len.ensures ∙ c.if-len.true) c.self.invariant.1
