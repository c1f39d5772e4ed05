use Rattle.std.proofs.Common.{length, arith, ap, ◌∙◌}
use Rattle.region_mem.specs.ApartLemmas.{length_zeros}
use Rattle.region_mem.specs.StackLemmas.{all_untouched}
use Rattle.region_mem.specs.Words.{STACK_SIZE}
use Rattle.region_mem.proofs.region.Region.of_stack.Goals as goal

pub invariant_of-result : goal.invariant_of-result
invariant_of-result g c =
    let bytes = c.into_bytes-bytes.result in
    let size = ap length c.into_bytes-bytes.ensures ∙ length_zeros STACK_SIZE in
    (omega (arith, size, c.from.ensures), rw c.len-untouched.ensures (all_untouched STACK_SIZE bytes c.into_bytes-bytes.ensures))
