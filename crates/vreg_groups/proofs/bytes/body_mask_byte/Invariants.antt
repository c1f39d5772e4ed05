use Rattle.std.proofs.Common.{true, ◌≡◌, ◌+◌, ◌*◌, ◌^◌, ◌<◌}
use Rattle.vreg_groups.specs.Elements.{bit_of, number_of_bits}
use Rattle.vreg_groups.specs.NewElements.{new_element}
use Rattle.vreg_groups.proofs.bytes.body_mask_byte.Given as goal

-- the byte has the new bits so far, and no other
abbrev pub invariant-loop-k : goal.invariant-loop-k
invariant-loop-k l = record {
  so_far : l.byte ≡ number_of_bits l.k (λ k. new_element l.policy true l.values l.active (8 * l.j + k) (bit_of l.old k));
  below : l.byte < 2 ^ l.k;
}
