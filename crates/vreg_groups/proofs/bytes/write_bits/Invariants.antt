use Rattle.std.proofs.Common.{◌≡◌}
use Rattle.vreg_groups.specs.NewElements.{replaced, new_mask_bytes}
use Rattle.vreg_groups.proofs.bytes.write_bits.Given as goal

-- the bytes so far are the new ones, and what follows is as it was
abbrev pub invariant-loop-j : goal.invariant-loop-j
invariant-loop-j l =
    l.bytes ≡ replaced 1 l.at l.j (new_mask_bytes l.at l.policy l.values l.active l.initial.bytes) l.initial.bytes
