use Rattle.std.proofs.Common.{Bool, ℕ, ◌+◌, ◌*◌, ◌<◌, ◌≡◌, get_or, length}
use Rattle.vreg_groups.specs.Elements.{bit_at}
use Rattle.vreg_groups.proofs.bytes.read_bits.Given as goal

-- the bits so far are those of the mask
abbrev pub invariant-loop-j : goal.invariant-loop-j
invariant-loop-j l = record {
  size : length l.out ≡ length l.initial.out;
  bits : (i : ℕ) (d : Bool) → i < 8 * l.j → get_or l.out i d ≡ bit_at l.at l.bytes i;
}

abbrev pub invariant-loop-k : goal.invariant-loop-k
invariant-loop-k l = record {
  size : length l.out ≡ length l.initial.out;
  bits : (i : ℕ) (d : Bool) → i < 8 * l.j + l.k → get_or l.out i d ≡ bit_at l.at l.bytes i;
}

abbrev pub invariant-loop-i : goal.invariant-loop-i
invariant-loop-i l = record {
  size : length l.out ≡ length l.initial.out;
  bits : (k : ℕ) (d : Bool) → k < l.i → get_or l.out k d ≡ bit_at l.at l.bytes k;
}
