use Rattle.std.proofs.Common.{ℕ, ◌<◌, ◌≡◌, get_or}
use Rattle.vreg_groups.specs.Elements.{element_at}
use Rattle.vreg_groups.proofs.bytes.read_elements.Given as goal

-- the elements so far are those of the group
abbrev pub invariant-loop-i : goal.invariant-loop-i
invariant-loop-i g l =
    (k : ℕ) (d : g.row.E.Denot) → k < l.i →
    g.E.Element.number (get_or l.out k d) ≡ element_at g.E.Element.SIZE l.at l.bytes k
