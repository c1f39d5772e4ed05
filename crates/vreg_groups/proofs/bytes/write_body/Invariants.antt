use Rattle.std.proofs.Common.{◌≡◌, map}
use Rattle.vreg_groups.specs.NewElements.{replaced, new_bytes}
use Rattle.vreg_groups.proofs.bytes.write_body.Given as goal

-- the elements so far are the new ones, and what follows is as it was
abbrev pub invariant-loop-i : goal.invariant-loop-i
invariant-loop-i g l =
    l.bytes ≡ replaced g.E.Element.SIZE l.at l.i
    (new_bytes g.E.Element.SIZE l.at l.fn.policy (map g.E.Element.number l.values) l.active l.initial.bytes) l.initial.bytes
