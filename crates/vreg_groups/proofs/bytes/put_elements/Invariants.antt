use Rattle.std.proofs.Common.{◌≡◌, map}
use Rattle.vreg_groups.specs.NewElements.{replaced}
use Rattle.vreg_groups.specs.PartLemmas.{result_bytes}
use Rattle.vreg_groups.proofs.bytes.put_elements.Given as goal

-- the results so far, and what follows is as it was
abbrev pub invariant-loop-i : goal.invariant-loop-i
invariant-loop-i g l =
    l.bytes ≡ replaced g.E.Element.SIZE l.at l.i (result_bytes g.E.Element.SIZE (map g.E.Element.number l.values)) l.initial.bytes
