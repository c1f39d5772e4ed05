use Rattle.std.proofs.Common.{◌≡◌, ◌+◌, drop}
use Rattle.region_mem.specs.Areas.{with_bytes}
use Rattle.region_mem.proofs.walk.set_bytes.Given as goal

-- the bytes that are left give the whole
abbrev pub invariant-loop-i : goal.invariant-loop-i
invariant-loop-i g l = with_bytes (l.address + l.i) (drop l.i l.bytes) l.regions ≡ with_bytes l.address l.bytes l.initial.regions
