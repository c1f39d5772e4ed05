use Rattle.std.proofs.Common.{◌≡◌, take}
use Rattle.std.specs.List.{list_all}
use Rattle.vreg_groups.proofs.bytes.are_all.Given as goal

-- whether the flags so far are set
abbrev pub invariant-loop-flag : goal.invariant-loop-flag
invariant-loop-flag l = l.all ≡ list_all (λ flag. flag) (take l.flag-index l.flags)
