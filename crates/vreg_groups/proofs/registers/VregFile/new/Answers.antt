-- The first bytes of an array of zeros are zeros.
use Rattle.std.proofs.Common.{arith, ◌*◌, ◌≤◌, ℕ}
use Rattle.std.proofs.lemmas.List.{take-replicate}
use Rattle.vreg_groups.specs.VectorLength.{IsVlenb}
use Rattle.vreg_groups.proofs.registers.VregFile.new.Goals as goal

fits : (vlenb : ℕ) → IsVlenb vlenb → 32 * vlenb ≤ 2048
fits vlenb h = omega arith

pub returns : goal.returns
returns g c = take-replicate (32 * g.row.VLENB) 2048 0 (fits g.row.VLENB c.requires)
