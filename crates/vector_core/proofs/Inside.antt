-- What the operands of a legal instruction say of its groups.
use Rattle.std.proofs.Common.{◌≡◌, ℕ, true, arith}
use Rattle.rv_decode.specs.declared.extents.Eew.TheVariants.{Double}
use Rattle.rv_decode.specs.declared.instructions.VArith.{VArith}
use Rattle.rv_decode.specs.declared.instructions.VArith.TheVariants.{Widen, Wide, WidenMultiplyAdd, Narrow, Clip}
use Rattle.rv_decode.specs.Needs.{needs_of_arith}
use Rattle.vreg_groups.specs.Group.{IsGroupInside}
use Rattle.vreg_groups.specs.Legality.{AreAllInside}
use Rattle.vreg_groups.specs.declared.vector_type.Vtype.{Vtype}
use Rattle.vector_core.specs.Arithmetic.{has_doubles}

-- where a group of 2*SEW is inside the registers, there is one from v0 on
from_v0 : (t : Vtype) (first : ℕ) → IsGroupInside t first Double → IsGroupInside t 0 Double
from_v0 t first h = record { registers = omega (arith, h.registers); size = h.size; width = h.width; least = h.least }

pub doubles_inside : (t : Vtype) (insn : VArith) → has_doubles insn ≡ true → AreAllInside t (needs_of_arith insn) → IsGroupInside t 0 Double
unfolding has_doubles needs_of_arith
doubles_inside t (Widen op vd vs2 b masked) is h = from_v0 t vd h.destination
doubles_inside t (Wide op vd vs2 b masked) is h = from_v0 t vd h.destination
doubles_inside t (WidenMultiplyAdd op vd vs2 b masked) is h = from_v0 t vd h.destination
doubles_inside t (Narrow op vd vs2 b masked) is h = from_v0 t vs2 h.vs2
doubles_inside t (Clip op vd vs2 b masked) is h = from_v0 t vs2 h.vs2
doubles_inside t insn is h = absurd (cc)
