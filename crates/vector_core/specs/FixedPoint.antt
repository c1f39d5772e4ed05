-- What the fixed-point instructions on elements of SEW make of the registers, and whether an active
-- element saturates ("Vector Fixed-Point Arithmetic Instructions"). Each rounds by the vxrm of the
-- hart.
use Rattle.std.specs.Prelude.{ℕ, ◌==◌, Bool, List, if◌then◌else◌}
use lib.Lanes.{zip2}
use Rattle.lane_fixed.specs.FixedPoint.{any_active, element, saturates}
use Rattle.lane_fixed.specs.declared.operations.RoundingMode.{RoundingMode}
use Rattle.lane_fixed.specs.declared.operations.RoundingMode.TheVariants.{NearestUp, NearestEven}
use Rattle.lane_fixed.specs.declared.operations.RoundingMode.TheVariants.{Down, Odd}
use Rattle.vector_core.specs.Words.{FixedOp, Hart, Same, Setup, Source, active_of, body_of}
use Rattle.vector_core.specs.Operands.{results_written, second_of}
use Rattle.vector_core.specs.{Computed.Computed, Integer.lane_width, Setup.group_at}

-- the rounding mode that vxrm holds: rnu, rne, rdn or rod
unfoldable pub rounding_of : ℕ → RoundingMode
rounding_of vxrm =
    if vxrm == 0 then NearestUp
    else (if vxrm == 1 then NearestEven else (if vxrm == 2 then Down else Odd))

-- vd is a fixed-point operation on vs2 and b
unfoldable pub fixed_of : ℕ → Setup → Hart → FixedOp → ℕ → ℕ → Source → Bool → List ℕ → Computed
fixed_of vlenb s hart op vd vs2 b masked file = record {
  registers = results_written vlenb s (group_at s vd Same) masked
      (zip2 (element op (rounding_of hart.vxrm) (lane_width s.vtype.sew))
      (body_of vlenb (group_at s vs2 Same) file) (second_of vlenb s hart b file)) file;
  saturated = any_active (saturates op (rounding_of hart.vxrm) (lane_width s.vtype.sew))
      (body_of vlenb (group_at s vs2 Same) file) (second_of vlenb s hart b file)
      (active_of vlenb masked s.vl file);
}
