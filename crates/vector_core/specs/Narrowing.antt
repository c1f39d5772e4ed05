-- What the instructions that read vs2 at 2*SEW and give results of SEW make of the registers
-- ("Vector Narrowing Integer Right Shift Instructions", "Vector Narrowing Fixed-Point Clip
-- Instructions"). A shift by b reads one bit more of it than at SEW.
use Rattle.std.specs.Prelude.{ℕ, Bool, false, List, map}
use lib.Lanes.{zip2}
use Rattle.lane_fixed.specs.FixedPoint.{any_active, clip_element, clip_saturates}
use Rattle.lane_int.specs.{Integer.element, Resizing.cut_to}
use Rattle.vector_core.specs.Words.{ClipOp, Double, Hart, NarrowOp, Same, Setup, Source, active_of}
use Rattle.vector_core.specs.Words.{body_of}
use Rattle.vector_core.specs.{Computed.Computed, FixedPoint.rounding_of, Integer.lane_width}
use Rattle.vector_core.specs.{Operands.results_written, Operands.second_of, Operations.narrow_lanes}
use Rattle.vector_core.specs.{Setup.group_at, Widening.double_width, Widening.doubled}

-- vd is the low half of vs2 shifted right by b
unfoldable pub narrow_of : ℕ → Setup → Hart → NarrowOp → ℕ → ℕ → Source → Bool → List ℕ → List ℕ
narrow_of vlenb s hart op vd vs2 b masked file =
    results_written vlenb s (group_at s vd Same) masked
    (map (cut_to (lane_width s.vtype.sew))
    (zip2 (element (narrow_lanes op) (double_width s))
    (body_of vlenb (group_at s vs2 Double) file)
    (doubled s false (second_of vlenb s hart b file)))) file

-- vd is vs2, rounded off by b bits and clipped to SEW
unfoldable pub clip_of : ℕ → Setup → Hart → ClipOp → ℕ → ℕ → Source → Bool → List ℕ → Computed
clip_of vlenb s hart op vd vs2 b masked file = record {
  registers = results_written vlenb s (group_at s vd Same) masked
      (zip2 (clip_element op (rounding_of hart.vxrm) (double_width s) (lane_width s.vtype.sew))
      (body_of vlenb (group_at s vs2 Double) file) (second_of vlenb s hart b file)) file;
  saturated = any_active
      (clip_saturates op (rounding_of hart.vxrm) (double_width s) (lane_width s.vtype.sew))
      (body_of vlenb (group_at s vs2 Double) file) (second_of vlenb s hart b file)
      (active_of vlenb masked s.vl file);
}
