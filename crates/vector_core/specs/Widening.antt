-- What the instructions with results wider than what they read make of the registers. A widening
-- one extends what it reads at SEW to 2*SEW, and its operation is one on elements of 2*SEW ("Vector
-- Widening Integer Add/Subtract", "Vector Widening Integer Multiply Instructions", "Vector Widening
-- Integer Multiply-Add Instructions"); an extension reads a fraction of SEW ("Vector Integer
-- Extension").
use Rattle.std.specs.Prelude.{ℕ, Bool, List, map}
use lib.Lanes.{zip2}
use Rattle.std.specs.Int.{w16, w8}
use Rattle.rv_decode.specs.Needs.{eew_of}
use Rattle.rv_decode.specs.declared.instructions.Fraction.TheVariants.{Half}
use Rattle.rv_decode.specs.declared.instructions.MultiplyAddOp.TheVariants.{Macc}
use Rattle.lane_int.specs.Integer.{double, element, multiply_added}
use Rattle.lane_int.specs.{Lists.zip3, Resizing.extended_to}
use Rattle.std.specs.Int as int
use Rattle.vector_core.specs.Words.{Double, Hart, Same, Setup, Source, WideOp, WidenMultiplyAddOp}
use Rattle.vector_core.specs.Words.{WidenOp, body_of, Fraction, W32, Width}
use Rattle.vector_core.specs.Operands.{results_written, second_of}
use Rattle.vector_core.specs.Operations.{is_wide_signed, wide_lanes, widen_lanes}
use Rattle.vector_core.specs.Operations.{widen_multiply_add_signs, widen_signs}
use Rattle.vector_core.specs.{Integer.lane_width, Setup.group_at}

-- the width of the lanes that work on elements of 2*SEW
abbrev pub double_width : Setup → int.Width
double_width s = double (lane_width s.vtype.sew)

-- elements of SEW as elements of 2*SEW, by their sign or by zeros
abbrev pub doubled : Setup → Bool → List ℕ → List ℕ
doubled s is_signed values =
    map (extended_to is_signed (lane_width s.vtype.sew) (double_width s)) values

-- vd is an operation on vs2 and b, both of SEW
unfoldable pub widen_of : ℕ → Setup → Hart → WidenOp → ℕ → ℕ → Source → Bool → List ℕ → List ℕ
widen_of vlenb s hart op vd vs2 b masked file =
    results_written vlenb s (group_at s vd Double) masked
    (zip2 (element (widen_lanes op) (double_width s))
    (doubled s (widen_signs op).vs2 (body_of vlenb (group_at s vs2 Same) file))
    (doubled s (widen_signs op).b (second_of vlenb s hart b file))) file

-- vd is an operation on vs2, of 2*SEW, and b, of SEW
unfoldable pub wide_of : ℕ → Setup → Hart → WideOp → ℕ → ℕ → Source → Bool → List ℕ → List ℕ
wide_of vlenb s hart op vd vs2 b masked file =
    results_written vlenb s (group_at s vd Double) masked
    (zip2 (element (wide_lanes op) (double_width s))
    (body_of vlenb (group_at s vs2 Double) file)
    (doubled s (is_wide_signed op) (second_of vlenb s hart b file))) file

-- vd is the product of b and vs2, both of SEW, and the old vd together
unfoldable pub widen_multiply_add_of : ℕ → Setup → Hart → WidenMultiplyAddOp → ℕ → ℕ → Source → Bool
    → List ℕ → List ℕ
widen_multiply_add_of vlenb s hart op vd vs2 b masked file =
    results_written vlenb s (group_at s vd Double) masked
    (zip3 (multiply_added Macc (double_width s))
    (doubled s (widen_multiply_add_signs op).vs2 (body_of vlenb (group_at s vs2 Same) file))
    (doubled s (widen_multiply_add_signs op).b (second_of vlenb s hart b file))
    (body_of vlenb (group_at s vd Double) file)) file

-- what is extended to SEW: a half of 32 bits has 16, and any other fraction that is legal has 8
abbrev pub fraction_width : Width → Fraction → int.Width
fraction_width W32 Half = w16
fraction_width sew of = w8

-- vd is vs2, of a fraction of SEW, with zeros or its sign above
unfoldable pub extend_of : ℕ → Setup → Bool → Fraction → ℕ → ℕ → Bool → List ℕ → List ℕ
extend_of vlenb s signed of vd vs2 masked file =
    results_written vlenb s (group_at s vd Same) masked
    (map (extended_to signed (fraction_width s.vtype.sew of) (lane_width s.vtype.sew))
    (body_of vlenb (group_at s vs2 (eew_of of)) file)) file
