-- The shapes of the instructions that compute, of those that move elements among places, and of
-- reductions.
use Rattle.std.specs.Prelude.{ℕ, ◌≡◌}
use Rattle.rv_decode.specs.declared.instructions.VArith.TheVariants as arith
use Rattle.rv_decode.specs.declared.instructions.VPerm.TheVariants as perm
use Rattle.rv_decode.specs.declared.instructions.VReduce.TheVariants as reduce
use Rattle.rv_decode.specs.Needs.{needs_of_arith, needs_of_perm}
use Rattle.vector_core.specs.Words.{Fraction, Operands, Setup, VArith, VPerm, VReduce, Width}
use Rattle.vector_core.specs.Setup.{IsReady}

pub data Shape : Type 0 where
  IntShape : Shape
  MultiplyAddShape : Shape
  CarryShape : Shape
  CarryOutShape : Shape
  MergeShape : Shape
  CopyShape : Shape
  CompareShape : Shape
  FixedShape : Shape
  WidenShape : Shape
  WideShape : Shape
  WidenMultiplyAddShape : Shape
  NarrowShape : Shape
  ClipShape : Shape
  ExtendShape : Fraction → Shape

abbrev pub shape_of : VArith → Shape
shape_of (arith.Int op vd vs2 b masked) = IntShape
shape_of (arith.MultiplyAdd op vd vs2 b masked) = MultiplyAddShape
shape_of (arith.Carry op vd vs2 b) = CarryShape
shape_of (arith.CarryOut op vd vs2 b with_carry) = CarryOutShape
shape_of (arith.Merge vd vs2 b) = MergeShape
shape_of (arith.Copy vd b) = CopyShape
shape_of (arith.Compare op vd vs2 b masked) = CompareShape
shape_of (arith.Fixed op vd vs2 b masked) = FixedShape
shape_of (arith.Widen op vd vs2 b masked) = WidenShape
shape_of (arith.Wide op vd vs2 b masked) = WideShape
shape_of (arith.WidenMultiplyAdd op vd vs2 b masked) = WidenMultiplyAddShape
shape_of (arith.Narrow op vd vs2 b masked) = NarrowShape
shape_of (arith.Clip op vd vs2 b masked) = ClipShape
shape_of (arith.Extend signed of vd vs2 masked) = ExtendShape of

-- an instruction whose shape is this one and whose operands are ready, under a setup of this SEW
pub record HasShape {Shape : Type 0} (vlenb : ℕ) (s : Setup) (sew : Width) (needs : Operands)
    (own shape : Shape) : Type 0 where
  pub is : own ≡ shape
  pub width : sew ≡ s.vtype.sew
  pub ready : IsReady vlenb s needs

abbrev pub IsShaped : ℕ → Setup → Width → VArith → Shape → Type 0
IsShaped vlenb s sew insn shape =
    HasShape vlenb s sew (needs_of_arith insn) (shape_of insn) shape

pub data PermShape : Type 0 where
  SlideUpShape : PermShape
  SlideDownShape : PermShape
  SlideOneUpShape : PermShape
  SlideOneDownShape : PermShape
  GatherShape : PermShape
  Gather16Shape : PermShape
  CompressShape : PermShape

abbrev pub perm_shape_of : VPerm → PermShape
perm_shape_of (perm.SlideUp vd vs2 offset masked) = SlideUpShape
perm_shape_of (perm.SlideDown vd vs2 offset masked) = SlideDownShape
perm_shape_of (perm.SlideOneUp vd vs2 rs1 masked) = SlideOneUpShape
perm_shape_of (perm.SlideOneDown vd vs2 rs1 masked) = SlideOneDownShape
perm_shape_of (perm.Gather vd vs2 b masked) = GatherShape
perm_shape_of (perm.Gather16 vd vs2 vs1 masked) = Gather16Shape
perm_shape_of (perm.Compress vd vs2 vs1) = CompressShape

abbrev pub IsPermShaped : ℕ → Setup → Width → VPerm → PermShape → Type 0
IsPermShaped vlenb s sew insn shape =
    HasShape vlenb s sew (needs_of_perm insn) (perm_shape_of insn) shape

pub data ReduceShape : Type 0 where
  FoldShape : ReduceShape
  WidenSumShape : ReduceShape

abbrev pub reduce_shape_of : VReduce → ReduceShape
reduce_shape_of (reduce.Fold op vd vs2 vs1 masked) = FoldShape
reduce_shape_of (reduce.WidenSum signed vd vs2 vs1 masked) = WidenSumShape
