-- What every vector instruction works under.
use Rattle.std.specs.Prelude.{ℕ}
use Rattle.vreg_groups.specs.Words.{Eew, Operands, Setup}
use Rattle.vreg_groups.specs.Group.{Span, group_of}
use Rattle.vreg_groups.specs.Legality.{AreAllInside}
use Rattle.vreg_groups.specs.VectorLength.{IsLength, IsVlenb}

-- the group of an operand that begins at `first` and whose elements have this width
abbrev pub group_at : Setup → ℕ → Eew → Span
group_at s first eew = group_of s.vtype s.vl first eew

-- VLEN is 128, 256 or 512, and vl fits the type
pub record IsSetup (vlenb : ℕ) (s : Setup) : Type 0 where
  pub vlenb_is : IsVlenb vlenb
  pub length : IsLength vlenb s.vtype s.vl

-- so it is for an instruction whose operands are inside the registers, as those of a legal one are
pub record IsReady (vlenb : ℕ) (s : Setup) (operands : Operands) : Type 0 where
  pub setup : IsSetup vlenb s
  pub inside : AreAllInside s.vtype operands
