-- What it means that a number is known as a form and a range, over a numbering of the atoms.
use Rattle.std.specs.Prelude.{ℕ, ◌≡◌, ◌<◌, ◌≤◌, ◌^◌, ℤ, IfSome}
use Rattle.std.specs.Int.{w32}
use Rattle.std.specs.Int.RustNames.{FitsSigned}
use Rattle.abs_domain.specs.Words.{Range, Linear, value, IsForm, RegisterOp, ImmediateOp, ShiftOp, LoadKind, CsrName, Vconfig, Hart, IsHart, unsigned, size_of_load}
use Rattle.linear_facts.specs.Laws.{AreBelow}
use Rattle.scalar_core.specs.Csr.{csr_value}
use Rattle.scalar_core.specs.Arithmetic.{register_result, immediate_result, shift_result}
use Rattle.scalar_core.specs.Step.{loaded}
use Rattle.abs_domain.specs.declared.values.Effect.{Effect}
use Rattle.abs_domain.specs.declared.values.Effect.TheVariants.{Computed, Fresh, Copied}
use Rattle.abs_domain.specs.Values.{ValueView}
use Rattle.abs_domain.specs.Effects.{constant_effect, csr_effect, register_effect, immediate_effect, shift_effect, load_effect}

-- x lies in a range of numbers of 32 bits.
pub record LiesIn (r : Range) (x : ℕ) : Type 0 where
  pub low : r.lo ≤ x
  pub high : x ≤ r.hi
  pub fits : r.hi < 2 ^ 32

-- x is the value of a form with at most m terms over the first n atoms, where atom a is
-- the number v a.
pub record Means (m n : ℕ) (v : ℕ → ℕ) (f : Linear) (x : ℕ) : Type 0 where
  pub form : IsForm m f
  pub below : AreBelow n f.terms
  pub number : x ≡ value v f

-- What is known of x is right.
pub record IsNumber (n : ℕ) (v : ℕ → ℕ) (a : ValueView) (x : ℕ) : Type 0 where
  pub means : Means 8 n v a.form x
  pub lies : LiesIn a.range x

-- The effect's description holds of x.
abbrev pub Describes : ℕ → (ℕ → ℕ) → Effect → ℕ → Type 0
Describes n v (Computed f interval) x = Means 16 n v f x × IfSome interval (λ r. LiesIn r x)
Describes n v (Fresh r) x = LiesIn r x
Describes n v (Copied f r) x = Means 8 n v f x × LiesIn r x

-- What an instruction on two registers makes of their numbers holds of the number that it computes.
abbrev pub RegisterEffects : Type 0
RegisterEffects =
    (n : ℕ) (v : ℕ → ℕ) (op : RegisterOp) (a b : ValueView) (x y : ℕ) → IsNumber n v a x
    → IsNumber n v b y → Describes n v (register_effect op a b) (register_result op x y)

-- The same of an instruction on a register and an immediate.
abbrev pub ImmediateEffects : Type 0
ImmediateEffects =
    (n : ℕ) (v : ℕ → ℕ) (op : ImmediateOp) (a : ValueView) (x : ℕ) (imm : ℤ) → IsNumber n v a x
    → FitsSigned w32 imm
    → Describes n v (immediate_effect op a (unsigned imm)) (immediate_result op x imm)

-- The same of a shift by an amount that stands in the instruction.
abbrev pub ShiftEffects : Type 0
ShiftEffects =
    (n : ℕ) (v : ℕ → ℕ) (op : ShiftOp) (a : ValueView) (x amount : ℕ) → IsNumber n v a x
    → Describes n v (shift_effect op a amount) (shift_result op x amount)

-- The same of a load that reads a number of as many bytes as it asks for.
abbrev pub LoadEffects : Type 0
LoadEffects =
    (n : ℕ) (v : ℕ → ℕ) (kind : LoadKind) (x : ℕ) → x < 256 ^ size_of_load kind
    → Describes n v (load_effect kind) (loaded kind x)

-- The same of a number that stands in the instruction.
abbrev pub ConstantEffects : Type 0
ConstantEffects = (n : ℕ) (v : ℕ → ℕ) (x : ℕ) → x < 2 ^ 32 → Describes n v (constant_effect x) x

-- What is said of a read of a CSR holds of what the CSR reads as, where what is known
-- of vl is right.
abbrev pub CsrEffects : Type 0
CsrEffects =
    (n : ℕ) (v : ℕ → ℕ) (csr : CsrName) (vlenb : ℕ) (a : ValueView) (config : Vconfig) (h : Hart)
    → IsHart h → vlenb < 2 ^ 32 → config.vtype < 2 ^ 32 → IsNumber n v a config.vl
    → Describes n v (csr_effect csr vlenb a) (csr_value csr vlenb config h)
