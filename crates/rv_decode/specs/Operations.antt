-- How the rows of vector operations are written: a funct6, the forms of the second operand, and a
-- meaning, as in the "V" extension's "Vector Instruction Listing".
use Rattle.std.specs.Prelude.{ℕ, Bool, true, false, ◌==◌, List, [], ◌∷◌, ◌++◌, pos, if◌then◌else◌}
use Rattle.rv_decode.specs.Bits.{bits, signed, rs1_of}
use Rattle.rv_decode.specs.Rows.{Field, Row, field, row}
use Rattle.rv_decode.specs.Words.{Insn, Source}

-- the field vm: 0 for an instruction that the mask v0 governs
abbrev pub vm : ℕ → Field
vm value = field 25 1 value

abbrev pub is_masked : ℕ → Bool
is_masked word = bits 25 1 word == 0

abbrev pub funct6 : ℕ → Field
funct6 value = field 26 6 value

-- the places of the operands, where they select an operation
abbrev pub vs1 : ℕ → Field
vs1 value = field 15 5 value

abbrev pub vs2 : ℕ → Field
vs2 value = field 20 5 value

-- The forms of an operation, by its second operand: vs1, x[rs1], a signed immediate,
-- an unsigned one.
pub data Form : Type 0 where
  V : Form
  X : Form
  I : Form
  U : Form

abbrev pub operand : Form → ℕ → Source
operand V word = Source.Vector (rs1_of word)
operand X word = Source.Scalar (rs1_of word)
operand I word = Source.Immediate (signed 16 (bits 15 5 word))
operand U word = Source.Immediate (pos (bits 15 5 word))

abbrev pub VXI : List Form
VXI = V ∷ X ∷ I ∷ []

abbrev pub VXU : List Form
VXU = V ∷ X ∷ U ∷ []

abbrev pub VX : List Form
VX = V ∷ X ∷ []

abbrev pub XI : List Form
XI = X ∷ I ∷ []

abbrev pub XU : List Form
XU = X ∷ U ∷ []

abbrev pub only_v : List Form
only_v = V ∷ []

abbrev pub only_x : List Form
only_x = X ∷ []

abbrev pub only_i : List Form
only_i = I ∷ []

-- an operation: its funct6, its forms, the fields that it fixes besides, and what it means
-- with an operand
pub record Operation : Type 0 where
  pub code : ℕ
  pub forms : List Form
  pub fixed : List Field
  pub meaning : Source → ℕ → Insn

abbrev pub operation : ℕ → List Form → (Source → ℕ → Insn) → Operation
operation code forms meaning = record { code = code; forms = forms; fixed = []; meaning = meaning }

abbrev pub operation_where : ℕ → List Form → List Field → (Source → ℕ → Insn) → Operation
operation_where code forms fixed meaning =
    record { code = code; forms = forms; fixed = fixed; meaning = meaning }

-- an operation of one form, whose word says all
abbrev pub only_form : ℕ → Form → List Field → (ℕ → Insn) → Operation
only_form code form fixed meaning =
    record { code = code; forms = form ∷ []; fixed = fixed; meaning = λ b. λ word. meaning word }

-- the operations that share a funct6 and a form, and differ in other fields
abbrev pub select : ℕ → Form → List Row → List Operation
select code form [] = []
select code form (r ∷ rs) = only_form code form r.fixed r.meaning ∷ select code form rs

-- the rows of an operation, and of some operations, in the forms that a test selects
abbrev pub rows_in : (Form → Bool) → List Form → Operation → List Row
rows_in selects [] op = []
rows_in selects (form ∷ forms) op =
    (if selects form then row (funct6 op.code ∷ op.fixed) (λ w. op.meaning (operand form w) w) ∷ []
    else []) ++
    rows_in selects forms op

abbrev pub rows_of : (Form → Bool) → List Operation → List Row
rows_of selects [] = []
rows_of selects (op ∷ ops) = rows_in selects op.forms op ++ rows_of selects ops

abbrev pub vectors : Form → Bool
vectors V = true
vectors X = false
vectors I = false
vectors U = false

abbrev pub scalars : Form → Bool
scalars V = false
scalars X = true
scalars I = false
scalars U = false

abbrev pub immediates : Form → Bool
immediates V = false
immediates X = false
immediates I = true
immediates U = true
