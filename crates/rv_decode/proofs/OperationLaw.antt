-- The rows of some operations give a word the instruction that it encodes, where each operation does.
use Rattle.std.proofs.Common.{◌≡◌, ℕ, ◌^◌, ◌*◌, ◌+◌, ◌<◌, Bool, true, false, List, [], ◌∷◌, ◌++◌, if◌then◌else◌, refl, sym, ap, ◌∙◌, arith, rules, inl, inr}
use Rattle.std.proofs.lemmas.Int.{ints}
use Rattle.std.proofs.Math.Nat.{mod-eq_of_lt}
use Rattle.std.proofs.lemmas.Bool.{or_right}
use Rattle.std.specs.List.{list_any}
use Rattle.rv_decode.specs.Bits.{bits}
use Rattle.rv_decode.specs.Encode.{modulo, low_fields}
use Rattle.rv_decode.specs.EncodeVector.{Category, OPI, Code, code, f3_of, number_of_operand, vm_of, encode_v, takes_signed, takes_unsigned, OperandFits}
use Rattle.rv_decode.specs.Rows.{Row, row}
use Rattle.rv_decode.specs.Operations.{Form, V, X, I, U, operand, vectors, scalars, immediates, Operation, rows_in, rows_of, funct6, is_masked}
use Rattle.rv_decode.proofs.TableLaw.{HasFields, Every, RowsHold, append_rows}
use Rattle.rv_decode.proofs.ScalarLaw.{Encodes}
use Rattle.rv_decode.proofs.Wholes.{below5, mask_bit, modulo_signed, signed_fits}
use Rattle.rv_decode.specs.Words.{Source}

-- the fields of a word that has a funct6

parts_v : (word : ℕ) → word < 2 ^ 32 → word ≡ bits 26 6 word * 2 ^ 26 + bits 25 1 word * 2 ^ 25 + bits 20 5 word * 2 ^ 20 + low_fields (bits 0 7 word) (bits 7 5 word) (bits 12 3 word) (bits 15 5 word)
unfolding bits low_fields
parts_v word w = omega arith

-- what the fields of a word say of an operation
pub record Spells (word : ℕ) (c : Code) (b : Source) : Type 0 where
  pub at_opcode : bits 0 7 word ≡ 0x57
  pub at_f3 : bits 12 3 word ≡ f3_of c.category b
  pub at_funct6 : bits 26 6 word ≡ c.funct6
  pub at_operand : bits 15 5 word ≡ number_of_operand b
  pub operand_fits : OperandFits c.forms b

word_of : (word : ℕ) (c : Code) (b : Source) → Spells word c b → word < 2 ^ 32 → word ≡ encode_v c (bits 7 5 word) (bits 25 1 word) (bits 20 5 word) b
unfolding encode_v
word_of word c b s w =
    let h = parts_v word w in
    let o = s.at_opcode in
    let f = s.at_f3 in
    let g = s.at_funct6 in
    let n = s.at_operand in
    cc

pub word_with_mask : (word : ℕ) (c : Code) (b : Source) → Spells word c b → word < 2 ^ 32 → word ≡ encode_v c (bits 7 5 word) (vm_of (is_masked word)) (bits 20 5 word) b
word_with_mask word c b s w =
    word_of word c b s w ∙
    ap (λ vm. encode_v c (bits 7 5 word) vm (bits 20 5 word) b) (mask_bit word)

pub word_with_vm : (word : ℕ) (c : Code) (b : Source) (vm : ℕ) → Spells word c b → bits 25 1 word ≡ vm → word < 2 ^ 32 → word ≡ encode_v c (bits 7 5 word) vm (bits 20 5 word) b
word_with_vm word c b vm s e w = word_of word c b s w ∙ ap (λ n. encode_v c (bits 7 5 word) n (bits 20 5 word) b) e

-- an operation in a form, and in each of its forms: a word that its fields select encodes it
abbrev pub FormHolds : ℕ → Category → Operation → Form → Type 0
FormHolds word category op form =
    Spells word (code category op.code op.forms) (operand form word) → HasFields op.fixed word → Encodes word (op.meaning (operand form word) word)

abbrev pub OperationHolds : ℕ → Category → Operation → Type 0
OperationHolds word category op = Every (FormHolds word category op) op.forms

abbrev pub HoldsInAnyForm : ℕ → Category → Operation → Type 0
HoldsInAnyForm word category op = (form : Form) → FormHolds word category op form

each_form : (P : Form → Type 0) → ((form : Form) → P form) → (forms : List Form) → Every P forms
each_form P h [] = tt
each_form P h (form ∷ forms) = (h form, each_form P h forms)

pub each_operation : (word : ℕ) (category : Category) (ops : List Operation) → Every (HoldsInAnyForm word category) ops → Every (OperationHolds word category) ops
each_operation word category [] h = tt
each_operation word category (op ∷ ops) h =
    (each_form (FormHolds word category op) h.0 op.forms, each_operation word category ops h.1)

-- a form's operand fits an operation that has the form

fits_more : (form : Form) (forms : List Form) (b : Source) → OperandFits forms b → OperandFits (form ∷ forms) b
fits_more form forms (Source.Vector vs1) h = (or_right (vectors form) (list_any vectors forms) h.0, h.1)
fits_more form forms (Source.Scalar rs1) h = (or_right (scalars form) (list_any scalars forms) h.0, h.1)
fits_more form forms (Source.Immediate imm) (inl h) = inl (or_right (takes_signed form) (list_any takes_signed forms) h.0, h.1)
fits_more form forms (Source.Immediate imm) (inr h) = inr (or_right (takes_unsigned form) (list_any takes_unsigned forms) h.0, h.1, h.2)

fits_here : (word : ℕ) (form : Form) (forms : List Form) → OperandFits (form ∷ forms) (operand form word)
fits_here word V forms = (refl, below5 15 word)
fits_here word X forms = (refl, below5 15 word)
fits_here word I forms = inl (refl, signed_fits 16 (bits 15 5 word) (below5 15 word))
fits_here word U forms = let h = below5 15 word in inr (refl, omega (arith, ints), omega (arith, ints))

more_fit : (word : ℕ) (form : Form) (forms some : List Form) → Every (λ f. OperandFits forms (operand f word)) some → Every (λ f. OperandFits (form ∷ forms) (operand f word)) some
more_fit word form forms [] h = tt
more_fit word form forms (f ∷ fs) h = (fits_more form forms (operand f word) h.0, more_fit word form forms fs h.1)

all_fit : (word : ℕ) (forms : List Form) → Every (λ f. OperandFits forms (operand f word)) forms
all_fit word [] = tt
all_fit word (form ∷ forms) = (fits_here word form forms, more_fit word form forms forms (all_fit word forms))

number_is : (word : ℕ) (form : Form) → bits 15 5 word ≡ number_of_operand (operand form word)
unfolding modulo
number_is word V = refl
number_is word X = refl
number_is word I = sym (modulo_signed 16 (bits 15 5 word) (below5 15 word))
number_is word U = sym (mod-eq_of_lt (below5 15 word))

-- the rows of some operations, in the forms that a test selects, where f3 is that of these forms

abbrev pub Selects : ℕ → Category → (Form → Bool) → Type 0
Selects word category selects = (form : Form) → selects form ≡ true → bits 12 3 word ≡ f3_of category (operand form word)

one_form : (word : ℕ) (form : Form) (op : Operation) (rest : List Row) (test : Bool) → (test ≡ true → HasFields (funct6 op.code ∷ op.fixed) word → Encodes word (op.meaning (operand form word) word)) → RowsHold (Encodes word) word rest → RowsHold (Encodes word) word ((if test then row (funct6 op.code ∷ op.fixed) (λ w. op.meaning (operand form w) w) ∷ [] else []) ++ rest)
one_form word form op rest true h i = (h refl, i)
one_form word form op rest false h i = i

rows_in_hold : (word : ℕ) (category : Category) (selects : Form → Bool) (op : Operation) → bits 0 7 word ≡ 0x57 → Selects word category selects → (forms : List Form) → Every (λ f. OperandFits op.forms (operand f word)) forms → Every (FormHolds word category op) forms → RowsHold (Encodes word) word (rows_in selects forms op)
rows_in_hold word category selects op o s [] fit h = tt
rows_in_hold word category selects op o s (form ∷ forms) fit h =
    one_form word form op (rows_in selects forms op) (selects form)
    (λ selected. λ fields. h.0
    (record { at_opcode = o; at_f3 = s form selected; at_funct6 = fields.0; at_operand = number_is word form; operand_fits = fit.0 })
    fields.1)
    (rows_in_hold word category selects op o s forms fit.1 h.1)

pub rows_of_hold : (word : ℕ) (category : Category) (selects : Form → Bool) → bits 0 7 word ≡ 0x57 → Selects word category selects → (ops : List Operation) → Every (OperationHolds word category) ops → RowsHold (Encodes word) word (rows_of selects ops)
rows_of_hold word category selects o s [] h = tt
rows_of_hold word category selects o s (op ∷ ops) h =
    append_rows (Encodes word) word (rows_in selects op.forms op) (rows_of selects ops)
    (rows_in_hold word category selects op o s op.forms (all_fit word op.forms) h.0)
    (rows_of_hold word category selects o s ops h.1)

pub selects_vectors : (word : ℕ) (category : Category) → bits 12 3 word ≡ f3_of category (operand V word) → Selects word category vectors
selects_vectors word category e V h = e
selects_vectors word category e X h = absurd (search rules)
selects_vectors word category e I h = absurd (search rules)
selects_vectors word category e U h = absurd (search rules)

pub selects_scalars : (word : ℕ) (category : Category) → bits 12 3 word ≡ f3_of category (operand X word) → Selects word category scalars
selects_scalars word category e X h = e
selects_scalars word category e V h = absurd (search rules)
selects_scalars word category e I h = absurd (search rules)
selects_scalars word category e U h = absurd (search rules)

pub selects_immediates : (word : ℕ) → bits 12 3 word ≡ 3 → Selects word OPI immediates
selects_immediates word e I h = e
selects_immediates word e U h = e
selects_immediates word e V h = absurd (search rules)
selects_immediates word e X h = absurd (search rules)
