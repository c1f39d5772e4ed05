-- A word's funct6 says which half of the operations may have a row for it.
use Rattle.std.proofs.Common.{◌≡◌, ℕ, ◌<◌, ◌≤◌, ◌==◌, ◌&&◌, Bool, true, false, List, [], ◌∷◌, ◌++◌, if◌then◌else◌, refl, sym, ap, ◌∙◌, arith, rules, append_assoc, append-nil}
use Rattle.std.specs.Prelude.{ltb, not}
use Rattle.std.proofs.lemmas.Bool.{eqb-true, and_parts}
use Rattle.rv_decode.specs.Bits.{bits}
use Rattle.rv_decode.specs.Rows.{Row, has_fields, meanings_by_rows, row}
use Rattle.rv_decode.specs.Operations.{Form, Operation, rows_in, rows_of, operand, funct6}
use Rattle.rv_decode.specs.Vector.{low_opi, high_opi, opi, low_opm, high_opm, opm, extend_rows}
use Rattle.rv_decode.specs.ElementWords.{to_scalar_rows, set_mask_rows, whole_rows}

-- meanings by the rows of two lists of operations

by_both : (xs ys : List Row) (word : ℕ) → meanings_by_rows (xs ++ ys) word ≡ meanings_by_rows xs word ++ meanings_by_rows ys word
by_both [] ys word = refl
by_both (x ∷ xs) ys word =
    ap (λ l. (if has_fields x.fixed word then x.meaning word ∷ [] else []) ++ l) (by_both xs ys word) ∙
    sym (append_assoc (if has_fields x.fixed word then x.meaning word ∷ [] else []) (meanings_by_rows xs word) (meanings_by_rows ys word))

rows_of_both : (selects : Form → Bool) (xs ys : List Operation) → rows_of selects (xs ++ ys) ≡ rows_of selects xs ++ rows_of selects ys
rows_of_both selects [] ys = refl
rows_of_both selects (x ∷ xs) ys =
    ap (λ l. rows_in selects x.forms x ++ l) (rows_of_both selects xs ys) ∙
    sym (append_assoc (rows_in selects x.forms x) (rows_of selects xs) (rows_of selects ys))

-- operations with another funct6 have no row for a word

abbrev IsApart : ℕ → List Operation → Type 0
IsApart word [] = Unit {0}
IsApart word (op ∷ ops) = ((bits 26 6 word == op.code) ≡ false) × IsApart word ops

no_row : (word : ℕ) (test : Bool) (rest : Bool) (r : Row) (rows : List Row) → test ≡ false → has_fields r.fixed word ≡ (test && rest) → meanings_by_rows rows word ≡ [] → meanings_by_rows (r ∷ rows) word ≡ []
no_row word true rest r rows h e i = absurd (search (rules, h))
no_row word false rest r rows h e i =
    ap (λ b. (if b then r.meaning word ∷ [] else []) ++ meanings_by_rows rows word) e ∙ i

none_in : (selects : Form → Bool) (op : Operation) (word : ℕ) → (bits 26 6 word == op.code) ≡ false → (forms : List Form) → meanings_by_rows (rows_in selects forms op) word ≡ []
none_in selects op word h [] = refl
none_in selects op word h (form ∷ forms) = elim (selects form) as (λ b. meanings_by_rows ((if b then row (funct6 op.code ∷ op.fixed) (λ w. op.meaning (operand form w) w) ∷ [] else []) ++ rows_in selects forms op) word ≡ []) [
  | true ↦
      no_row word (bits 26 6 word == op.code) (has_fields op.fixed word) (row (funct6 op.code ∷ op.fixed) (λ w. op.meaning (operand form w) w)) (rows_in selects forms op) h refl (none_in selects op word h forms)
  | false ↦ none_in selects op word h forms
]

none_of : (selects : Form → Bool) (word : ℕ) (ops : List Operation) → IsApart word ops → meanings_by_rows (rows_of selects ops) word ≡ []
none_of selects word [] h = refl
none_of selects word (op ∷ ops) h =
    by_both (rows_in selects op.forms op) (rows_of selects ops) word ∙
    ap (λ l. l ++ meanings_by_rows (rows_of selects ops) word) (none_in selects op word h.0 op.forms) ∙
    none_of selects word ops h.1

-- a test tells the codes of the operations from a word's funct6

abbrev all_codes : (ℕ → Bool) → List Operation → Bool
all_codes test [] = true
all_codes test (op ∷ ops) = test op.code && all_codes test ops

differ : (test : ℕ → Bool) (n code : ℕ) (same : Bool) → (n == code) ≡ same → test n ≡ false → test code ≡ true → same ≡ false
differ test n code false e h i = refl
differ test n code true e h i =
    let f : false ≡ true = sym h ∙ ap test (eqb-true n code e) ∙ i in absurd (search (rules, f))

apart : (test : ℕ → Bool) (word : ℕ) → test (bits 26 6 word) ≡ false → (ops : List Operation) → all_codes test ops ≡ true → IsApart word ops
apart test word h [] i = tt
apart test word h (op ∷ ops) i =
    let parts = and_parts (test op.code) (all_codes test ops) i in
    (differ test (bits 26 6 word) op.code (bits 26 6 word == op.code) refl h parts.0, apart test word h ops parts.1)

abbrev is_low : ℕ → Bool
is_low code = ltb code 0x20

abbrev is_high : ℕ → Bool
is_high code = not (ltb code 0x20)

-- where the codes of two halves are told apart, a word has rows in one of them alone

abbrev Halves : (Form → Bool) → ℕ → List Operation → List Operation → Type 0
Halves selects word low high =
    (bits 26 6 word < 0x20 → meanings_by_rows (rows_of selects (low ++ high)) word ≡ meanings_by_rows (rows_of selects low) word)
    × (0x20 ≤ bits 26 6 word → meanings_by_rows (rows_of selects (low ++ high)) word ≡ meanings_by_rows (rows_of selects high) word)

halves : (selects : Form → Bool) (word : ℕ) (low high : List Operation) → all_codes is_low low ≡ true → all_codes is_high high ≡ true → Halves selects word low high
halves selects word low high below above =
    let both = ap (λ rows. meanings_by_rows rows word) (rows_of_both selects low high) ∙ by_both (rows_of selects low) (rows_of selects high) word in (
      λ less.
          let test : is_high (bits 26 6 word) ≡ false = grind (arith, less) in
          both ∙
          ap (λ l. meanings_by_rows (rows_of selects low) word ++ l) (none_of selects word high (apart is_high word test high above)) ∙
          append-nil (meanings_by_rows (rows_of selects low) word),
      λ more.
          let test : is_low (bits 26 6 word) ≡ false = grind (arith, more) in
          both ∙ ap (λ l. l ++ meanings_by_rows (rows_of selects high) word) (none_of selects word low (apart is_low word test low below)),
    )

opi_halves : (selects : Form → Bool) (word : ℕ) → Halves selects word low_opi high_opi
unfolding low_opi high_opi whole_rows
opi_halves selects word = halves selects word low_opi high_opi refl refl

opm_halves : (selects : Form → Bool) (word : ℕ) → Halves selects word low_opm high_opm
unfolding low_opm high_opm extend_rows to_scalar_rows set_mask_rows
opm_halves selects word = halves selects word low_opm high_opm refl refl

pub opi_below : (selects : Form → Bool) (word : ℕ) → bits 26 6 word < 0x20 → meanings_by_rows (rows_of selects opi) word ≡ meanings_by_rows (rows_of selects low_opi) word
unfolding opi
opi_below selects word = (opi_halves selects word).0

pub opi_above : (selects : Form → Bool) (word : ℕ) → 0x20 ≤ bits 26 6 word → meanings_by_rows (rows_of selects opi) word ≡ meanings_by_rows (rows_of selects high_opi) word
unfolding opi
opi_above selects word = (opi_halves selects word).1

pub opm_below : (selects : Form → Bool) (word : ℕ) → bits 26 6 word < 0x20 → meanings_by_rows (rows_of selects opm) word ≡ meanings_by_rows (rows_of selects low_opm) word
unfolding opm
opm_below selects word = (opm_halves selects word).0

pub opm_above : (selects : Form → Bool) (word : ℕ) → 0x20 ≤ bits 26 6 word → meanings_by_rows (rows_of selects opm) word ≡ meanings_by_rows (rows_of selects high_opm) word
unfolding opm
opm_above selects word = (opm_halves selects word).1
