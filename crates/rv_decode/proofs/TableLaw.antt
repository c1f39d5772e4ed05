-- What holds of each row of a table holds of the meaning that the table gives to a word.
use Rattle.std.proofs.Common.{◌≡◌, ℕ, Bool, true, false, ◌==◌, List, [], ◌∷◌, ◌++◌, if◌then◌else◌, refl, subst, sym}
use Rattle.std.proofs.lemmas.Bool.{eqb-true, and_parts}
use Rattle.std.specs.Option.{IfSome}
use Rattle.rv_decode.specs.Bits.{bits}
use Rattle.rv_decode.specs.Rows.{Field, Row, RowGroup, Section, has_fields, meanings_by_rows, meanings_by_groups, meanings, first}
use Rattle.rv_decode.specs.Words.{Insn}

abbrev pub HasFields : List Field → ℕ → Type 0
HasFields [] word = Unit {0}
HasFields (f ∷ fs) word = (bits f.low f.width word ≡ f.value) × HasFields fs word

fields_of : (fs : List Field) (word : ℕ) → has_fields fs word ≡ true → HasFields fs word
fields_of [] word h = tt
fields_of (f ∷ fs) word h =
    let parts = and_parts (bits f.low f.width word == f.value) (has_fields fs word) h in
    (eqb-true _ _ parts.0, fields_of fs word parts.1)

abbrev pub Every : {X : Type 0} → (X → Type 0) → List X → Type 0
Every P [] = Unit {0}
Every P (x ∷ xs) = P x × Every P xs

pub append_every : {X : Type 0} (P : X → Type 0) (xs ys : List X) → Every P xs → Every P ys → Every P (xs ++ ys)
append_every P [] ys h i = i
append_every P (x ∷ xs) ys h i = (h.0, append_every P xs ys h.1 i)

where_true : (P : Insn → Type 0) (test : Bool) (xs : List Insn) → (test ≡ true → Every P xs) → Every P (if test then xs else [])
where_true P true xs h = h refl
where_true P false xs h = tt

-- each row's meaning has the property, where the word has the fields that select it

abbrev pub ItemsHold : {X : Type 0} → (X → List Field) → (X → Type 0) → ℕ → List X → Type 0
ItemsHold fixed Holds word [] = Unit {0}
ItemsHold fixed Holds word (x ∷ xs) = (HasFields (fixed x) word → Holds x) × ItemsHold fixed Holds word xs

abbrev pub RowsHold : (Insn → Type 0) → ℕ → List Row → Type 0
RowsHold P word = ItemsHold (λ r. r.fixed) (λ r. P (r.meaning word)) word

abbrev pub GroupsHold : (Insn → Type 0) → ℕ → List RowGroup → Type 0
GroupsHold P word = ItemsHold (λ g. g.fixed) (λ g. RowsHold P word g.rows) word

abbrev pub SectionsHold : (Insn → Type 0) → ℕ → List Section → Type 0
SectionsHold P word = ItemsHold (λ s. s.fixed) (λ s. GroupsHold P word s.groups) word

pub append_rows : (P : Insn → Type 0) (word : ℕ) (rs ss : List Row) → RowsHold P word rs → RowsHold P word ss → RowsHold P word (rs ++ ss)
append_rows P word [] ss h i = i
append_rows P word (r ∷ rs) ss h i = (h.0, append_rows P word rs ss h.1 i)

-- what holds of all that each of them gives, where the word has its fields, holds of all that they give
by_items : {X : Type 0} (P : Insn → Type 0) (word : ℕ) (fixed : X → List Field) (Holds : X → Type 0) (given : X → List Insn) (all : List X → List Insn)
    → all [] ≡ [] → ((x : X) (xs : List X) → all (x ∷ xs) ≡ (if has_fields (fixed x) word then given x else []) ++ all xs)
    → ((x : X) → Holds x → Every P (given x)) → (xs : List X) → ItemsHold fixed Holds word xs → Every P (all xs)
by_items P word fixed Holds given all none more each [] h = subst (Every P) (sym none) tt
by_items P word fixed Holds given all none more each (x ∷ xs) h =
    subst (Every P) (sym (more x xs))
    (append_every P _ _
    (where_true P (has_fields (fixed x) word) (given x) (λ e. each x (h.0 (fields_of (fixed x) word e))))
    (by_items P word fixed Holds given all none more each xs h.1))

by_rows : (P : Insn → Type 0) (word : ℕ) (rs : List Row) → RowsHold P word rs → Every P (meanings_by_rows rs word)
by_rows P word rs h =
    by_items P word (λ r. r.fixed) (λ r. P (r.meaning word)) (λ r. r.meaning word ∷ []) (λ l. meanings_by_rows l word) refl (λ x xs. refl) (λ r i. (i, tt)) rs h

by_groups : (P : Insn → Type 0) (word : ℕ) (gs : List RowGroup) → GroupsHold P word gs → Every P (meanings_by_groups gs word)
by_groups P word gs h =
    by_items P word (λ g. g.fixed) (λ g. RowsHold P word g.rows) (λ g. meanings_by_rows g.rows word) (λ l. meanings_by_groups l word) refl (λ x xs. refl) (λ g i. by_rows P word g.rows i) gs h

by_sections : (P : Insn → Type 0) (word : ℕ) (ss : List Section) → SectionsHold P word ss → Every P (meanings ss word)
by_sections P word ss h =
    by_items P word (λ s. s.fixed) (λ s. GroupsHold P word s.groups) (λ s. meanings_by_groups s.groups word) (λ l. meanings l word) refl (λ x xs. refl) (λ s i. by_groups P word s.groups i) ss h

of_first : (P : Insn → Type 0) (xs : List Insn) → Every P xs → IfSome (first xs) P
of_first P [] h = tt
of_first P (x ∷ xs) h = h.0

pub of_table : (P : Insn → Type 0) (word : ℕ) (ss : List Section) → SectionsHold P word ss → IfSome (first (meanings ss word)) P
of_table P word ss h = of_first P (meanings ss word) (by_sections P word ss h)
