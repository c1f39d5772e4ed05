-- Tables of words: a row fixes some fields, and a word that has these values means
-- what the row says.
use Rattle.std.specs.Prelude.{ℕ, Bool, true, List, [], ◌∷◌, ◌++◌, ◌==◌, ◌&&◌, Option, None, Some, if◌then◌else◌}
use Rattle.rv_decode.specs.Bits.{bits}
use Rattle.rv_decode.specs.Words.{Insn}

-- the `width` bits from bit `low` on have this value
pub record Field : Type 0 where
  pub low : ℕ
  pub width : ℕ
  pub value : ℕ

-- what a word with these fields means
pub record Row : Type 0 where
  pub fixed : List Field
  pub meaning : ℕ → Insn

-- rows that have some fields in common
pub record RowGroup : Type 0 where
  pub fixed : List Field
  pub rows : List Row

-- groups that have some fields in common
pub record Section : Type 0 where
  pub fixed : List Field
  pub groups : List RowGroup

abbrev pub has_fields : List Field → ℕ → Bool
has_fields [] word = true
has_fields (f ∷ fs) word = bits f.low f.width word == f.value && has_fields fs word

-- the meanings that the rows give to a word, one for each row that it matches
abbrev pub meanings_by_rows : List Row → ℕ → List Insn
meanings_by_rows [] word = []
meanings_by_rows (r ∷ rs) word =
    (if has_fields r.fixed word then r.meaning word ∷ [] else []) ++ meanings_by_rows rs word

abbrev pub meanings_by_groups : List RowGroup → ℕ → List Insn
meanings_by_groups [] word = []
meanings_by_groups (g ∷ gs) word =
    (if has_fields g.fixed word then meanings_by_rows g.rows word else [])
    ++ meanings_by_groups gs word

abbrev pub meanings : List Section → ℕ → List Insn
meanings [] word = []
meanings (s ∷ ss) word =
    (if has_fields s.fixed word then meanings_by_groups s.groups word else []) ++ meanings ss word

-- the first of some meanings
abbrev pub first : List Insn → Option Insn
first [] = None
first (x ∷ xs) = Some x

-- the words that fix a few fields
abbrev pub opcode : ℕ → Field
opcode value = record { low = 0; width = 7; value = value }

abbrev pub f3 : ℕ → Field
f3 value = record { low = 12; width = 3; value = value }

abbrev pub f7 : ℕ → Field
f7 value = record { low = 25; width = 7; value = value }

abbrev pub field : ℕ → ℕ → ℕ → Field
field low width value = record { low = low; width = width; value = value }

abbrev pub row : List Field → (ℕ → Insn) → Row
row fixed meaning = record { fixed = fixed; meaning = meaning }

abbrev pub group : List Field → List Row → RowGroup
group fixed rows = record { fixed = fixed; rows = rows }

-- a group of one row, that no field but f3 selects
abbrev pub only_f3 : ℕ → (ℕ → Insn) → RowGroup
only_f3 value meaning = group (f3 value ∷ []) (row [] meaning ∷ [])

-- a group of one row, where the opcode says all
abbrev pub only : (ℕ → Insn) → RowGroup
only meaning = group [] (row [] meaning ∷ [])

abbrev pub section : List Field → List RowGroup → Section
section fixed groups = record { fixed = fixed; groups = groups }
