-- The numbers of the registers and of vl, as far as they are known, over atoms.
use Rattle.std.specs.Prelude.{ℕ, ◌==◌, if◌then◌else◌, List, [], ◌∷◌, ◌++◌, length, replicate, slice_set, slice_index_or, Option, Some, None}
use Rattle.linear_facts.specs.declared.forms.Term.{Term}
use Rattle.linear_facts.specs.Ranges.{unknown_atom}
use Rattle.abs_domain.specs.Words.{Range, Atom, Split, Linear, number_form, atom_form, within, AtomTable, range_of_form}
use Rattle.abs_domain.specs.declared.values.Effect.{Effect}
use Rattle.abs_domain.specs.declared.values.Effect.TheVariants.{Computed, Fresh, Copied}
use Rattle.abs_domain.specs.declared.numbers.TheConstants.{NUMBERS}
use Rattle.abs_domain.specs.Values.{ValueView, just, or_full, computed_range}

-- The atoms; the forms and ranges of x0 to x31 and, as number 32, of vl.
pub record NumbersView : Type 0 where
  pub atoms : List Atom
  pub forms : List Linear
  pub ranges : List Range

-- no atoms, and every number is 0
unfoldable pub zero_numbers : NumbersView
zero_numbers = record {
  atoms = [];
  forms = replicate NUMBERS (number_form 0);
  ranges = replicate NUMBERS (just 0);
}

-- atoms as a table, with no split put into their place
abbrev pub table_with : List Atom → AtomTable
table_with atoms = record { atoms = atoms; first = None; second = None }

-- what is known of the atoms
abbrev pub table_of : NumbersView → AtomTable
table_of s = table_with s.atoms

abbrev pub atom_of_term : Term → Option ℕ
atom_of_term t = if t.coefficient == 1 then Some t.atom else None

abbrev pub atom_of_terms : List Term → Option ℕ
atom_of_terms [] = None
atom_of_terms (t ∷ []) = atom_of_term t
atom_of_terms (t ∷ u ∷ ts) = None

-- the atom that a form is
unfoldable pub whole_atom : Linear → Option ℕ
whole_atom f = if f.constant == 0 then atom_of_terms f.terms else None

-- what is known of the number of register i, or of vl
unfoldable pub value_at : NumbersView → ℕ → ValueView
value_at s i = record {
  form = slice_index_or s.forms i (number_form 0);
  range = slice_index_or s.ranges i (just 0);
}

-- an atom that is not split
abbrev pub plain : Range → Atom
plain r = record { range = r; split = None }

-- one atom more
abbrev pub with_atom : Range → NumbersView → NumbersView
with_atom r s = record s { atoms = s.atoms ++ plain r ∷ [] }

-- an atom is the sum of two others, whatever it was before
unfoldable pub with_split : ℕ → Split → List Atom → List Atom
with_split a s atoms =
    slice_set atoms a record { range = (slice_index_or atoms a unknown_atom).range; split = Some s }

-- number i becomes one that is known
unfoldable pub with_value : ℕ → ValueView → NumbersView → NumbersView
with_value i a s =
    record s { forms = slice_set s.forms i a.form; ranges = slice_set s.ranges i a.range }

-- number i becomes a new atom
unfoldable pub with_fresh : ℕ → Range → NumbersView → NumbersView
with_fresh i r s =
    with_value i record { form = atom_form (length s.atoms); range = r } (with_atom r s)

-- number i becomes the form's value where there is one, else a new atom
unfoldable pub with_short : ℕ → Option Linear → Option Range → NumbersView → NumbersView
with_short i None interval s = with_fresh i (or_full interval) s
with_short i (Some f) interval s =
    with_value i
    record { form = f; range = computed_range interval (range_of_form (table_of s) f) } s

-- number i becomes the form's value, or a new atom where the form has more than eight terms
unfoldable pub with_computed : ℕ → Linear → Option Range → NumbersView → NumbersView
with_computed i f interval s = with_short i (within 8 f) interval s

-- number i becomes what an instruction computes
unfoldable pub with_effect : ℕ → Effect → NumbersView → NumbersView
with_effect i (Computed f interval) s = with_computed i f interval s
with_effect i (Fresh r) s = with_fresh i r s
with_effect i (Copied f r) s = with_value i record { form = f; range = r } s

-- register rd gets what an instruction computes; a write to x0 has no effect
unfoldable pub with_result : ℕ → Effect → NumbersView → NumbersView
with_result rd effect s = if rd == 0 then s else with_effect rd effect s
