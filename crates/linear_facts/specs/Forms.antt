-- Linear forms: a constant, and terms that are each a coefficient times an unknown number, an atom.
-- What a form stands for is a number modulo 2^32.
use Rattle.std.specs.Prelude.{ℕ, ◌+◌, ◌*◌, ◌%◌, ◌^◌, ◌<◌, ◌≤◌, ◌==◌, nat_lt, nat_le, if◌then◌else◌, List, [], ◌∷◌, ◌++◌, length, Option, Some, None, slice_index_or}
use Rattle.linear_facts.specs.Words.{Term}

-- a form, of whatever room
pub record Linear : Type 0 where
  pub constant : ℕ
  pub terms : List Term

-- the terms together, where atom a is the number v a
abbrev pub weight : (ℕ → ℕ) → List Term → ℕ
weight v [] = 0
weight v (t ∷ ts) = t.coefficient * v t.atom + weight v ts

-- what the form means where atom a is the number v a
unfoldable pub value : (ℕ → ℕ) → Linear → ℕ
value v f = (f.constant + weight v f.terms) % 2 ^ 32

-- atoms rise from low on, and no coefficient is 0 modulo 2^32
abbrev pub RisesFrom : ℕ → List Term → Type 0
RisesFrom low [] = Unit {0}
RisesFrom low (t ∷ ts) =
    (low ≤ t.atom) × (0 < t.coefficient) × (t.coefficient < 2 ^ 32) × RisesFrom (t.atom + 1) ts

-- the one spelling of a form with at most n terms
pub record IsForm (n : ℕ) (f : Linear) : Type 0 where
  pub constant_fits : f.constant < 2 ^ 32
  pub rises : RisesFrom 0 f.terms
  pub has_room : length f.terms ≤ n

-- the term, or no term where the coefficient is 0
abbrev pub term_or_none : ℕ → ℕ → List Term
term_or_none atom coefficient =
    if coefficient == 0 then [] else record { atom = atom; coefficient = coefficient } ∷ []

-- x merged into ys, where `rest` merges what follows x
unfoldable pub merged_from : Term → (List Term → List Term) → List Term → List Term
merged_from x rest [] = x ∷ rest []
merged_from x rest (y ∷ ys) =
    if nat_lt x.atom y.atom then x ∷ rest (y ∷ ys)
    else (if nat_lt y.atom x.atom then y ∷ merged_from x rest ys
    else term_or_none x.atom ((x.coefficient + y.coefficient) % 2 ^ 32) ++ rest ys)

-- the terms of both, by rising atom: the coefficients of one atom are added, and what
-- is 0 is left out
unfoldable pub merged : List Term → List Term → List Term
merged [] ys = ys
merged (x ∷ xs) ys = merged_from x (merged xs) ys

-- k times the terms, without those that are 0
unfoldable pub scaled_terms : ℕ → List Term → List Term
scaled_terms k [] = []
scaled_terms k (t ∷ ts) = term_or_none t.atom (k * t.coefficient % 2 ^ 32) ++ scaled_terms k ts

-- the sum of two forms
unfoldable pub sum_of : Linear → Linear → Linear
sum_of f g =
    record { constant = (f.constant + g.constant) % 2 ^ 32; terms = merged f.terms g.terms }

-- k times a form
unfoldable pub scaled : ℕ → Linear → Linear
scaled k f = record { constant = k * f.constant % 2 ^ 32; terms = scaled_terms k f.terms }

-- the form, where it has at most n terms
unfoldable pub within : ℕ → Linear → Option Linear
within n f = if nat_le (length f.terms) n then Some f else None

-- the form that is this number
abbrev pub number_form : ℕ → Linear
number_form n = record { constant = n; terms = [] }

-- the form that is this atom
abbrev pub atom_form : ℕ → Linear
atom_form a = record { constant = 0; terms = record { atom = a; coefficient = 1 } ∷ [] }

-- what stands in an atom's place: the form with its number, or the atom itself where there is none
unfoldable pub form_at : List Linear → ℕ → Linear
form_at forms a = slice_index_or forms a (atom_form a)

-- the sum so far, and the terms with their atoms replaced
unfoldable pub with_replaced : List Linear → Linear → List Term → Linear
with_replaced forms so_far [] = so_far
with_replaced forms so_far (t ∷ ts) =
    with_replaced forms (sum_of so_far (scaled t.coefficient (form_at forms t.atom))) ts

-- the form with each atom replaced by the form with its number, all at once
unfoldable pub substituted : List Linear → Linear → Linear
substituted forms f = with_replaced forms (number_form f.constant) f.terms
