-- What the rules that stand on forms and ranges ask of them: what atoms a form speaks of, and that
-- ranges hold numbers of 32 bits.
use Rattle.std.specs.Prelude.{ℕ, ◌≡◌, ◌+◌, ◌^◌, ◌<◌, List, [], ◌∷◌, Some}
use Rattle.linear_facts.specs.Words.{Term, Range}
use Rattle.linear_facts.specs.Forms.{Linear, value, sum_of, scaled, substituted, form_at}
use Rattle.linear_facts.specs.Ranges.{AtomTable}
use Rattle.linear_facts.specs.Sums.{range_of_form}

-- Each atom is one of the first n.
abbrev pub AreBelow : ℕ → List Term → Type 0
AreBelow n [] = Unit {0}
AreBelow n (t ∷ ts) = (t.atom < n) × AreBelow n ts

-- A form below n is below every greater number.
abbrev pub FormsStayBelow : Type 0
FormsStayBelow = (n k : ℕ) (f : Linear) → AreBelow n f.terms → AreBelow (n + k) f.terms

-- A sum speaks of the atoms of its parts alone.
abbrev pub SumsStayBelow : Type 0
SumsStayBelow =
    (n : ℕ) (f g : Linear) → AreBelow n f.terms → AreBelow n g.terms → AreBelow n (sum_of f g).terms

-- A multiple speaks of the form's atoms alone.
abbrev pub MultiplesStayBelow : Type 0
MultiplesStayBelow = (n k : ℕ) (f : Linear) → AreBelow n f.terms → AreBelow n (scaled k f).terms

-- A form with its atoms replaced speaks of the atoms of what stands in their place alone.
abbrev pub SubstitutionsStayBelow : Type 0
SubstitutionsStayBelow =
    (n : ℕ) (forms : List Linear) (f : Linear) → ((a : ℕ) → AreBelow n (form_at forms a).terms)
    → AreBelow n (substituted forms f).terms

-- A form means the same wherever the atoms that it may speak of are the same numbers.
abbrev pub AgreeBelow : Type 0
AgreeBelow =
    (n : ℕ) (v w : ℕ → ℕ) (f : Linear) → ((a : ℕ) → a < n → v a ≡ w a) → AreBelow n f.terms
    → value v f ≡ value w f

-- A form's range ends below 2^32.
abbrev pub RangesFit : Type 0
RangesFit =
    (table : AtomTable) (f : Linear) (r : Range) → range_of_form table f ≡ Some r → r.hi < 2 ^ 32
