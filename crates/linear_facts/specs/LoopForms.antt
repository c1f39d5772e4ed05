-- The forms of the numbers of a loop that goes through buffers a part at a time, and their ranges.
use Rattle.std.specs.Prelude.{ℕ, ◌≡◌, ◌+◌, ◌-◌, ◌*◌, ◌^◌, ◌<◌, ◌≤◌, ◌⊎◌, min, List, [], ◌∷◌, Some, None, true}
use Rattle.linear_facts.specs.Words.{Term}
use Rattle.linear_facts.specs.Forms.{Linear, number_form, atom_form}
use Rattle.linear_facts.specs.Ranges.{AtomTable, range_at, split_at}
use Rattle.linear_facts.specs.Sums.{range_of_form}
use Rattle.linear_facts.specs.Differences.{Product, is_at_least_of}

abbrev pub term : ℕ → ℕ → Term
term atom coefficient = record { atom = atom; coefficient = coefficient }

-- bytes of an element
abbrev pub IsSize : ℕ → Type 0
IsSize w = (w ≡ 1) ⊎ (w ≡ 2) ⊎ (w ≡ 4)

-- base - w * n + w * e
abbrev pub pointer_form : ℕ → ℕ → ℕ → ℕ → Linear
pointer_form base w n e = record { constant = base; terms = term n (2 ^ 32 - w) ∷ term e w ∷ [] }

-- base - w * n + w * e + w * v
abbrev pub moved_form : ℕ → ℕ → ℕ → ℕ → ℕ → Linear
moved_form base w n e v = record {
  constant = base;
  terms
      = term n (2 ^ 32 - w) ∷ term e w ∷ term v w ∷ [];
}

-- n - v
abbrev pub left_form : ℕ → ℕ → Linear
left_form n v = record { constant = 0; terms = term n 1 ∷ term v 4294967295 ∷ [] }

-- What is known of the atoms in the loop: of the N at most that there were, n are left. v of these
-- are done now, at most M, and u later; e, at least L, was the number of them at entry.
pub record IsLoop (table : AtomTable) (n e v u L N M : ℕ) : Type 0 where
  pub first : n < e
  pub second : e < v
  pub third : v < u
  pub n_range : range_at table n ≡ record { lo = 1; hi = N }
  pub e_range : range_at table e ≡ record { lo = L; hi = N }
  pub v_range : range_at table v ≡ record { lo = min 1 M; hi = min N M }
  pub u_range : range_at table u ≡ record { lo = 1 - M; hi = N - M }
  pub n_split : split_at table n ≡ Some record { first = v; second = u }
  pub e_split : split_at table e ≡ None
  pub v_split : split_at table v ≡ None
  pub some : 1 ≤ N
  pub least : L ≤ N
  pub progress : 1 ≤ M

abbrev pub MovedRange : Type 0
MovedRange = (table : AtomTable) (base w n e v u L N M : ℕ) → IsLoop table n e v u L N M → IsSize w
    → w * N ≤ base → base + w * N < 2 ^ 32
    → range_of_form table (moved_form base w n e v)
    ≡ Some record { lo = base + w * L - w * (N - M); hi = base + w * N }

abbrev pub LeftRange : Type 0
LeftRange = (table : AtomTable) (n e v u L N M : ℕ) → IsLoop table n e v u L N M → N < 2 ^ 32
    → range_of_form table (left_form n v) ≡ Some record { lo = 0; hi = N - M }

-- the number times what a form stands for, and nothing else
abbrev pub times : ℕ → Linear → List Product
times k f = record { factor = k; form = f } ∷ record { factor = 0; form = number_form 0 } ∷ []

-- One round is paid by the count that it takes away: `1 + k * n` is at least `k + 1 + k * (n - v)`.
abbrev pub RoundPaid : Type 0
RoundPaid = (table : AtomTable) (n e v u L N M k : ℕ) → IsLoop table n e v u L N M → N < 2 ^ 32
    → is_at_least_of table 1 (times k (atom_form n)) (k + 1) (times k (left_form n v)) ≡ true

-- The range of a number is that number.
abbrev pub NumberRange : Type 0
NumberRange = (table : AtomTable) (c : ℕ) → c < 2 ^ 32
    → range_of_form table (number_form c) ≡ Some record { lo = c; hi = c }

-- the range of an atom that is not split is that of the form that it is
abbrev pub AtomRange : Type 0
AtomRange = (table : AtomTable) (a lo hi : ℕ) → range_at table a ≡ record { lo = lo; hi = hi }
    → split_at table a ≡ None → lo ≤ hi → hi < 2 ^ 32
    → range_of_form table (atom_form a) ≡ Some record { lo = lo; hi = hi }

-- where the loop begins: n of the N at most are left, of e that there were
abbrev pub PointerRange : Type 0
PointerRange = (table : AtomTable) (base w n e L N : ℕ) → n < e
    → range_at table n ≡ record { lo = 1; hi = N } → range_at table e ≡ record { lo = L; hi = N }
    → split_at table n ≡ None → split_at table e ≡ None → 1 ≤ N → L ≤ N → IsSize w
    → w * N ≤ base → base + w * N < 2 ^ 32
    → range_of_form table (pointer_form base w n e)
    ≡ Some record { lo = base + w * L - w * N; hi = base + w * N - w }

-- A budget pays for itself.
abbrev pub SamePaid : Type 0
SamePaid = (table : AtomTable) (a lo hi c k : ℕ)
    → range_at table a ≡ record { lo = lo; hi = hi } → split_at table a ≡ None → lo ≤ hi
    → hi < 2 ^ 32
    → is_at_least_of table c (times k (atom_form a)) c (times k (atom_form a)) ≡ true
