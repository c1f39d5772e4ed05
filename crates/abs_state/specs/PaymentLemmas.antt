-- What is shown of equalities, facts on vector registers and budgets holds of the numbers.
use Rattle.std.proofs.Common.{◌≡◌, ◌<◌, ◌≤◌, ◌+◌, ◌-◌, ◌*◌, ◌%◌, ◌^◌, ℕ, Bool, true, false, arith, refl, sym, ap, ◌∙◌, IsTrue, List, [], ◌∷◌, length, map}
use Rattle.std.specs.Prelude.{if◌then◌else◌, ◌==◌, ◌&&◌, ◌||◌, nat_le}
use Rattle.std.proofs.lemmas.Bool.{leb-true, and_parts, eqb-true}
use Rattle.std.proofs.lemmas.Bool.Decides.{nat_tests}
use Rattle.std.proofs.lemmas.List.{get_or_default}
use Rattle.std.proofs.Math.ListN.{get_or-eq_default}
use Rattle.std.proofs.Math.Nat.{mul-le-mul_left}
use Rattle.linear_facts.specs.declared.ranges.Range.{Range}
use Rattle.linear_facts.specs.Forms.{Linear, value, number_form, atom_form, form_at, substituted}
use Rattle.linear_facts.specs.Ranges.{AtomTable, AgreesWith}
use Rattle.linear_facts.specs.Differences.{Product, total_of, have_ranges, AreForms, difference_of, is_positive, is_at_least_of}
use Rattle.linear_facts.specs.Laws.{AreBelow}
use Rattle.linear_facts.specs.FormLemmas.{value-atom_form, value-substituted}
use Rattle.linear_facts.specs.DifferenceLemmas.{difference-holds}
use Rattle.linear_facts.specs.LocalityLemmas.{agree-below}
use Rattle.region_mem.specs.declared.parameter.Param.{Param}
use Rattle.cert_note.specs.declared.values.EqualityTerm.{EqualityTerm}
use Rattle.cert_note.specs.declared.values.VectorFact.{VectorFact}
use Rattle.cert_note.specs.Certificate.{is_atom, AllFrom, after_term, IsTerm}
use Rattle.abs_domain.specs.Numbers.{NumbersView, value_at}
use Rattle.abs_domain.specs.Described.{LiesIn, IsNumber}
use Rattle.abs_domain.specs.Starts.{form_term}
use Rattle.abs_state.specs.Edges.{is_same, covers, says, Total, least_of, most_of, products_of, is_paid}
use Rattle.abs_state.specs.SubstitutionLemmas.{same_forms}

-- ---- equalities

pub form_there : (s : NumbersView) (a : ℕ) → a < length s.forms → form_at s.forms a ≡ (value_at s a).form
unfolding form_at value_at
form_there s a l = get_or_default s.forms a (atom_form a) (number_form 0) l

pub form_past : (s : NumbersView) (a : ℕ) → length s.forms ≤ a → form_at s.forms a ≡ atom_form a
unfolding form_at
form_past s a l = get_or-eq_default s.forms (atom_form a) l

-- the numbers of registers and vl below 33, and from there on those that were passed
abbrev pub numbered : (ℕ → ℕ) → (ℕ → ℕ) → ℕ → ℕ
numbered number passed a = if nat_le a 32 then number a else passed (a - 33)

-- an equality that is shown holds of the numbers
pub equality_holds : (s : NumbersView) (v number passed : ℕ → ℕ) (r : ℕ) (f : Linear) → length s.forms ≡ 33
    → ((i : ℕ) → i < 33 → IsNumber (length s.atoms) v (value_at s i) (number i)) → ((a : ℕ) → v a < 2 ^ 32)
    → ((place : ℕ) → place < 8 → v (33 + place) ≡ passed place) → AreBelow 41 f.terms → r < 33
    → is_same (substituted s.forms f) (value_at s r).form ≡ true → number r ≡ value (numbered number passed) f
equality_holds s v number passed r f count each small given below l e =
    (each r l).means.number
    ∙ (ap (λ (g : Linear). value v g) (sym (same_forms (substituted s.forms f) (value_at s r).form e))
    ∙ (value-substituted v s.forms f
    ∙ agree-below 41 (λ a. value v (form_at s.forms a)) (numbered number passed) f (λ a k. by_atom a k (nat_le a 32) refl) below))
  where
    fits : (n : ℕ) → n < 2 ^ 32 → n % 2 ^ 32 ≡ n
    fits n k = omega arith

    by_atom : (a : ℕ) → a < 41 → (t : Bool) → nat_le a 32 ≡ t
        → value v (form_at s.forms a) ≡ (if t then number a else passed (a - 33))
    by_atom a k true h =
        let le : a ≤ 32 = grind (arith, nat_tests) in
        ap (λ (g : Linear). value v g) (form_there s a (omega (arith, count, le))) ∙ sym (each a (omega (arith, le))).means.number
    by_atom a k false h =
        let gt : 32 < a = grind (arith, nat_tests) in
        let is : 33 + (a - 33) ≡ a = omega (arith, gt) in
        ap (λ (g : Linear). value v g) (form_past s a (omega (arith, count, gt)))
        ∙ (value-atom_form v a ∙ (fits (v a) (small a) ∙ (ap v (sym is) ∙ given (a - 33) (omega (arith, k, gt)))))

-- the atoms of an equality are registers, vl and the numbers passed
atom_below : (params : List Param) (from a : ℕ) → IsTrue (nat_le from a && is_atom params a) → a < 41
unfolding is_atom
atom_below params from a h = grind (arith, nat_tests)

pub parts_below : (params : List Param) (from : ℕ) (ts : List EqualityTerm) → AllFrom (IsTerm params) after_term from ts
    → AreBelow 41 (map form_term ts)
parts_below params from [] h = tt
parts_below params from (t ∷ ts) h = (atom_below params from t.atom h.0.atom, parts_below params (after_term t) ts h.1)

-- ---- facts on vector registers

-- as many elements as a count says, where 0 stands for vl
abbrev pub counted : ℕ → ℕ → ℕ
counted vl count = if count == 0 then vl else count

-- a fact that covers another one speaks of at least as many elements
pub covered : (r : Range) (vl known wanted : ℕ) → LiesIn r vl → covers r known wanted ≡ true → counted vl wanted ≤ counted vl known
unfolding covers
covered r vl known wanted lies e = by_known (known == 0) refl e
  where
    by_wanted : (t : Bool) → (wanted == 0) ≡ t → (t || nat_le wanted r.lo) ≡ true → (if t then vl else wanted) ≤ vl
    by_wanted true h f = omega arith
    by_wanted false h f = (let l : wanted ≤ r.lo = grind (arith, nat_tests) in omega (arith, l, lies.low))

    by_count : (t : Bool) → (if t then nat_le r.hi known else nat_le wanted known) ≡ true → (if t then vl else wanted) ≤ known
    by_count true f = (let l : r.hi ≤ known = grind (arith, nat_tests) in omega (arith, l, lies.high))
    by_count false f = grind (arith, nat_tests)

    by_known : (t : Bool) → (known == 0) ≡ t
        → (if t then (wanted == 0) || nat_le wanted r.lo else (if wanted == 0 then nat_le r.hi known else nat_le wanted known)) ≡ true
        → counted vl wanted ≤ (if t then vl else known)
    by_known true h f = by_wanted (wanted == 0) refl f
    by_known false h f = by_count (wanted == 0) f

-- what a fact says that says what another one does
pub record SaysMore (r : Range) (wanted known : VectorFact) : Type 0 where
  pub register : known.register ≡ wanted.register
  pub width : known.width ≡ wanted.width
  pub registers : known.registers ≡ wanted.registers
  pub low : wanted.low ≤ known.low
  pub high : known.high ≤ wanted.high
  pub covers : covers r known.count wanted.count ≡ true

pub says_more : (r : Range) (wanted known : VectorFact) → says r wanted known ≡ true → SaysMore r wanted known
unfolding says
says_more r wanted known e =
    let a = and_parts _ _ e in
    let b = and_parts _ _ a.0 in
    let c = and_parts _ _ b.0 in
    let d = and_parts _ _ c.0 in
    let f = and_parts _ _ d.0 in
    record {
      register = eqb-true known.register wanted.register f.0;
      width = eqb-true known.width wanted.width f.1;
      registers = eqb-true known.registers wanted.registers d.1;
      low = leb-true wanted.low known.low c.1;
      high = leb-true known.high wanted.high b.1;
      covers = a.1;
    }

-- ---- budgets

at_least_holds : (table : AtomTable) (v : ℕ → ℕ) (c d : ℕ) (ms ls : List Product) → AgreesWith table v → AreForms ms → AreForms ls
    → is_at_least_of table c ms d ls ≡ true → d + total_of v ls ≤ c + total_of v ms
unfolding is_at_least_of
at_least_holds table v c d ms ls agrees f g e =
    let p = and_parts (have_ranges table ms && have_ranges table ls) (is_positive table (difference_of table c ms d ls)) e in
    let q = and_parts (have_ranges table ms) (have_ranges table ls) p.0 in
    difference-holds table v agrees c d ms ls f g q.0 q.1 p.1

-- what is shown to be paid is paid
pub paid_holds : (table : AtomTable) (n : ℕ) (v : ℕ → ℕ) (own next : Total) (x y z w : ℕ) → AgreesWith table v → IsNumber n v own.number x
    → IsNumber n v own.second_number y → IsNumber n v next.number z → IsNumber n v next.second_number w → is_paid table own next ≡ true
    → next.constant + next.factor * z + next.second_factor * w ≤ own.constant + own.factor * x + own.second_factor * y
unfolding is_paid
paid_holds table n v own next x y z w agrees p q r s e = by_test (nat_le (most_of next) (least_of own)) refl e
  where
    by_test : (t : Bool) → nat_le (most_of next) (least_of own) ≡ t
        → (t || is_at_least_of table own.constant (products_of own) next.constant (products_of next)) ≡ true
        → next.constant + next.factor * z + next.second_factor * w ≤ own.constant + own.factor * x + own.second_factor * y
    by_test true f o =
        omega (
          arith,
          leb-true (most_of next) (least_of own) f,
          mul-le-mul_left own.factor p.lies.low,
          mul-le-mul_left own.second_factor q.lies.low,
          mul-le-mul_left next.factor r.lies.high,
          mul-le-mul_left next.second_factor s.lies.high,
        )
    by_test false f o =
        omega (
          arith,
          at_least_holds table v own.constant next.constant (products_of own) (products_of next) agrees
              (p.means.form, (q.means.form, tt)) (r.means.form, (s.means.form, tt)) o,
          ap (λ i. own.factor * i) p.means.number,
          ap (λ i. own.second_factor * i) q.means.number,
          ap (λ i. next.factor * i) r.means.number,
          ap (λ i. next.second_factor * i) s.means.number,
        )
