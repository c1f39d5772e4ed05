-- What is known where a block or a run begins is true of the hart there.
use Rattle.std.proofs.Common.{◌≡◌, ℕ, ◌<◌, ◌≤◌, ◌+◌, ◌%◌, ◌^◌, Bool, true, false, arith, refl, sym, ap, ◌∙◌, subst, length, length-append, map, List, [], ◌∷◌, Option, Some, None, IfSome}
use Rattle.std.specs.Prelude.{nat_le, ◌-◌, ◌==◌, if◌then◌else◌, unwrap_or}
use Rattle.std.specs.List.{AllByRecursion, slice_get, range_with_len}
use Rattle.std.specs.Option.{option_and_then}
use Rattle.std.proofs.lemmas.Bool.Decides.{nat_tests}
use Rattle.std.proofs.Math.ListN.{get_or-append, get_or-eq_default}
use Rattle.std.proofs.Math.Seq.{get_or-append_right}
use Rattle.std.proofs.lemmas.List.FromFn.{get_or-map-range_with_len, length-map-range_with_len}
use Rattle.linear_facts.specs.declared.ranges.Range.{Range}
use Rattle.linear_facts.specs.declared.ranges.Atom.{Atom}
use Rattle.linear_facts.specs.declared.ranges.Split.{Split}
use Rattle.linear_facts.specs.Forms.{Linear, value, atom_form, number_form}
use Rattle.linear_facts.specs.Ranges.{AgreesWith, IsIn, atom_at, range_at, split_at, unknown_atom}
use Rattle.linear_facts.specs.Sums.{range_of_form}
use Rattle.linear_facts.specs.FormLemmas.{value-atom_form, atom-IsForm}
use Rattle.region_mem.specs.declared.parameter.Param.TheVariants as parameter
use Rattle.region_mem.specs.Parameter.{address_of}
use Rattle.vreg_groups.specs.declared.vector_length.Vconfig.{Vconfig}
use Rattle.scalar_core.specs.declared.entry.EntryValue.{EntryValue}
use Rattle.scalar_core.specs.declared.entry.EntryValue.TheVariants.{Number, Passed}
use Rattle.scalar_core.specs.Entry.{entry_number, entry_value, number_with}
use Rattle.scalar_core.specs.Hart.{Hart, IsHart, reg_of}
use Rattle.scalar_core.specs.EntryLemmas.{entry_place}
use Rattle.region_mem.specs.declared.parameter.Param.{Param}
use Rattle.cert_note.specs.declared.values.Equality.{Equality}
use Rattle.cert_note.specs.declared.values.RegisterFact.{RegisterFact}
use Rattle.cert_note.specs.Certificate.{IsRegisterFact, SaysMore, AllFrom, after_fact}
use Rattle.abs_domain.specs.Values.{full_range, just, computed_range}
use Rattle.abs_domain.specs.Numbers.{plain, table_with, value_at}
use Rattle.abs_domain.specs.Described.{LiesIn, Means, IsNumber}
use Rattle.abs_domain.specs.Holds.{Holds, number_of, AreSplitsBelow}
use Rattle.abs_domain.specs.Starts.{fact_for, interval_of, stated_range, equality_form, form_or_atom, stated_form, passed_range, start_atoms, numbers_by, passed_value, value_for, start_value, form_with, entry_form, entry_numbers}
use Rattle.abs_domain.specs.BlockLaws.{IsPassed, ArePassed, number_in, FactIsTrue, IsEntry, EntryNumbersHold}
use Rattle.abs_domain.specs.StateLemmas.{computed_lies, form_range_lies, value_fits}
use Rattle.abs_domain.specs.StartFormLemmas.{found_has, found_passes, equality_is, equality_below}

-- ---- numbers by their forms and intervals

module _ (atoms : List Atom) (form : ℕ → Linear) (interval : ℕ → Option Range) where
  pub form_by : (i : ℕ) → i < 33 → (value_at (numbers_by atoms form interval) i).form ≡ form i
  unfolding value_at numbers_by
  form_by i l = get_or-map-range_with_len form 0 33 i i (number_form 0) l (omega arith)

  pub range_by : (i : ℕ) → i < 33
      → (value_at (numbers_by atoms form interval) i).range ≡ computed_range (interval i) (range_of_form (table_with atoms) (form i))
  unfolding value_at numbers_by
  range_by i l =
      get_or-map-range_with_len (λ (j : ℕ). computed_range (interval j) (range_of_form (table_with atoms) (form j))) 0 33 i i (just 0) l (omega arith)

  number_by : (v : ℕ → ℕ) (i x : ℕ) → i < 33 → AgreesWith (table_with atoms) v → Means 8 (length atoms) v (form i) x
      → IfSome (interval i) (λ r. LiesIn r x) → IsNumber (length atoms) v (value_at (numbers_by atoms form interval) i) x
  number_by v i x l agrees means lies =
      record {
        means = subst (λ (f : Linear). Means 8 (length atoms) v f x) (sym (form_by i l)) means;
        lies =
            subst (λ (r : Range). LiesIn r x) (sym (range_by i l))
            (computed_lies x (interval i) (range_of_form (table_with atoms) (form i)) (value_fits v (form i) x means.number) lies
            (form_range_lies (table_with atoms) (form i) v x agrees means.form means.number));
      }

  -- where each form is the number, and each interval holds it, all that is known is true
  pub by_holds : (v : ℕ → ℕ) (h : Hart) (config : Vconfig) → AgreesWith (table_with atoms) v → AreSplitsBelow atoms
      → ((i : ℕ) → i < 33 → Means 8 (length atoms) v (form i) (number_of i h config))
      → ((i : ℕ) → i < 33 → IfSome (interval i) (λ r. LiesIn r (number_of i h config)))
      → Holds (numbers_by atoms form interval) v h config
  unfolding numbers_by
  by_holds v h config agrees splits means lies =
      record {
        atoms = agrees;
        splits = splits;
        forms = length-map-range_with_len form 0 33;
        ranges = length-map-range_with_len (λ (j : ℕ). computed_range (interval j) (range_of_form (table_with atoms) (form j))) 0 33;
        each = λ i l. number_by v i (number_of i h config) l agrees (means i l) (lies i l);
      }

-- ---- the atoms of a start

module _ (params : List Param) (facts : List RegisterFact) where
  abbrev registers : List Atom
  registers = map (λ i. plain (stated_range facts i)) (range_with_len 0 33)

  abbrev numbers_passed : List Atom
  numbers_passed = map (λ place. plain (passed_range (slice_get params place))) (range_with_len 0 8)

  pub registers_many : length registers ≡ 33
  registers_many = length-map-range_with_len (λ i. plain (stated_range facts i)) 0 33

  passed_many : length numbers_passed ≡ 8
  passed_many = length-map-range_with_len (λ place. plain (passed_range (slice_get params place))) 0 8

  pub atoms_many : length (start_atoms params facts) ≡ 41
  unfolding start_atoms
  atoms_many = omega (arith, length-append registers numbers_passed, registers_many, passed_many)

  pub atom_of_register : (a : ℕ) → a < 33 → atom_at (table_with (start_atoms params facts)) a ≡ plain (stated_range facts a)
  unfolding start_atoms atom_at
  atom_of_register a l =
      get_or-append registers numbers_passed unknown_atom a (omega (arith, registers_many, l))
      ∙ get_or-map-range_with_len (λ i. plain (stated_range facts i)) 0 33 a a unknown_atom l (omega arith)

  pub atom_of_passed : (a : ℕ) → 33 ≤ a → a < 41 → atom_at (table_with (start_atoms params facts)) a ≡ plain (passed_range (slice_get params (a - 33)))
  unfolding start_atoms atom_at
  atom_of_passed a l g =
      get_or-append_right registers numbers_passed a unknown_atom (omega (arith, registers_many, l))
      ∙ get_or-map-range_with_len (λ place. plain (passed_range (slice_get params place))) 0 8 (a - length registers) (a - 33) unknown_atom
      (omega (arith, registers_many, l, g)) (omega (arith, registers_many))

  atom_past : (a : ℕ) → 41 ≤ a → atom_at (table_with (start_atoms params facts)) a ≡ unknown_atom
  unfolding atom_at
  atom_past a l = get_or-eq_default (start_atoms params facts) unknown_atom (omega (arith, atoms_many, l))

  -- what is known of an atom, by what it stands for
  by_atom : (P : Atom → Type 0) (a : ℕ) → (a < 33 → P (plain (stated_range facts a)))
      → (33 ≤ a → a < 41 → P (plain (passed_range (slice_get params (a - 33))))) → P unknown_atom
      → P (atom_at (table_with (start_atoms params facts)) a)
  by_atom P a of_register of_passed past = low (nat_le 33 a) refl
    where
      high : (t : Bool) → 33 ≤ a → nat_le 41 a ≡ t → P (atom_at (table_with (start_atoms params facts)) a)
      high true l e =
          let k : 41 ≤ a = grind (arith, nat_tests) in
          subst P (sym (atom_past a k)) past
      high false l e =
          let k : a < 41 = grind (arith, nat_tests) in
          subst P (sym (atom_of_passed a l k)) (of_passed l k)

      low : (t : Bool) → nat_le 33 a ≡ t → P (atom_at (table_with (start_atoms params facts)) a)
      low true e =
          let k : 33 ≤ a = grind (arith, nat_tests) in
          high (nat_le 41 a) k refl
      low false e =
          let k : a < 33 = grind (arith, nat_tests) in
          subst P (sym (atom_of_register a k)) (of_register k)

  pub no_atom_split : (a : ℕ) → split_at (table_with (start_atoms params facts)) a ≡ None
  unfolding split_at
  no_atom_split a = by_atom (λ (k : Atom). k.split ≡ None) a (λ l. refl) (λ l g. refl) refl

  no_split : {A : Type 0} (a : ℕ) (s : Split) → split_at (table_with (start_atoms params facts)) a ≡ Some s → A
  no_split a s e = absurd (other (sym (no_atom_split a) ∙ e))
    where
      other : None ≡ Some s → ⊥
      other e = cc

  pub starts_split : AreSplitsBelow (start_atoms params facts)
  starts_split a s e = no_split a s e

  -- the atoms are as the facts and the parameters say
  pub starts_agree : (v : ℕ → ℕ) → ((a : ℕ) → v a < 2 ^ 32) → ((a : ℕ) → a < 33 → IsIn (stated_range facts a) (v a))
      → ((place : ℕ) → place < 8 → IsIn (passed_range (slice_get params place)) (v (33 + place)))
      → AgreesWith (table_with (start_atoms params facts)) v
  unfolding range_at
  starts_agree v small stated passed =
      record {
        fits = small;
        in_range = λ a.
            by_atom (λ (k : Atom). IsIn k.range (v a)) a (stated a)
            (λ l g. subst (λ (b : ℕ). IsIn (passed_range (slice_get params (a - 33))) (v b)) (omega (arith, l))
            (passed (a - 33) (omega (arith, l, g))))
            (omega arith, (let s = small a in omega (arith, s)));
        is_sum = λ a s e. no_split a s e;
      }

-- ---- forms

zero_means : (n : ℕ) (v : ℕ → ℕ) → Means 8 n v (number_form 0) 0
unfolding value
zero_means n v = record {
  form = record { constant_fits = omega arith; rises = tt; has_room = omega arith };
  below = tt;
  number = refl;
}

pub constant_means : (n : ℕ) (v : ℕ → ℕ) (x : ℕ) → x < 2 ^ 32 → Means 8 n v (number_form x) x
unfolding value
constant_means n v x l = record {
  form = record { constant_fits = l; rises = tt; has_room = omega arith };
  below = tt;
  number = omega (arith, l);
}

pub atom_means : (n : ℕ) (v : ℕ → ℕ) (a x : ℕ) → a < n → n ≤ 41 → v a ≡ x → x < 2 ^ 32 → Means 8 n v (atom_form a) x
atom_means n v a x l few e small =
    let whole : v a % 2 ^ 32 ≡ x = omega (arith, e, small) in
    record {
      form = atom-IsForm 8 a (omega arith);
      below = (l, tt);
      number = sym (value-atom_form v a ∙ whole);
    }

-- ---- what a block states

-- a fact of a certificate that is true
pub record IsStated (v : ℕ → ℕ) (fact : RegisterFact) : Type 0 where
  pub low : fact.low ≤ v fact.number
  pub high : v fact.number ≤ fact.high
  pub fits : fact.high < 2 ^ 32
  pub equality : IfSome fact.equality (λ equality. Means 8 41 v (equality_form equality) (v fact.number))

module _ (params : List Param) (v : ℕ → ℕ) where
  means_by : (x low high : ℕ) (o : Option Equality) → SaysMore params low high o
      → IfSome o (λ equality. x ≡ value v (equality_form equality)) → IfSome o (λ equality. Means 8 41 v (equality_form equality) x)
  means_by x low high None says is = tt
  means_by x low high (Some equality) says is =
      record { form = equality_is params equality says; below = equality_below params equality says; number = is }

  pub are_stated : (from : ℕ) (facts : List RegisterFact) → AllFrom (IsRegisterFact params) after_fact from facts → AllByRecursion (FactIsTrue v) facts
      → AllByRecursion (IsStated v) facts
  are_stated from [] all true_of = tt
  are_stated from (fact ∷ facts) all true_of = (
    record {
      low = true_of.0.low;
      high = true_of.0.high;
      fits = all.0.high;
      equality = means_by (v fact.number) fact.low fact.high fact.equality all.0.says true_of.0.equality;
    },
    are_stated (fact.number + 1) facts all.1 true_of.1,
  )

module _ (v : ℕ → ℕ) (facts : List RegisterFact) (stated : AllByRecursion (IsStated v) facts) (small : (a : ℕ) → v a < 2 ^ 32) (x0 : v 0 ≡ 0) where
  -- the fact that is found is one on the number, and true
  found : (i : ℕ) (fact : RegisterFact) → fact_for facts i ≡ Some fact → (fact.number ≡ i) × IsStated v fact
  found i fact e =
      let test = found_passes (λ (f : RegisterFact). f.number == i) facts fact e in
      (grind (arith, nat_tests), found_has (IsStated v) (λ (f : RegisterFact). f.number == i) facts fact stated e)

  range_of : (i : ℕ) (o : Option RegisterFact) → fact_for facts i ≡ o → LiesIn (interval_of o) (v i)
  range_of i None e = (let s = small i in record { low = omega arith; high = omega (arith, s); fits = omega arith })
  range_of i (Some fact) e =
      let is = found i fact e in
      subst (λ (n : ℕ). LiesIn (record { lo = fact.low; hi = fact.high }) (v n)) is.0
      record { low = is.1.low; high = is.1.high; fits = is.1.fits }

  pub stated_lies : (i : ℕ) → LiesIn (stated_range facts i) (v i)
  unfolding stated_range
  stated_lies i = by_test (i == 0) refl
    where
      by_test : (t : Bool) → (i == 0) ≡ t → LiesIn (if t then just 0 else interval_of (fact_for facts i)) (v i)
      by_test true e =
          let none : i ≡ 0 = grind (arith, nat_tests) in
          let is : v i ≡ 0 = ap v none ∙ x0 in
          record { low = omega (arith, is); high = omega (arith, is); fits = omega arith }
      by_test false e = range_of i (fact_for facts i) refl

  form_of : (i : ℕ) → i < 33 → (o : Option RegisterFact) → fact_for facts i ≡ o
      → Means 8 41 v (form_or_atom i (option_and_then (λ (fact : RegisterFact). fact.equality) o)) (v i)
  form_of i l None e = atom_means 41 v i (v i) (omega (arith, l)) (omega arith) refl (small i)
  form_of i l (Some fact) e = (let is = found i fact e in by_equality fact.equality is.0 is.1.equality)
    where
      by_equality : (q : Option Equality) → fact.number ≡ i → IfSome q (λ equality. Means 8 41 v (equality_form equality) (v fact.number))
          → Means 8 41 v (form_or_atom i q) (v i)
      by_equality None here means = atom_means 41 v i (v i) (omega (arith, l)) (omega arith) refl (small i)
      by_equality (Some equality) here means = subst (λ (n : ℕ). Means 8 41 v (equality_form equality) (v n)) here means

  pub stated_means : (i : ℕ) → i < 33 → Means 8 41 v (stated_form facts i) (v i)
  unfolding stated_form
  stated_means i l = by_test (i == 0) refl
    where
      by_test : (t : Bool) → (i == 0) ≡ t
          → Means 8 41 v (if t then number_form 0 else form_or_atom i (option_and_then (λ (fact : RegisterFact). fact.equality) (fact_for facts i))) (v i)
      by_test true e =
          let none : i ≡ 0 = grind (arith, nat_tests) in
          let is : v i ≡ 0 = ap v none ∙ x0 in
          subst (λ (x : ℕ). Means 8 41 v (number_form 0) x) (sym is) (zero_means 41 v)
      by_test false e = form_of i l (fact_for facts i) refl

-- ---- the numbers of a hart, and those that were passed

module _ (passed : ℕ → ℕ) (h : Hart) (config : Vconfig) where
  pub number_below : (i : ℕ) → i < 33 → number_in passed h config i ≡ number_of i h config
  number_below i l = by_test (nat_le i 32) refl
    where
      by_test : (t : Bool) → nat_le i 32 ≡ t → (if t then number_of i h config else passed (i - 33)) ≡ number_of i h config
      by_test true e = refl
      by_test false e = absurd (grind (arith, nat_tests))

  pub number_past : (place : ℕ) → number_in passed h config (33 + place) ≡ passed place
  number_past place = by_test (nat_le (33 + place) 32) refl
    where
      by_test : (t : Bool) → nat_le (33 + place) 32 ≡ t → (if t then number_of (33 + place) h config else passed (33 + place - 33)) ≡ passed place
      by_test true e = absurd (grind (arith, nat_tests))
      by_test false e = ap passed (omega arith)

  pub number_small : IsHart h → config.vl < 2 ^ 32 → ((place : ℕ) → passed place < 2 ^ 32) → (a : ℕ) → number_in passed h config a < 2 ^ 32
  number_small hart vl fit a = by_test (nat_le a 32)
    where
      of_hart : (t : Bool) → (if t then config.vl else reg_of a h) < 2 ^ 32
      of_hart true = vl
      of_hart false = hart.fit a

      by_test : (t : Bool) → (if t then number_of a h config else passed (a - 33)) < 2 ^ 32
      by_test true = of_hart (a == 32)
      by_test false = fit (a - 33)

-- ---- what was passed

passed_in : (params : List Param) (place x : ℕ) (o : Option Param) → x < 2 ^ 32 → IsPassed params place o x → IsIn (passed_range o) x
unfolding passed_range
passed_in params place x None l is = (omega arith, omega (arith, l))
passed_in params place x (Some parameter.None) l is = (omega arith, omega (arith, l))
passed_in params place x (Some (parameter.Scalar lo hi)) l is = is
passed_in params place x (Some (parameter.Buffer mode size)) l is = (omega arith, omega (arith, l))

module _ (params : List Param) (passed : ℕ → ℕ) (h : Hart) (config : Vconfig) (are : ArePassed params passed) where
  pub all_passed_in : (place : ℕ) → place < 8 → IsIn (passed_range (slice_get params place)) (number_in passed h config (33 + place))
  all_passed_in place l =
      subst (λ (x : ℕ). IsIn (passed_range (slice_get params place)) x) (sym (number_past passed h config place))
      (passed_in params place (passed place) (slice_get params place) (are.fit place) (are.each place l))

  constant_is : (c x : ℕ) → x ≡ c → x < 2 ^ 32 → Means 8 41 (number_in passed h config) (number_form c) x
  constant_is c x e l =
      subst (λ (y : ℕ). Means 8 41 (number_in passed h config) (number_form y) x) e
      (constant_means 41 (number_in passed h config) x l)

  passed_means : (place : ℕ) → place < 8 → (o : Option Param) → IsPassed params place o (passed place)
      → Means 8 41 (number_in passed h config) (form_with (passed_value params place o)) (passed place)
  unfolding passed_value
  passed_means place l None is = constant_is 0 (passed place) is (are.fit place)
  passed_means place l (Some parameter.None) is = constant_is 0 (passed place) is (are.fit place)
  passed_means place l (Some (parameter.Scalar lo hi)) is =
      atom_means 41 (number_in passed h config) (33 + place) (passed place) (omega (arith, l)) (omega arith) (number_past passed h config place) (are.fit place)
  passed_means place l (Some (parameter.Buffer mode size)) is = constant_is (unwrap_or (address_of place params) 0) (passed place) is (are.fit place)

-- all that is known at a block's start is true where its facts are

-- ---- where a run begins

module _ (params : List Param) (passed : ℕ → ℕ) (h : Hart) (config : Vconfig) (are : ArePassed params passed) (hart : IsHart h)
    (entry : IsEntry passed h) (none : config.vl ≡ 0) where
  abbrev v : ℕ → ℕ
  v = number_in passed h config

  -- what a register holds, or vl, which is 0
  entry_is : (i : ℕ) → i < 33 → number_of i h config ≡ entry_number passed i
  unfolding entry_value
  entry_is i l = by_test (i == 32) refl
    where
      by_test : (t : Bool) → (i == 32) ≡ t → (if t then config.vl else reg_of i h) ≡ entry_number passed i
      by_test true e =
          let at : i ≡ 32 = grind (arith, nat_tests) in
          rw at none
      by_test false e = entry i (grind (arith, nat_tests))

  small : (a : ℕ) → v a < 2 ^ 32
  small = number_small passed h config hart (omega (arith, none)) are.fit

  number_fits : (i : ℕ) → i < 33 → number_of i h config < 2 ^ 32
  number_fits i l = subst (λ (x : ℕ). x < 2 ^ 32) (number_below passed h config i l) (small i)

  -- no fact is stated: x0 is 0, and the others are of 32 bits
  full : (a : ℕ) → a < 33 → IsIn (stated_range [] a) (v a)
  unfolding stated_range
  full a l = by_test (a == 0) refl
    where
      by_test : (t : Bool) → (a == 0) ≡ t → IsIn (if t then just 0 else full_range) (v a)
      by_test true e =
          let at : a ≡ 0 = grind (arith, nat_tests) in
          let is : v a ≡ 0 = ap v at ∙ hart.x0 in
          (omega (arith, is), omega (arith, is))
      by_test false e = (let s = small a in (omega arith, omega (arith, s)))

  entry_means : (i : ℕ) → i < 33 → Means 8 41 v (entry_form params i) (number_of i h config)
  unfolding entry_form start_value
  entry_means i l = by_value (entry_value i) refl (entry_is i l)
    where
      by_value : (w : EntryValue) → entry_value i ≡ w → number_of i h config ≡ number_with passed w
          → Means 8 41 v (form_with (value_for params w)) (number_of i h config)
      by_value (Number number) e is = constant_is params passed h config are number (number_of i h config) is (number_fits i l)
      by_value (Passed place) e is =
          let low : place < 8 = entry_place i place e in
          subst (λ (x : ℕ). Means 8 41 v (form_with (passed_value params place (slice_get params place))) x) (sym is)
          (passed_means params passed h config are place low (slice_get params place) (are.each place low))

  entry_hold : Holds (entry_numbers params) v h config
  unfolding entry_numbers
  entry_hold =
      by_holds (start_atoms params []) (entry_form params) (λ i. None) v h config
      (starts_agree params [] v small full (all_passed_in params passed h config are))
      (starts_split params [])
      (λ i l. subst (λ (n : ℕ). Means 8 n v (entry_form params i) (number_of i h config)) (sym (atoms_many params [])) (entry_means i l))
      (λ i l. tt)

-- all that is known where a run begins is true
pub entry_numbers_hold : EntryNumbersHold
entry_numbers_hold params passed h config are hart entry none = entry_hold params passed h config are hart entry none
