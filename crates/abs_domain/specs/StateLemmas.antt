-- A described number may be put into its register.
use Rattle.std.proofs.Common.{◌≡◌, ◌≢◌, ◌<◌, ◌≤◌, ◌+◌, ◌*◌, ◌%◌, ◌^◌, ℕ, zero, suc, Bool, true, false, arith, refl, sym, ap, ◌∙◌, subst, inl, inr, length, length-append, List, [], ◌∷◌, ◌++◌, get_or, get_or-set_same, get_or-set_other, Option, Some, None, IfSome}
use Rattle.std.specs.Prelude.{if◌then◌else◌, ◌==◌, nat_le, min, max, slice_set}
use Rattle.std.proofs.lemmas.Bool.{cases_eq}
use Rattle.std.proofs.lemmas.Bool.Decides.{nat_tests}
use Rattle.std.proofs.Math.ListN.{length-set}
use Rattle.linear_facts.specs.declared.forms.Term.{Term}
use Rattle.linear_facts.specs.declared.ranges.Range.{Range}
use Rattle.linear_facts.specs.declared.ranges.Atom.{Atom}
use Rattle.linear_facts.specs.declared.ranges.Split.{Split}
use Rattle.linear_facts.specs.Forms.{Linear, value, IsForm, atom_form, within, number_form}
use Rattle.linear_facts.specs.Ranges.{AtomTable, AgreesWith, IsIn, atom_at, range_at, split_at, meet_of}
use Rattle.linear_facts.specs.Sums.{range_of_form}
use Rattle.linear_facts.specs.FormLemmas.{value-atom_form, atom-IsForm, within-is, within-room}
use Rattle.linear_facts.specs.RangeLemmas.{range_of_form-holds}
use Rattle.linear_facts.specs.LocalityLemmas.{forms-stay, agree-below, ranges-fit}
use Rattle.vreg_groups.specs.declared.vector_length.Vconfig.{Vconfig}
use Rattle.scalar_core.specs.Hart.{Hart, IsHart, reg_of, with_reg}
use Rattle.abs_domain.specs.declared.values.Effect.{Effect}
use Rattle.abs_domain.specs.declared.values.Effect.TheVariants.{Computed, Fresh, Copied}
use Rattle.abs_domain.specs.Values.{ValueView, just, or_full, or_own, computed_range}
use Rattle.abs_domain.specs.Numbers.{NumbersView, atom_of_terms, plain, table_of, table_with, value_at, with_atom, with_computed, with_effect, with_fresh, with_result, with_short, with_value}
use Rattle.abs_domain.specs.Described.{LiesIn, Means, IsNumber, Describes}
use Rattle.abs_domain.specs.Holds.{number_of, AreSplitsBelow, Holds, Follows, ResultsHold}
use Rattle.abs_domain.specs.OperationLemmas.{full_lies}

-- ---- a new atom

-- the numbering with one atom more
pub with_number : (ℕ → ℕ) → ℕ → ℕ → ℕ → ℕ
with_number v n x a = if a == n then x else v a

pub number_here : (v : ℕ → ℕ) (n x : ℕ) → with_number v n x n ≡ x
unfolding with_number
number_here v n x = grind (arith, nat_tests)

pub number_there : (v : ℕ → ℕ) (n x a : ℕ) → a ≢ n → with_number v n x a ≡ v a
unfolding with_number
number_there v n x a ne = grind (arith, nat_tests)

pub length_push : (xs : List Atom) (y : Atom) → length (xs ++ y ∷ []) ≡ length xs + 1
length_push xs y = length-append xs (y ∷ [])

push_at : (xs : List Atom) (y d : Atom) → get_or (xs ++ y ∷ []) (length xs) d ≡ y
push_at [] y d = refl
push_at (x ∷ xs) y d = push_at xs y d

push_other : (xs : List Atom) (y d : Atom) (a : ℕ) → a ≢ length xs → get_or (xs ++ y ∷ []) a d ≡ get_or xs a d
push_other [] y d zero ne = absurd (ne refl)
push_other [] y d (suc a) ne = refl
push_other (x ∷ xs) y d zero ne = refl
push_other (x ∷ xs) y d (suc a) ne = push_other xs y d a (λ e. ne (ap suc e))

module _ (atoms : List Atom) (k : Atom) where
  atom_new : atom_at (table_with (atoms ++ k ∷ [])) (length atoms) ≡ k
  unfolding atom_at
  atom_new = push_at atoms k _

  atom_old : (a : ℕ) → a ≢ length atoms → atom_at (table_with (atoms ++ k ∷ [])) a ≡ atom_at (table_with atoms) a
  unfolding atom_at
  atom_old a ne = push_other atoms k _ a ne

  range_new : range_at (table_with (atoms ++ k ∷ [])) (length atoms) ≡ k.range
  unfolding range_at
  range_new = ap (λ (b : Atom). b.range) atom_new

  pub range_old : (a : ℕ) → a ≢ length atoms → range_at (table_with (atoms ++ k ∷ [])) a ≡ range_at (table_with atoms) a
  unfolding range_at
  range_old a ne = ap (λ (b : Atom). b.range) (atom_old a ne)

  split_new : split_at (table_with (atoms ++ k ∷ [])) (length atoms) ≡ k.split
  unfolding split_at
  split_new = ap (λ (b : Atom). b.split) atom_new

  split_old : (a : ℕ) → a ≢ length atoms → split_at (table_with (atoms ++ k ∷ [])) a ≡ split_at (table_with atoms) a
  unfolding split_at
  split_old a ne = ap (λ (b : Atom). b.split) (atom_old a ne)

no_split : {A : Type 0} (s : Split) → None ≡ Some s → A
no_split s e = cc

-- the atoms with one more, which is x, agree with the numbers
pub atoms_grow : (atoms : List Atom) (v : ℕ → ℕ) (r : Range) (x : ℕ) → AgreesWith (table_with atoms) v → AreSplitsBelow atoms → LiesIn r x
    → AgreesWith (table_with (atoms ++ plain r ∷ [])) (with_number v (length atoms) x)
atoms_grow atoms v r x agrees splits lies =
    let n = length atoms in
    let small : x < 2 ^ 32 = omega (arith, lies.high, lies.fits) in
    record {
      fits = λ a. elim (cases_eq a n) [
        | inl e ↦ rw (e, number_here v n x) small
        | inr ne ↦ rw (number_there v n x a ne) (agrees.fits a)
      ];
      in_range = λ a. elim (cases_eq a n) [
        | inl e ↦ rw (e, number_here v n x, range_new atoms (plain r)) (lies.low, lies.high)
        | inr ne ↦ rw (number_there v n x a ne, range_old atoms (plain r) a ne) (agrees.in_range a)
      ];
      is_sum = λ a s e. elim (cases_eq a n) [
        | inl here ↦ no_split s (sym (split_new atoms (plain r)) ∙ (rw here at e))
        | inr ne ↦
            let old : split_at (table_with atoms) a ≡ Some s = sym (split_old atoms (plain r) a ne) ∙ e in
            let both = splits a s old in
            rw (number_there v n x a ne, number_there v n x s.first (omega (arith, both.0)), number_there v n x s.second (omega (arith, both.1)))
            (agrees.is_sum a s old)
      ];
    }

pub splits_grow : (atoms : List Atom) (r : Range) → AreSplitsBelow atoms → AreSplitsBelow (atoms ++ plain r ∷ [])
splits_grow atoms r splits a s e =
    elim (cases_eq a (length atoms)) [
      | inl here ↦ no_split s (sym (split_new atoms (plain r)) ∙ (rw here at e))
      | inr ne ↦
          let both = splits a s (sym (split_old atoms (plain r) a ne) ∙ e) in
          (omega (arith, both.0, length_push atoms (plain r)), omega (arith, both.1, length_push atoms (plain r)))
    ]

-- what is known of a number is right with one atom more
number_grows : (n m : ℕ) (v w : ℕ → ℕ) (a : ValueView) (x : ℕ) → m ≡ n + 1 → ((b : ℕ) → b < n → v b ≡ w b) → IsNumber n v a x → IsNumber m w a x
number_grows n m v w a x e same h =
    subst (λ (k : ℕ). IsNumber k w a x) (sym e)
    record {
      means = record {
        form = h.means.form;
        below = forms-stay n 1 a.form h.means.below;
        number = h.means.number ∙ agree-below n v w a.form same h.means.below;
      };
      lies = h.lies;
    }

-- the number of a new atom
pub atom_number : (n m : ℕ) (w : ℕ → ℕ) (r : Range) (x : ℕ) → m ≡ n + 1 → w n ≡ x → LiesIn r x
    → IsNumber m w record { form = atom_form n; range = r } x
atom_number n m w r x e is lies =
    let small : x < 2 ^ 32 = omega (arith, lies.high, lies.fits) in
    let whole : w n % 2 ^ 32 ≡ x = omega (arith, is, small) in
    record {
      means = record {
        form = atom-IsForm 8 n (omega arith);
        below = (omega (arith, e), tt);
        number = sym (value-atom_form w n ∙ whole);
      };
      lies = lies;
    }

pub atom_holds : (s : NumbersView) (v : ℕ → ℕ) (h : Hart) (config : Vconfig) (r : Range) (x : ℕ) → Holds s v h config → LiesIn r x
    → Holds (with_atom r s) (with_number v (length s.atoms) x) h config
unfolding value_at
atom_holds s v h config r x holds lies =
    let n = length s.atoms in
    record {
      atoms = atoms_grow s.atoms v r x holds.atoms holds.splits lies;
      splits = splits_grow s.atoms r holds.splits;
      forms = holds.forms;
      ranges = holds.ranges;
      each = λ i below.
          number_grows n (length (s.atoms ++ plain r ∷ [])) v (with_number v n x) (value_at s i) (number_of i h config)
          (length_push s.atoms (plain r)) (λ b l. sym (number_there v n x b (omega (arith, l)))) (holds.each i below);
    }

-- ---- a register gets a value

abbrev view_of : Linear → Range → ValueView
view_of f r = record { form = f; range = r }

view_is : (a : ValueView) (f : Linear) (r : Range) → f ≡ a.form → r ≡ a.range → view_of f r ≡ a
view_is a f r e g = ap (λ (k : Linear). view_of k r) e ∙ ap (λ (q : Range). view_of a.form q) g

pub this_value : (s : NumbersView) (rd : ℕ) (a : ValueView) → rd < length s.forms → rd < length s.ranges → value_at (with_value rd a s) rd ≡ a
unfolding value_at with_value
this_value s rd a l g =
    view_is a _ _ (get_or-set_same s.forms rd a.form (number_form 0) l) (get_or-set_same s.ranges rd a.range (just 0) g)

pub other_value : (s : NumbersView) (rd i : ℕ) (a : ValueView) → i ≢ rd → value_at (with_value rd a s) i ≡ value_at s i
unfolding value_at with_value
other_value s rd i a ne = rw (get_or-set_other, get_or-set_other) refl

-- x0 is not written, and vl is no register
module _ (h : Hart) (config : Vconfig) (rd x : ℕ) (is : IsHart h) (some : 0 < rd) (below : rd < 32) where
  written : with_reg rd x h ≡ record h { x = slice_set h.x rd x }
  unfolding with_reg
  written = by_test (rd == 0) refl
    where
      by_test : (t : Bool) → (rd == 0) ≡ t → (if t then h else record h { x = slice_set h.x rd x }) ≡ record h { x = slice_set h.x rd x }
      by_test true e = (let zero_is : rd ≡ 0 = grind (arith, nat_tests) in absurd (omega (arith, zero_is, some)))
      by_test false e = refl

  this_number : number_of rd (with_reg rd x h) config ≡ x
  this_number =
      register rd (with_reg rd x h) (omega arith) ∙ (ap (λ (g : Hart). reg_of rd g) written ∙ get_or-set_same h.x rd x 0 (omega (arith, is.registers, below)))
    where
      register : (i : ℕ) (g : Hart) → i ≢ 32 → number_of i g config ≡ reg_of i g
      register i g ne = grind (arith, nat_tests)

  other_number : (i : ℕ) → i ≢ rd → number_of i (with_reg rd x h) config ≡ number_of i h config
  other_number i ne =
      by_test (i == 32) (ap (λ (g : Hart). reg_of i g) written ∙ get_or-set_other h.x rd i x 0 ne)
    where
      by_test : (t : Bool) → reg_of i (with_reg rd x h) ≡ reg_of i h
          → (if t then config.vl else reg_of i (with_reg rd x h)) ≡ (if t then config.vl else reg_of i h)
      by_test true e = refl
      by_test false e = e

-- a register other than x0 gets a value that is right
value_holds : (s : NumbersView) (v : ℕ → ℕ) (h : Hart) (config : Vconfig) (rd x : ℕ) (a : ValueView) → IsHart h → 0 < rd → rd < 32
    → Holds s v h config → IsNumber (length s.atoms) v a x → Holds (with_value rd a s) v (with_reg rd x h) config
unfolding with_value
value_holds s v h config rd x a is p l holds number =
    record {
      atoms = holds.atoms;
      splits = holds.splits;
      forms = length-set s.forms rd a.form ∙ holds.forms;
      ranges = length-set s.ranges rd a.range ∙ holds.ranges;
      each = λ i below. elim (cases_eq i rd) [
        | inl e ↦
            rw (e, this_value s rd a (omega (arith, holds.forms, l)) (omega (arith, holds.ranges, l)), this_number h config rd x is p l) number
        | inr ne ↦ rw (other_value s rd i a ne, other_number h config rd x is p l i ne) (holds.each i below)
      ];
    }

-- a register other than x0 gets a new atom
fresh_holds : (s : NumbersView) (v : ℕ → ℕ) (h : Hart) (config : Vconfig) (rd x : ℕ) (r : Range) → IsHart h → 0 < rd → rd < 32
    → Holds s v h config → LiesIn r x → Follows s (with_fresh rd r s) v (with_reg rd x h) config
unfolding with_fresh with_value
fresh_holds s v h config rd x r is p l holds lies =
    let n = length s.atoms in
    let w = with_number v n x in
    record {
      numbers = w;
      same = λ a below. number_there v n x a (omega (arith, below));
      grows = omega (arith, length_push s.atoms (plain r));
      holds =
          value_holds (with_atom r s) w h config rd x (record { form = atom_form n; range = r }) is p l (atom_holds s v h config r x holds lies)
          (atom_number n (length (s.atoms ++ plain r ∷ [])) w r x (length_push s.atoms (plain r)) (number_here v n x) lies);
    }

-- a register other than x0 gets what is known already
known_holds : (s : NumbersView) (v : ℕ → ℕ) (h : Hart) (config : Vconfig) (rd x : ℕ) (a : ValueView) → IsHart h → 0 < rd → rd < 32
    → Holds s v h config → IsNumber (length s.atoms) v a x → Follows s (with_value rd a s) v (with_reg rd x h) config
unfolding with_value
known_holds s v h config rd x a is p l holds number =
    record {
      numbers = v;
      same = λ b below. refl;
      grows = omega arith;
      holds = value_holds s v h config rd x a is p l holds number;
    }

-- ---- a computed number

-- a number that lies in two ranges lies in what they have in common
own_lies : (a b : Range) (x : ℕ) → LiesIn a x → LiesIn b x → LiesIn (or_own a (meet_of a b)) x
own_lies a b x h k = by_test (nat_le (max a.lo b.lo) (min a.hi b.hi))
  where
    by_test : (t : Bool) → LiesIn (or_own a (if t then Some record { lo = max a.lo b.lo; hi = min a.hi b.hi } else None)) x
    by_test true = record {
      low = omega (arith, h.low, k.low);
      high = omega (arith, h.high, k.high);
      fits = omega (arith, h.fits);
    }
    by_test false = h

pub computed_lies : (x : ℕ) (interval form_range : Option Range) → x < 2 ^ 32 → IfSome interval (λ r. LiesIn r x) → IfSome form_range (λ r. LiesIn r x)
    → LiesIn (computed_range interval form_range) x
unfolding computed_range
computed_lies x None None l h k = full_lies x l
computed_lies x None (Some r) l h k = k
computed_lies x (Some r) None l h k = h
computed_lies x (Some r) (Some q) l h k = own_lies r q x h k

or_full_lies : (x : ℕ) (interval : Option Range) → x < 2 ^ 32 → IfSome interval (λ r. LiesIn r x) → LiesIn (or_full interval) x
or_full_lies x None l h = full_lies x l
or_full_lies x (Some r) l h = h

pub form_range_lies : (table : AtomTable) (f : Linear) (v : ℕ → ℕ) (x : ℕ) → AgreesWith table v → IsForm 8 f → x ≡ value v f
    → IfSome (range_of_form table f) (λ r. LiesIn r x)
form_range_lies table f v x agrees is e =
    by_range (range_of_form table f) (λ r. ranges-fit table f r)
    (subst (λ (y : ℕ). IfSome (range_of_form table f) (λ r. IsIn r y)) (sym e) (range_of_form-holds table f v agrees is.rises is.has_room))
  where
    by_range : (o : Option Range) → ((r : Range) → o ≡ Some r → r.hi < 2 ^ 32) → IfSome o (λ r. IsIn r x) → IfSome o (λ r. LiesIn r x)
    by_range None fits h = tt
    by_range (Some r) fits h = record { low = h.0; high = h.1; fits = fits r refl }

pub value_fits : (v : ℕ → ℕ) (f : Linear) (x : ℕ) → x ≡ value v f → x < 2 ^ 32
unfolding value
value_fits v f x e = omega arith

shorter : (n : ℕ) (v : ℕ → ℕ) (f : Linear) (x : ℕ) → length f.terms ≤ 8 → Means 16 n v f x → Means 8 n v f x
shorter n v f x l h =
    record {
      form = record { constant_fits = h.form.constant_fits; rises = h.form.rises; has_room = l };
      below = h.below;
      number = h.number;
    }

-- a form with few terms is kept, and one with more becomes a new atom
module _ (s : NumbersView) (v : ℕ → ℕ) (h : Hart) (config : Vconfig) (rd x : ℕ) (f : Linear) (interval : Option Range) (is : IsHart h)
    (some : 0 < rd) (below : rd < 32) (holds : Holds s v h config) (means : Means 16 (length s.atoms) v f x)
    (lies : IfSome interval (λ r. LiesIn r x)) where
  no_room : Follows s (with_short rd None interval s) v (with_reg rd x h) config
  unfolding with_short
  no_room =
      fresh_holds s v h config rd x (or_full interval) is some below holds
      (or_full_lies x interval (value_fits v f x means.number) lies)

  room : (g : Linear) → g ≡ f → length f.terms ≤ 8 → Follows s (with_short rd (Some g) interval s) v (with_reg rd x h) config
  unfolding with_short
  room g e few =
      let short : Means 8 (length s.atoms) v g x =
      subst (λ (k : Linear). Means 8 (length s.atoms) v k x) (sym e) (shorter (length s.atoms) v f x few means) in
      known_holds s v h config rd x (record { form = g; range = computed_range interval (range_of_form (table_of s) g) }) is some below holds
      record {
        means = short;
        lies =
            computed_lies x interval (range_of_form (table_of s) g) (value_fits v f x means.number) lies
            (form_range_lies (table_of s) g v x holds.atoms short.form short.number);
      }

  by_room : (o : Option Linear) → within 8 f ≡ o → Follows s (with_short rd o interval s) v (with_reg rd x h) config
  by_room None e = no_room
  by_room (Some g) e = room g (within-is 8 f g e) (within-room 8 f g e)

  computed_holds : Follows s (with_computed rd f interval s) v (with_reg rd x h) config
  unfolding with_computed
  computed_holds = by_room (within 8 f) refl

-- a register other than x0 gets what an instruction computes
effect_holds : (s : NumbersView) (v : ℕ → ℕ) (h : Hart) (config : Vconfig) (rd x : ℕ) (e : Effect) → IsHart h → 0 < rd → rd < 32
    → Holds s v h config → Describes (length s.atoms) v e x → Follows s (with_effect rd e s) v (with_reg rd x h) config
unfolding with_effect
effect_holds s v h config rd x (Computed f interval) is p l holds d = computed_holds s v h config rd x f interval is p l holds d.0 d.1
effect_holds s v h config rd x (Fresh r) is p l holds d = fresh_holds s v h config rd x r is p l holds d
effect_holds s v h config rd x (Copied f r) is p l holds d =
    known_holds s v h config rd x (record { form = f; range = r }) is p l holds (record { means = d.0; lies = d.1 })

x0_stays : (rd x : ℕ) (h : Hart) → rd ≡ 0 → with_reg rd x h ≡ h
unfolding with_reg
x0_stays rd x h e = grind (arith, nat_tests)

-- a register gets what an instruction computes; x0 stays
pub result_holds : ResultsHold
unfolding with_result
result_holds s v h config rd x e is l holds d = by_test (rd == 0) refl
  where
    by_test : (t : Bool) → (rd == 0) ≡ t → Follows s (if t then s else with_effect rd e s) v (with_reg rd x h) config
    by_test true k =
        let zero_is : rd ≡ 0 = grind (arith, nat_tests) in
        subst (λ (g : Hart). Follows s s v g config) (sym (x0_stays rd x h zero_is))
        record { numbers = v; same = λ a below. refl; grows = omega arith; holds = holds }
    by_test false k =
        let some : 0 < rd = grind (arith, nat_tests) in
        effect_holds s v h config rd x e is some l holds d

-- a form that is one whole atom is that atom's number
pub whole_is : (v : ℕ → ℕ) (c : ℕ) (ts : List Term) (a : ℕ) → ((b : ℕ) → v b < 2 ^ 32)
    → (if c == 0 then atom_of_terms ts else None) ≡ Some a → value v record { constant = c; terms = ts } ≡ v a
unfolding value
whole_is v c [] a fits e = by_test (c == 0) e
  where
    by_test : {P : Type 0} (t : Bool) → (if t then None else None) ≡ Some a → P
    by_test true f = cc
    by_test false f = cc
whole_is v c (t ∷ []) a fits e = by_test (c == 0) refl (t.coefficient == 1) refl e
  where
    by_test : (p : Bool) → (c == 0) ≡ p → (q : Bool) → (t.coefficient == 1) ≡ q
        → (if p then (if q then Some t.atom else None) else None) ≡ Some a → (c + (t.coefficient * v t.atom + 0)) % 2 ^ 32 ≡ v a
    by_test true g true h f =
        let none : c ≡ 0 = grind (arith, nat_tests) in
        let one : t.coefficient ≡ 1 = grind (arith, nat_tests) in
        let is : t.atom ≡ a = cc in
        omega (arith, none, ap (λ (k : ℕ). k * v t.atom) one, fits t.atom, ap v is)
    by_test true g false h f = cc
    by_test false g q h f = cc
whole_is v c (t ∷ u ∷ ts) a fits e = by_test (c == 0) e
  where
    by_test : {P : Type 0} (t : Bool) → (if t then None else None) ≡ Some a → P
    by_test true f = cc
    by_test false f = cc
