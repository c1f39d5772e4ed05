-- What is known stays right where vl gets a new number, and where an atom is split into two others.
use Rattle.std.proofs.Common.{◌≡◌, ◌≢◌, ◌<◌, ◌+◌, ◌-◌, ℕ, Bool, true, false, arith, refl, sym, ap, ◌∙◌, subst, inl, inr, length, List, [], ◌∷◌, ◌++◌, Option, Some, None}
use Rattle.std.specs.Prelude.{if◌then◌else◌, ◌==◌, min}
use Rattle.std.proofs.lemmas.Bool.{cases_eq}
use Rattle.std.proofs.lemmas.Bool.Decides.{nat_tests}
use Rattle.std.proofs.Math.ListN.{length-set}
use Rattle.linear_facts.specs.declared.forms.Term.{Term}
use Rattle.linear_facts.specs.declared.ranges.Range.{Range}
use Rattle.linear_facts.specs.declared.ranges.Atom.{Atom}
use Rattle.linear_facts.specs.declared.ranges.Split.{Split}
use Rattle.linear_facts.specs.Forms.{atom_form}
use Rattle.linear_facts.specs.Laws.{AreBelow}
use Rattle.vreg_groups.specs.declared.vector_length.Vconfig.{Vconfig}
use Rattle.scalar_core.specs.Hart.{Hart, reg_of}
use Rattle.abs_domain.specs.Values.{ValueView}
use Rattle.abs_domain.specs.Numbers.{NumbersView, atom_of_terms, plain, value_at, whole_atom, with_atom, with_fresh, with_split, with_value}
use Rattle.abs_domain.specs.Described.{LiesIn, IsNumber}
use Rattle.abs_domain.specs.Holds.{number_of, Holds, Follows}
use Rattle.abs_transfer.specs.Vset.{split_into, limited_by, limited, lesser_range, excess_range}
use Rattle.abs_domain.specs.StateLemmas.{atom_holds, atom_number, length_push, number_here, number_there, other_value, this_value, with_number}
use Rattle.abs_domain.specs.AtomSplitLemmas.{split_agrees, split_count, splits_stay}
use Rattle.abs_domain.specs.StateLemmas.{whole_is}

-- ---- vl

-- vl is not a register
registers_stay : (i : ℕ) (h : Hart) (config next : Vconfig) → i ≢ 32 → number_of i h next ≡ number_of i h config
registers_stay i h config next ne = grind (arith, nat_tests)

-- vl gets a number that is known
pub length_holds : (s : NumbersView) (v : ℕ → ℕ) (h : Hart) (config next : Vconfig) (a : ValueView) → Holds s v h config
    → IsNumber (length s.atoms) v a next.vl → Holds (with_value 32 a s) v h next
unfolding with_value
length_holds s v h config next a holds number =
    record {
      atoms = holds.atoms;
      splits = holds.splits;
      forms = length-set s.forms 32 a.form ∙ holds.forms;
      ranges = length-set s.ranges 32 a.range ∙ holds.ranges;
      each = λ i below. elim (cases_eq i 32) [
        | inl e ↦ rw (e, this_value s 32 a (omega (arith, holds.forms)) (omega (arith, holds.ranges))) number
        | inr ne ↦ rw (other_value s 32 i a ne, registers_stay i h config next ne) (holds.each i below)
      ];
    }

-- vl gets a new atom
pub fresh_length : (s : NumbersView) (v : ℕ → ℕ) (h : Hart) (config next : Vconfig) (r : Range) → Holds s v h config → LiesIn r next.vl
    → Follows s (with_fresh 32 r s) v h next
unfolding with_fresh with_value
fresh_length s v h config next r holds lies =
    let n = length s.atoms in
    let w = with_number v n next.vl in
    record {
      numbers = w;
      same = λ a below. number_there v n next.vl a (omega (arith, below));
      grows = omega (arith, length_push s.atoms (plain r));
      holds =
          length_holds (with_atom r s) w h config next (record { form = atom_form n; range = r }) (atom_holds s v h config r next.vl holds lies)
          (atom_number n (length (s.atoms ++ plain r ∷ [])) w r next.vl (length_push s.atoms (plain r)) (number_here v n next.vl) lies);
    }

-- what is known stays where each number is as it was
pub same_numbers : (s : NumbersView) (v : ℕ → ℕ) (g h : Hart) (config next : Vconfig) → Holds s v h config
    → ((i : ℕ) → number_of i g next ≡ number_of i h config) → Holds s v g next
same_numbers s v g h config next holds same =
    record {
      atoms = holds.atoms;
      splits = holds.splits;
      forms = holds.forms;
      ranges = holds.ranges;
      each = λ i below. subst (λ (n : ℕ). IsNumber (length s.atoms) v (value_at s i) n) (sym (same i)) (holds.each i below);
    }

-- vl stays
pub same_length : (s : NumbersView) (v : ℕ → ℕ) (h : Hart) (config next : Vconfig) → Holds s v h config → next.vl ≡ config.vl
    → Holds s v h next
same_length s v h config next holds e =
    same_numbers s v h h config next holds (λ i. ap (λ (vl : ℕ). if i == 32 then vl else reg_of i h) e)

-- ---- a split

split_holds : (s : NumbersView) (v : ℕ → ℕ) (h : Hart) (config : Vconfig) (a : ℕ) (p : Split) → a < length s.atoms
    → p.first < length s.atoms → p.second < length s.atoms → v a ≡ v p.first + v p.second → Holds s v h config
    → Holds (record s { atoms = with_split a p s.atoms }) v h config
unfolding value_at
split_holds s v h config a p l first second e holds =
    record {
      atoms = split_agrees s.atoms v a p l holds.atoms e;
      splits = splits_stay s.atoms a p l first second holds.splits;
      forms = holds.forms;
      ranges = holds.ranges;
      each = λ i below. subst (λ (n : ℕ). IsNumber n v (value_at s i) (number_of i h config)) (sym (split_count a p s.atoms)) (holds.each i below);
    }

-- ---- the lesser of a number and another

-- an atom that is the sum of vl and of a rest is split into them
into_holds : (s : NumbersView) (v : ℕ → ℕ) (h : Hart) (config next : Vconfig) (a y : ℕ) (r t : Range) → Holds s v h config
    → a < length s.atoms → LiesIn r next.vl → LiesIn t y → v a ≡ next.vl + y → Follows s (limited_by (Some a) r t s) v h next
unfolding limited_by split_into with_value
into_holds s v h config next a y r t holds l p q e =
    let n = length s.atoms in
    let x : ℕ = next.vl in
    let w = with_number v n x in
    let one : List Atom = s.atoms ++ plain r ∷ [] in
    let both : List Atom = one ++ plain t ∷ [] in
    let longer : length one ≡ n + 1 = length_push s.atoms (plain r) in
    let longest : length both ≡ n + 2 = omega (arith, length_push one (plain t), longer) in
    let u = with_number w (length one) y in
    let parts : Split = record { first = n; second = n + 1 } in
    let old : (b : ℕ) → b < n → u b ≡ v b =
    λ b below. number_there w (length one) y b (omega (arith, below, longer)) ∙ number_there v n x b (omega (arith, below)) in
    let first_is : u n ≡ x = number_there w (length one) y n (omega (arith, longer)) ∙ number_here v n x in
    let second_is : u (n + 1) ≡ y = ap u (sym longer) ∙ number_here w (length one) y in
    let sum : u a ≡ u n + u (n + 1) = rw (old a l, first_is, second_is) e in
    let grown : Holds (with_atom t (with_atom r s)) u h config =
    atom_holds (with_atom r s) w h config t y (atom_holds s v h config r x holds p) q in
    let split : Holds (record s { atoms = with_split a parts both }) u h config =
    split_holds (with_atom t (with_atom r s)) u h config a parts (omega (arith, l, longest)) (omega (arith, longest)) (omega (arith, longest)) sum grown in
    record {
      numbers = u;
      same = old;
      grows = omega (arith, split_count a parts both, longest);
      holds =
          length_holds (record s { atoms = with_split a parts both }) u h config next (record { form = atom_form n; range = r }) split
          (vl_number n (length (with_split a parts both)) u r x (omega (arith, split_count a parts both, longest)) first_is p);
    }
  where
    vl_number : (n m : ℕ) (u : ℕ → ℕ) (r : Range) (x : ℕ) → m ≡ n + 2 → u n ≡ x → LiesIn r x
        → IsNumber m u record { form = atom_form n; range = r } x
    vl_number n m u r x e is lies =
        let number = atom_number n (n + 1) u r x refl is lies in
        record {
          means = record { form = number.means.form; below = (omega (arith, e), tt); number = number.means.number };
          lies = number.lies;
        }

-- where neither case has an atom, there is none
no_atom : {P : Type 0} (t : Bool) (a : ℕ) → (if t then None else None) ≡ Some a → P
no_atom true a e = cc
no_atom false a e = cc

-- the atom that a form is, is one of those that it speaks of
whole_below : (n c : ℕ) (ts : List Term) (a : ℕ) → (if c == 0 then atom_of_terms ts else None) ≡ Some a → AreBelow n ts → a < n
whole_below n c [] a e below = no_atom (c == 0) a e
whole_below n c (t ∷ []) a e below = by_test (c == 0) (t.coefficient == 1) e
  where
    by_test : (p q : Bool) → (if p then (if q then Some t.atom else None) else None) ≡ Some a → a < n
    by_test true true f = (let is : t.atom ≡ a = cc in subst (λ (b : ℕ). b < n) is below.0)
    by_test true false f = cc
    by_test false q f = cc
whole_below n c (t ∷ u ∷ ts) a e below = no_atom (c == 0) a e

-- vl is the lesser of a number that is known and another one
pub limited_holds : (s : NumbersView) (v : ℕ → ℕ) (h : Hart) (config next : Vconfig) (m : ℕ) (a : ValueView) (x : ℕ) → Holds s v h config
    → IsNumber (length s.atoms) v a x → next.vl ≡ min x m → Follows s (limited m a s) v h next
unfolding limited limited_by whole_atom
limited_holds s v h config next m a x holds number is = by_atom (whole_atom a.form) refl
  where
    lesser : LiesIn (lesser_range m a.range) next.vl
    lesser = record {
      low = omega (arith, is, number.lies.low);
      high = omega (arith, is, number.lies.high);
      fits = omega (arith, number.lies.fits);
    }

    excess : LiesIn (excess_range m a.range) (x - m)
    excess = record {
      low = omega (arith, number.lies.low);
      high = omega (arith, number.lies.high);
      fits = omega (arith, number.lies.fits);
    }

    by_atom : (o : Option ℕ) → whole_atom a.form ≡ o → Follows s (limited_by o (lesser_range m a.range) (excess_range m a.range) s) v h next
    by_atom None e = fresh_length s v h config next (lesser_range m a.range) holds lesser
    by_atom (Some b) e =
        let whole : x ≡ v b = number.means.number ∙ whole_is v a.form.constant a.form.terms b holds.atoms.fits e in
        let below : b < length s.atoms = whole_below (length s.atoms) a.form.constant a.form.terms b e number.means.below in
        into_holds s v h config next b (x - m) (lesser_range m a.range) (excess_range m a.range) holds below lesser excess
        (omega (arith, whole, is))
