-- The edge that is taken is there, and what is known on it is true.
use Rattle.std.proofs.Common.{◌≡◌, ◌<◌, ◌^◌, ℕ, Bool, true, false, arith, refl, sym, ap, ◌∙◌, subst, inl, inr, List, length, get_or-set_same, get_or-set_other, Option, Some, None, IfSome, option_map, option_and_then}
use Rattle.std.specs.Prelude.{if◌then◌else◌, ◌==◌, slice_set, slice_index_or}
use Rattle.std.proofs.lemmas.Bool.{cases_eq}
use Rattle.std.proofs.lemmas.Bool.Decides.{nat_tests}
use Rattle.std.proofs.Math.ListN.{length-set}
use Rattle.linear_facts.specs.declared.ranges.Range.{Range}
use Rattle.linear_facts.specs.declared.ranges.Change.{Change}
use Rattle.linear_facts.specs.declared.ranges.Atom.{Atom}
use Rattle.linear_facts.specs.Forms.{Linear, value}
use Rattle.linear_facts.specs.Ranges.{AgreesWith, IsIn, atom_at, range_at, split_at, changed_or, meet_of}
use Rattle.linear_facts.specs.Sums.{range_of_form}
use Rattle.rv_decode.specs.declared.instructions.Condition.{Condition}
use Rattle.scalar_core.specs.Arithmetic.{is_taken}
use Rattle.abs_state.specs.declared.branches.Relation.{Relation}
use Rattle.abs_state.specs.declared.branches.Said.{Said}
use Rattle.abs_state.specs.declared.state.Way.{Way}
use Rattle.abs_state.specs.declared.state.Way.TheVariants.{To, Unknown, Fork}
use Rattle.abs_domain.specs.Values.{just, computed_range}
use Rattle.abs_domain.specs.Numbers.{table_with, value_at}
use Rattle.abs_domain.specs.Described.{LiesIn, IsNumber}
use Rattle.abs_state.specs.State.{AbstractView}
use Rattle.abs_state.specs.Branches.{relation_of, related_ranges, EdgeView, plain_edge, change_to, one_change, changes_of, edge_with, edge_in, with_said, related_edge, branch_edge, edge_by, refined, table_on, value_on}
use Rattle.abs_domain.specs.Numbers.{whole_atom}
use Rattle.abs_state.specs.EdgeLaws.{EdgesKeep, is_fork, OneEdge, StraightEdges}
use Rattle.abs_domain.specs.StateLemmas.{computed_lies, form_range_lies, whole_is}
use Rattle.abs_state.proofs.Refinements.{Stands, meet_is, related_is, relation_stands}

-- ---- atoms with new ranges

-- a change says what is true of its atom
abbrev pub IsChange : (ℕ → ℕ) → Option Change → Type 0
IsChange v o = IfSome o (λ c. LiesIn c.range (v c.atom))

changed_in : (v : ℕ → ℕ) (o : Option Change) (a : ℕ) (r : Range) → IsChange v o → IsIn r (v a) → IsIn (changed_or o a r) (v a)
changed_in v None a r h k = k
changed_in v (Some c) a r h k = by_test (c.atom == a) refl
  where
    by_test : (t : Bool) → (c.atom == a) ≡ t → IsIn (if t then c.range else r) (v a)
    by_test true e =
        let is : c.atom ≡ a = grind (arith, nat_tests) in
        subst (λ (b : ℕ). IsIn c.range (v b)) is (h.low, h.high)
    by_test false e = k

-- the atoms with both changes agree with the numbers
pub changed_agrees : (atoms : List Atom) (first second : Option Change) (v : ℕ → ℕ) → AgreesWith (table_with atoms) v
    → IsChange v first → IsChange v second → AgreesWith (record { atoms = atoms; first = first; second = second }) v
unfolding range_at split_at atom_at
changed_agrees atoms first second v agrees h k = record {
  fits = agrees.fits;
  in_range = λ a. changed_in v first a _ h (changed_in v second a _ k (agrees.in_range a));
  is_sum = agrees.is_sum;
}

-- a number that a form is, in a range, is its atom's where the form is one
atom_lies : (v : ℕ → ℕ) (f : Linear) (r : Range) (x : ℕ) → ((b : ℕ) → v b < 2 ^ 32) → x ≡ value v f → LiesIn r x
    → IfSome (whole_atom f) (λ a. LiesIn r (v a))
unfolding whole_atom
atom_lies v f r x fits e lies = by_atom (whole_atom f) refl
  where
    by_atom : (o : Option ℕ) → whole_atom f ≡ o → IfSome o (λ a. LiesIn r (v a))
    by_atom None h = tt
    by_atom (Some a) h = subst (λ (z : ℕ). LiesIn r z) (e ∙ whole_is v f.constant f.terms a fits h) lies

-- there are both changes, if any, and they are true
record AreChanges (o : Option (Option Change × Option Change)) (v : ℕ → ℕ) : Type 0 where
  first : Option Change
  second : Option Change
  is : o ≡ Some (first, second)
  one : IsChange v first
  two : IsChange v second

changes_are : (v : ℕ → ℕ) (a b : Option ℕ) (p q : Range) → IfSome a (λ i. LiesIn p (v i)) → IfSome b (λ i. LiesIn q (v i))
    → AreChanges (changes_of a p b q) v
unfolding changes_of
changes_are v (Some a) (Some b) p q h k = by_test (a == b) refl
  where
    by_test : (t : Bool) → (a == b) ≡ t
        → AreChanges (if t then one_change a (meet_of p q) else Some (Some (change_to p a), Some (change_to q b))) v
    by_test true e =
        let is : b ≡ a = grind (arith, nat_tests) in
        let both = meet_is p q (v a) h (subst (λ (i : ℕ). LiesIn q (v i)) is k) in
        record {
          first = Some (change_to both.range a);
          second = None;
          is = ap (λ (o : Option Range). one_change a o) both.is;
          one = both.lies;
          two = tt;
        }
    by_test false e = record { first = Some (change_to p a); second = Some (change_to q b); is = refl; one = h; two = k }
changes_are v (Some a) None p q h k = record { first = Some (change_to p a); second = None; is = refl; one = h; two = tt }
changes_are v None (Some b) p q h k = record { first = None; second = Some (change_to q b); is = refl; one = tt; two = k }
changes_are v None None p q h k = record { first = None; second = None; is = refl; one = tt; two = tt }

-- ---- edges

-- there is an edge, and what is known on it is true of the numbers
pub record IsEdge (o : Option EdgeView) (a : AbstractView) (v : ℕ → ℕ) (number : ℕ → ℕ) (pc : ℕ) : Type 0 where
  pub edge : EdgeView
  pub is : o ≡ Some edge
  pub state : edge.state ≡ a
  pub atoms : AgreesWith (table_on edge) v
  pub each : (i : ℕ) → i < 33 → IsNumber (length a.numbers.atoms) v (value_on edge i) (number i)
  pub target : IfSome edge.target (λ address. pc ≡ address)
  pub said : IfSome edge.said (λ s. is_taken s.condition (number s.rs1) (number s.rs2) ≡ s.taken)

module _ (a : AbstractView) (v : ℕ → ℕ) (number : ℕ → ℕ) (pc : ℕ) (agrees : AgreesWith (table_with a.numbers.atoms) v)
    (ranges : length a.numbers.ranges ≡ 33)
    (each : (i : ℕ) → i < 33 → IsNumber (length a.numbers.atoms) v (value_at a.numbers i) (number i)) where
  pub plain_is : (target : Option ℕ) → IfSome target (λ address. pc ≡ address) → IsEdge (Some (plain_edge a target)) a v number pc
  unfolding value_on value_at
  plain_is target h = record {
    edge = plain_edge a target;
    is = refl;
    state = refl;
    atoms = agrees;
    each = each;
    target = h;
    said = tt;
  }

  -- the edge with the branch that it belongs to
  said_is : (o : Option EdgeView) (s : Said) → is_taken s.condition (number s.rs1) (number s.rs2) ≡ s.taken → IsEdge o a v number pc
      → IsEdge (option_map (with_said s) o) a v number pc
  unfolding value_on
  said_is o s e there = record {
    edge = with_said s there.edge;
    is = ap (λ (p : Option EdgeView). option_map (with_said s) p) there.is;
    state = there.state;
    atoms = there.atoms;
    each = there.each;
    target = there.target;
    said = e;
  }

  -- the ranges where two registers have new ones
  range_lies : (rs1 rs2 : ℕ) (p q : Range) → rs1 < 33 → rs2 < 33 → LiesIn p (number rs1) → LiesIn q (number rs2) → (i : ℕ) → i < 33
      → LiesIn (slice_index_or (slice_set (slice_set a.numbers.ranges rs1 p) rs2 q) i (just 0)) (number i)
  unfolding value_at
  range_lies rs1 rs2 p q k l h g i below =
      elim (cases_eq i rs2) [
        | inl e ↦
            subst (λ (j : ℕ). LiesIn (slice_index_or (slice_set (slice_set a.numbers.ranges rs1 p) rs2 q) j (just 0)) (number j)) (sym e)
            (subst (λ (r : Range). LiesIn r (number rs2))
            (sym (get_or-set_same (slice_set a.numbers.ranges rs1 p) rs2 q (just 0) (omega (arith, length-set a.numbers.ranges rs1 p, ranges, l)))) g)
        | inr ne ↦
            subst (λ (r : Range). LiesIn r (number i)) (sym (get_or-set_other (slice_set a.numbers.ranges rs1 p) rs2 i q (just 0) ne))
            (first i below)
      ]
    where
      first : (i : ℕ) → i < 33 → LiesIn (slice_index_or (slice_set a.numbers.ranges rs1 p) i (just 0)) (number i)
      first i below =
          elim (cases_eq i rs1) [
            | inl e ↦
                subst (λ (j : ℕ). LiesIn (slice_index_or (slice_set a.numbers.ranges rs1 p) j (just 0)) (number j)) (sym e)
                (subst (λ (r : Range). LiesIn r (number rs1)) (sym (get_or-set_same a.numbers.ranges rs1 p (just 0) (omega (arith, ranges, k)))) h)
            | inr ne ↦
                subst (λ (r : Range). LiesIn r (number i)) (sym (get_or-set_other a.numbers.ranges rs1 i p (just 0) ne)) (each i below).lies
          ]

  -- a range that is met with that of its form
  met_lies : (first second : Option Change) (own : Range) (i : ℕ) → i < 33 → IsChange v first → IsChange v second → LiesIn own (number i)
      → LiesIn (computed_range (Some own)
      (range_of_form (record { atoms = a.numbers.atoms; first = first; second = second }) (value_at a.numbers i).form)) (number i)
  met_lies first second own i below h k lies =
      let known = each i below in
      computed_lies (number i) (Some own)
      (range_of_form (record { atoms = a.numbers.atoms; first = first; second = second }) (value_at a.numbers i).form)
      (omega (arith, lies.high, lies.fits)) lies
      (form_range_lies (record { atoms = a.numbers.atoms; first = first; second = second }) (value_at a.numbers i).form v (number i)
      (changed_agrees a.numbers.atoms first second v agrees h k) known.means.form known.means.number)

  edge_is : (rs1 rs2 target : ℕ) (p q : Range) → rs1 < 33 → rs2 < 33 → pc ≡ target → LiesIn p (number rs1) → LiesIn q (number rs2)
      → IsEdge (edge_in rs1 rs2 target a (p, q)) a v number pc
  unfolding edge_in value_on
  edge_is rs1 rs2 target p q k l at h g =
      let left = each rs1 k in
      let right = each rs2 l in
      let ranges_there = slice_set (slice_set a.numbers.ranges rs1 p) rs2 q in
      let changes = changes_are v (whole_atom (value_at a.numbers rs1).form) (whole_atom (value_at a.numbers rs2).form) p q
      (atom_lies v (value_at a.numbers rs1).form p (number rs1) agrees.fits left.means.number h)
      (atom_lies v (value_at a.numbers rs2).form q (number rs2) agrees.fits right.means.number g) in
      record {
        edge = edge_with target a ranges_there (changes.first, changes.second);
        is = ap (λ (o : Option (Option Change × Option Change)). option_map (edge_with target a ranges_there) o) changes.is;
        state = refl;
        atoms = changed_agrees a.numbers.atoms changes.first changes.second v agrees changes.one changes.two;
        each = λ i below. record {
          means = (each i below).means;
          lies =
              met_lies changes.first changes.second (slice_index_or ranges_there i (just 0)) i below changes.one changes.two
              (range_lies rs1 rs2 p q k l h g i below);
        };
        target = at;
        said = tt;
      }

  refined_is : (r : Relation) (rs1 rs2 target : ℕ) → rs1 < 33 → rs2 < 33 → pc ≡ target → Stands r (number rs1) (number rs2)
      → IsEdge (related_edge (Some r) rs1 rs2 target a) a v number pc
  unfolding related_edge
  refined_is r rs1 rs2 target k l at s =
      let both = related_is r (value_at a.numbers rs1).range (value_at a.numbers rs2).range (number rs1) (number rs2)
      (each rs1 k).lies (each rs2 l).lies s in
      subst (λ (o : Option (Range × Range)). IsEdge (option_and_then (edge_in rs1 rs2 target a) o) a v number pc) (sym both.is)
      (edge_is rs1 rs2 target both.first both.second k l at both.left both.right)

  related_edge_is : (o : Option Relation) (rs1 rs2 target : ℕ) → rs1 < 33 → rs2 < 33 → pc ≡ target
      → IfSome o (λ r. Stands r (number rs1) (number rs2)) → IsEdge (related_edge o rs1 rs2 target a) a v number pc
  unfolding related_edge
  related_edge_is None rs1 rs2 target k l at s = plain_is (Some target) at
  related_edge_is (Some r) rs1 rs2 target k l at s = refined_is r rs1 rs2 target k l at s

  pub branch_is : (condition : Condition) (taken : Bool) (rs1 rs2 target : ℕ) → rs1 < 33 → rs2 < 33 → pc ≡ target
      → is_taken condition (number rs1) (number rs2) ≡ taken → IsEdge (branch_edge taken condition rs1 rs2 target a) a v number pc
  unfolding branch_edge
  branch_is condition taken rs1 rs2 target k l at e =
      said_is _ record { condition = condition; rs1 = rs1; rs2 = rs2; taken = taken } e (by_test (rs1 == rs2))
    where
      by_test : (t : Bool) → IsEdge (related_edge
          (if t then None else relation_of condition taken (value_at a.numbers rs1).range (value_at a.numbers rs2).range) rs1 rs2 target a) a v number pc
      by_test true = related_edge_is None rs1 rs2 target k l at tt
      by_test false =
          related_edge_is (relation_of condition taken (value_at a.numbers rs1).range (value_at a.numbers rs2).range) rs1 rs2 target k l at
          (relation_stands condition taken (value_at a.numbers rs1).range (value_at a.numbers rs2).range (number rs1) (number rs2)
          (each rs1 k).lies (each rs2 l).lies e)

-- ---- every edge

same_edge : (x edge : EdgeView) → Some x ≡ Some edge → x ≡ edge
same_edge x edge e = cc

kept : (x edge : EdgeView) → Some x ≡ Some edge → edge.state ≡ x.state
kept x edge e = ap (λ (k : EdgeView). k.state) (sym (same_edge x edge e))

in_kept : (rs1 rs2 target : ℕ) (a : AbstractView) (p q : Range) (edge : EdgeView) → edge_in rs1 rs2 target a (p, q) ≡ Some edge → edge.state ≡ a
unfolding edge_in
in_kept rs1 rs2 target a p q edge e =
    by_changes (changes_of (whole_atom (value_at a.numbers rs1).form) p (whole_atom (value_at a.numbers rs2).form) q) e
  where
    by_changes : (o : Option (Option Change × Option Change))
        → option_map (edge_with target a (slice_set (slice_set a.numbers.ranges rs1 p) rs2 q)) o ≡ Some edge → edge.state ≡ a
    by_changes None f = cc
    by_changes (Some (first, second)) f =
        kept (edge_with target a (slice_set (slice_set a.numbers.ranges rs1 p) rs2 q) (first, second)) edge f

related_kept : (o : Option Relation) (rs1 rs2 target : ℕ) (a : AbstractView) (edge : EdgeView) → related_edge o rs1 rs2 target a ≡ Some edge
    → edge.state ≡ a
unfolding related_edge
related_kept None rs1 rs2 target a edge e = kept (plain_edge a (Some target)) edge e
related_kept (Some r) rs1 rs2 target a edge e =
    by_ranges (related_ranges r (value_at a.numbers rs1).range (value_at a.numbers rs2).range) e
  where
    by_ranges : (o : Option (Range × Range)) → option_and_then (edge_in rs1 rs2 target a) o ≡ Some edge → edge.state ≡ a
    by_ranges None f = cc
    by_ranges (Some (p, q)) f = in_kept rs1 rs2 target a p q edge f

said_kept : (o : Option EdgeView) (s : Said) (a : AbstractView) (edge : EdgeView) → ((x : EdgeView) → o ≡ Some x → x.state ≡ a)
    → option_map (with_said s) o ≡ Some edge → edge.state ≡ a
said_kept None s a edge keeps e = cc
said_kept (Some x) s a edge keeps e = kept (with_said s x) edge e ∙ keeps x refl

way_kept : (taken : Bool) (a : AbstractView) (w : Way) (edge : EdgeView) → edge_by taken a w ≡ Some edge → edge.state ≡ a
unfolding edge_by branch_edge
way_kept taken a (To target) edge e = kept (plain_edge a (Some target)) edge e
way_kept taken a Unknown edge e = kept (plain_edge a None) edge e
way_kept taken a (Fork condition rs1 rs2 there next) edge e =
    said_kept _ _ a edge (λ x f. related_kept _ rs1 rs2 (if taken then there else next) a x f) e

pub edges-keep : EdgesKeep
unfolding refined
edges-keep taken a edge e = way_kept taken a a.way edge e

pub straight-edges : StraightEdges
unfolding refined edge_by
straight-edges taken a target edge w e =
    ap (λ (k : EdgeView). k.target) (sym (same_edge (plain_edge a (Some target)) edge (sym (ap (λ (u : Way). edge_by taken a u) w) ∙ e)))

way_single : (taken : Bool) (a : AbstractView) (w : Way) → is_fork w ≡ false → edge_by taken a w ≡ edge_by false a w
unfolding edge_by
way_single taken a (To target) e = refl
way_single taken a Unknown e = refl
way_single taken a (Fork condition rs1 rs2 there next) e = cc

pub one-edge : OneEdge
unfolding refined
one-edge taken a e = way_single taken a a.way e
