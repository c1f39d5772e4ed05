-- An atom that is split into two others: what is known of each atom.
use Rattle.std.proofs.Common.{◌≡◌, ◌≢◌, ◌<◌, ◌+◌, ℕ, sym, ap, ◌∙◌, inl, inr, length, List, get_or-set_same, get_or-set_other, Some}
use Rattle.std.proofs.lemmas.Bool.{cases_eq}
use Rattle.std.proofs.Math.ListN.{length-set}
use Rattle.linear_facts.specs.declared.ranges.Atom.{Atom}
use Rattle.linear_facts.specs.declared.ranges.Split.{Split}
use Rattle.linear_facts.specs.Ranges.{AgreesWith, atom_at, range_at, split_at}
use Rattle.abs_domain.specs.Numbers.{table_with, with_split}
use Rattle.abs_domain.specs.Holds.{AreSplitsBelow}

module _ (atoms : List Atom) (a : ℕ) (p : Split) where
  pub atom_other : (b : ℕ) → b ≢ a → atom_at (table_with (with_split a p atoms)) b ≡ atom_at (table_with atoms) b
  unfolding atom_at with_split
  atom_other b ne = get_or-set_other atoms a b _ _ ne

  split_other : (b : ℕ) → b ≢ a → split_at (table_with (with_split a p atoms)) b ≡ split_at (table_with atoms) b
  unfolding split_at
  split_other b ne = ap (λ (k : Atom). k.split) (atom_other b ne)

  pub atom_here : a < length atoms
      → atom_at (table_with (with_split a p atoms)) a ≡ record { range = (atom_at (table_with atoms) a).range; split = Some p }
  unfolding atom_at with_split
  atom_here l = get_or-set_same atoms a _ _ l

  split_here : a < length atoms → split_at (table_with (with_split a p atoms)) a ≡ Some p
  unfolding split_at
  split_here l = ap (λ (k : Atom). k.split) (atom_here l)

  pub range_stays : (b : ℕ) → a < length atoms → range_at (table_with (with_split a p atoms)) b ≡ range_at (table_with atoms) b
  unfolding range_at
  range_stays b l = elim (cases_eq b a) [
    | inl e ↦ rw e (ap (λ (k : Atom). k.range) (atom_here l))
    | inr ne ↦ ap (λ (k : Atom). k.range) (atom_other b ne)
  ]

same_split : (p q : Split) → Some p ≡ Some q → p ≡ q
same_split p q e = cc

-- an atom that is the sum of two others may be split into them
pub split_agrees : (atoms : List Atom) (v : ℕ → ℕ) (a : ℕ) (p : Split) → a < length atoms → AgreesWith (table_with atoms) v
    → v a ≡ v p.first + v p.second → AgreesWith (table_with (with_split a p atoms)) v
split_agrees atoms v a p l agrees e =
    record {
      fits = agrees.fits;
      in_range = λ b. rw (range_stays atoms a p b l) (agrees.in_range b);
      is_sum = λ b q f. elim (cases_eq b a) [
        | inl here ↦
            let k : p ≡ q = same_split p q (sym (split_here atoms a p l) ∙ (rw here at f)) in
            rw (here, ← k) e
        | inr ne ↦ agrees.is_sum b q (sym (split_other atoms a p b ne) ∙ f)
      ];
    }

pub split_count : (a : ℕ) (p : Split) (atoms : List Atom) → length (with_split a p atoms) ≡ length atoms
unfolding with_split
split_count a p atoms = length-set atoms a _

pub splits_stay : (atoms : List Atom) (a : ℕ) (p : Split) → a < length atoms → p.first < length atoms → p.second < length atoms
    → AreSplitsBelow atoms → AreSplitsBelow (with_split a p atoms)
splits_stay atoms a p l first second below b q e =
    rw (split_count a p atoms)
    (elim (cases_eq b a) [
      | inl here ↦
          let k : p ≡ q = same_split p q (sym (split_here atoms a p l) ∙ (rw here at e)) in
          rw (← k) (first, second)
      | inr ne ↦ below b q (sym (split_other atoms a p b ne) ∙ e)
    ])
