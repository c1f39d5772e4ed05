-- An instruction that sets vl makes at most two atoms more.
use Rattle.std.proofs.Common.{◌≡◌, ◌≤◌, ◌+◌, ℕ, Bool, true, false, arith, sym, subst, length, length-append, List, [], ◌∷◌, ◌++◌, Option, Some, None}
use Rattle.std.specs.Prelude.{if◌then◌else◌, ◌==◌}
use Rattle.linear_facts.specs.declared.ranges.Range.{Range}
use Rattle.linear_facts.specs.declared.ranges.Atom.{Atom}
use Rattle.vreg_groups.specs.declared.vector_type.Vtype.{Vtype}
use Rattle.vreg_groups.specs.VectorType.{vtype_of, vlmax_of}
use Rattle.abs_transfer.specs.declared.vset.Asked.{Asked}
use Rattle.abs_transfer.specs.declared.vset.Asked.TheVariants.{Keep, Greatest, Register, Number}
use Rattle.abs_domain.specs.declared.values.Effect.TheVariants.{Copied}
use Rattle.abs_domain.specs.Values.{ValueView}
use Rattle.abs_domain.specs.Numbers.{NumbersView, plain, value_at, with_effect, with_fresh, with_result, with_value}
use Rattle.abs_domain.specs.Numbers.{whole_atom}
use Rattle.abs_transfer.specs.Vset.{Configured, configured, has_vlmax, known_request, kept_or_zero, limited, limited_by, split_into, supported_request, unknown_request, with_length_in}
use Rattle.abs_domain.specs.AtomSplitLemmas.{split_count}

-- at most two atoms more
abbrev Grows : NumbersView → NumbersView → Type 0
Grows s t = length t.atoms ≤ length s.atoms + 2

fresh_grows : (r : Range) (s : NumbersView) → Grows s (with_fresh 32 r s)
unfolding with_fresh with_value
fresh_grows r s = omega (arith, length-append s.atoms (plain r ∷ []))

into_grows : (a : ℕ) (r t : Range) (atoms : List Atom) → length (split_into a r t atoms) ≤ length atoms + 2
unfolding split_into
into_grows a r t atoms =
    omega (
      arith,
      split_count a record { first = length atoms; second = length atoms + 1 } ((atoms ++ plain r ∷ []) ++ plain t ∷ []),
      length-append (atoms ++ plain r ∷ []) (plain t ∷ []),
      length-append atoms (plain r ∷ []),
    )

limited_grows : (o : Option ℕ) (r t : Range) (s : NumbersView) → Grows s (limited_by o r t s)
unfolding limited_by with_value
limited_grows None r t s = fresh_grows r s
limited_grows (Some a) r t s = into_grows a r t s.atoms

supported_grows : (vlenb : ℕ) (known : Option ℕ) (asked : Asked) (bits m : ℕ) (s : NumbersView)
    → Grows s (supported_request vlenb known asked bits m s).numbers
unfolding supported_request limited
supported_grows vlenb known Keep bits m s = by_test (has_vlmax vlenb known m)
  where
    by_test : (t : Bool) → Grows s (if t then record { numbers = s; vtype = Some bits; is_kept = true } else kept_or_zero s).numbers
    by_test true = omega arith
    by_test false = fresh_grows _ s
supported_grows vlenb known Greatest bits m s = fresh_grows _ s
supported_grows vlenb known (Register r) bits m s = limited_grows (whole_atom (value_at s r).form) _ _ s
supported_grows vlenb known (Number n) bits m s = limited_grows (whole_atom record { constant = n; terms = [] }) _ _ s

known_grows : (vlenb : ℕ) (known : Option ℕ) (asked : Asked) (bits : ℕ) (t : Option Vtype) (s : NumbersView)
    → Grows s (known_request vlenb known asked bits t s).numbers
unfolding known_request with_value
known_grows vlenb known asked bits None s = omega arith
known_grows vlenb known asked bits (Some t) s = supported_grows vlenb known asked bits (vlmax_of vlenb t) s

unknown_grows : (vlenb : ℕ) (asked : Asked) (s : NumbersView) → Grows s (unknown_request vlenb asked s).numbers
unfolding unknown_request
unknown_grows vlenb Keep s = fresh_grows _ s
unknown_grows vlenb Greatest s = fresh_grows _ s
unknown_grows vlenb (Register r) s = fresh_grows _ s
unknown_grows vlenb (Number n) s = fresh_grows _ s

configured_grows : (vlenb : ℕ) (known : Option ℕ) (asked : Asked) (bits : Option ℕ) (s : NumbersView)
    → Grows s (configured vlenb known asked bits s).numbers
unfolding configured
configured_grows vlenb known asked None s = unknown_grows vlenb asked s
configured_grows vlenb known asked (Some bits) s = known_grows vlenb known asked bits (vtype_of bits) s

copied_same : (rd : ℕ) (a : ValueView) (s : NumbersView) → length (with_effect rd (Copied a.form a.range) s).atoms ≡ length s.atoms
unfolding with_effect with_value
copied_same rd a s = omega arith

length_same : (rd : ℕ) (s : NumbersView) → length (with_length_in rd s).atoms ≡ length s.atoms
unfolding with_length_in with_result
length_same rd s = by_test (rd == 0)
  where
    by_test : (t : Bool) → length (if t then s else with_effect rd (Copied (value_at s 32).form (value_at s 32).range) s).atoms ≡ length s.atoms
    by_test true = omega arith
    by_test false = copied_same rd (value_at s 32) s

-- the numbers after a request, with vl in a register
pub vset_grows : (rd vlenb : ℕ) (known : Option ℕ) (asked : Asked) (bits : Option ℕ) (s t : NumbersView) (c : Configured)
    → configured vlenb known asked bits s ≡ c → t ≡ with_length_in rd c.numbers → length t.atoms ≤ length s.atoms + 2
vset_grows rd vlenb known asked bits s t c e f =
    let grown : Grows s c.numbers = subst (λ (d : Configured). Grows s d.numbers) e (configured_grows vlenb known asked bits s) in
    subst (λ (u : NumbersView). Grows s u) (sym f) (omega (arith, length_same rd c.numbers, grown))
