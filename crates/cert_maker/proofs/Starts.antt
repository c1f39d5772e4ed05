-- What is known behind the word that sets vl from the count.
use Rattle.std.proofs.Common.{◌≡◌, ◌≢◌, ℕ, ◌+◌, ◌-◌, ◌<◌, ◌≤◌, refl, sym, ◌∙◌, subst, arith, length, min}
use Rattle.std.proofs.Common.{inl, inr, ◌*◌, ◌/◌}
use Rattle.rv_decode.specs.declared.instructions.Width.{Width}
use Rattle.rv_decode.specs.declared.instructions.Width.TheVariants.{W8, W16, W32}
use Rattle.vreg_groups.specs.declared.vector_type.Lmul.{Lmul}
use Rattle.vreg_groups.specs.declared.vector_type.Lmul.TheVariants.{Quarter, Half, One, Two, Four, Eight}
use Rattle.vreg_groups.specs.declared.vector_type.Vtype.{Vtype}
use Rattle.rv_decode.specs.Instructions.{bits_of_width}
use Rattle.vreg_groups.specs.VectorType.{eighths_of, vlmax_of}
use Rattle.vreg_groups.specs.VectorLength.{IsVlenb}
use Rattle.std.proofs.lemmas.Nat.{le-div, mul-le}
use Rattle.std.proofs.Math.ListN.{length-set}
use Rattle.linear_facts.specs.declared.ranges.Range.{Range}
use Rattle.linear_facts.specs.Forms.{atom_form}
use Rattle.abs_domain.specs.Values.{ValueView}
use Rattle.abs_domain.specs.Numbers.{NumbersView, table_of, value_at, with_value, with_effect, with_result}
use Rattle.abs_domain.specs.Numbers.{whole_atom}
use Rattle.abs_transfer.specs.Vset.{limited, limited_by, split_into, with_length_in}
use Rattle.abs_domain.specs.StateLemmas.{this_value, other_value}
use Rattle.linear_facts.specs.LoopForms.{IsLoop}
use Rattle.cert_maker.specs.Laws.{AreSplit, IsCount, IsSet, LengthsAreSet}
use Rattle.cert_maker.proofs.Lengths.{are_split}
use Rattle.cert_maker.proofs.Accesses.{not_zero}

module _ (s : NumbersView) (n t e L N M : ℕ) (is : IsCount s n t e L N M) where
  abbrev k : ℕ
  k = length s.atoms

  abbrev v_range : Range
  v_range = record { lo = min 1 M; hi = min N M }

  abbrev w_range : Range
  w_range = record { lo = 1 - M; hi = N - M }

  vl : ValueView
  vl = record { form = atom_form k; range = v_range }

  abbrev split : NumbersView
  split = record s { atoms = split_into n v_range w_range s.atoms }

  set : NumbersView
  set = with_value 32 vl split

  limited_is : limited M (value_at s n) s ≡ set
  unfolding limited limited_by whole_atom set vl
  limited_is = rw is.count refl

  here : value_at set 32 ≡ vl
  unfolding set
  here = this_value split 32 vl (omega (arith, is.forms)) (omega (arith, is.ranges))

  lengths : (length set.forms ≡ 33) × (length set.ranges ≡ 33)
  unfolding set with_value vl
  lengths = (length-set s.forms 32 (atom_form k) ∙ is.forms, length-set s.ranges 32 v_range ∙ is.ranges)

  result_is : with_length_in t (limited M (value_at s n) s) ≡ with_value t vl set
  unfolding with_length_in with_result with_effect vl
  result_is = rw (limited_is, here, not_zero t is.positive) refl

  loop_is : (a : AreSplit s.atoms n v_range w_range) → IsLoop (table_of split) n e k (k + 1) L N M
  loop_is a = record {
    first = is.first;
    second = is.second;
    third = omega arith;
    n_range = a.n_range ∙ is.n_range;
    e_range = a.other_range e (omega (arith, is.first)) is.second ∙ is.e_range;
    v_range = a.first_range;
    u_range = a.second_range;
    n_split = a.n_split;
    e_split = a.other_split e (omega (arith, is.first)) is.second ∙ is.e_split;
    v_split = a.first_split;
    some = is.some;
    least = is.least;
    progress = is.progress;
  }

  stays : (i : ℕ) → i ≢ 32 → i ≢ t → value_at (with_value t vl set) i ≡ value_at s i
  unfolding set value_at
  stays i ne nt = other_value (with_value 32 vl split) t i vl nt ∙ (other_value split 32 i vl ne ∙ same i)
    where
      same : (i : ℕ) → value_at split i ≡ value_at s i
      same i = refl

  pub is_set : IsSet s (with_length_in t (limited M (value_at s n) s)) n t e L N M
  unfolding vl set with_value value_at
  is_set =
      subst (λ (q : NumbersView). IsSet s q n t e L N M) (sym result_is)
      record {
        loop = loop_is (are_split s.atoms n v_range w_range (omega (arith, is.first, is.second)));
        vl = other_value set t 32 vl (omega (arith, is.below)) ∙ here;
        length = this_value set t vl (omega (arith, lengths.0, is.below)) (omega (arith, lengths.1, is.below));
        others = stays;
        forms = length-set set.forms t vl.form ∙ lengths.0;
        ranges = length-set set.ranges t vl.range ∙ lengths.1;
      }

pub lengths-are_set : LengthsAreSet
lengths-are_set s n t e L N M is = is_set s n t e L N M is

-- ---- VLMAX

-- there are at least 2 eighths of 16 bytes, and the widest element has 32 bits
vlenb_least : (vlenb : ℕ) → IsVlenb vlenb → 16 ≤ vlenb
vlenb_least vlenb (inl e) = omega (arith, e)
vlenb_least vlenb (inr (inl e)) = omega (arith, e)
vlenb_least vlenb (inr (inr e)) = omega (arith, e)

eighths_least : (lmul : Lmul) → 2 ≤ eighths_of lmul
eighths_least Quarter = omega arith
eighths_least Half = omega arith
eighths_least One = omega arith
eighths_least Two = omega arith
eighths_least Four = omega arith
eighths_least Eight = omega arith

bits_most : (sew : Width) → (0 < bits_of_width sew) × (bits_of_width sew ≤ 32)
bits_most W8 = (omega arith, omega arith)
bits_most W16 = (omega arith, omega arith)
bits_most W32 = (omega arith, omega arith)

vlmax_is : (vlenb : ℕ) (sew : Width) (lmul : Lmul) → IsVlenb vlenb → 1 ≤ eighths_of lmul * vlenb / bits_of_width sew
vlmax_is vlenb sew lmul is =
    let bits = bits_most sew in
    let room = mul-le 2 16 (eighths_of lmul) vlenb (eighths_least lmul) (vlenb_least vlenb is) in
    le-div 1 (eighths_of lmul * vlenb) (bits_of_width sew) bits.0 (omega (arith, bits.1, room))

-- vl is never limited to 0
pub vlmax_positive : (vlenb : ℕ) (t : Vtype) → IsVlenb vlenb → 1 ≤ vlmax_of vlenb t
unfolding vlmax_of
vlmax_positive vlenb t is = vlmax_is vlenb t.sew t.lmul is
