-- Through the vector instructions of a loop what is known of numbers stays.
use Rattle.std.proofs.Common.{◌≡◌, ℕ, ◌+◌, true, false, refl, sym, ◌∙◌, Option, Some}
use Rattle.std.proofs.lemmas.Bool.{and_parts}
use Rattle.std.specs.Prelude.{Ok}
use Rattle.rv_decode.specs.Needs.{needs_of, needs_of_mask, needs_of_move}
use Rattle.rv_decode.specs.declared.instructions.Insn.{Insn}
use Rattle.rv_decode.specs.declared.instructions.Insn.TheVariants.{Scalar, Csr, VSet, VArith, VMask, VPerm, VReduce, VMem, VMove}
use Rattle.rv_decode.specs.declared.instructions.VMask as mask
use Rattle.rv_decode.specs.declared.instructions.VMask.TheVariants.{Logic, Count, First, SetFirst, Iota, Index}
use Rattle.rv_decode.specs.declared.instructions.VMove as move
use Rattle.rv_decode.specs.declared.instructions.VMove.TheVariants.{ToScalar, FromScalar, Whole}
use Rattle.vreg_groups.specs.Legality.{is_legal}
use Rattle.abs_state.specs.declared.state.Way.TheVariants.{To}
use Rattle.abs_domain.specs.Numbers.{NumbersView}
use Rattle.abs_transfer.specs.Legal.{legal_check}
use Rattle.abs_state.specs.State.{AbstractView}
use Rattle.abs_transfer.specs.Facts.{groups_after}
use Rattle.abs_state.specs.After.{after_of, vector_after, passed, next_word, mask_numbers, move_numbers, vector_numbers, access_check}
use Rattle.cert_maker.specs.Loops.{is_arithmetic, is_vector_class}
use Rattle.cert_maker.specs.Laws.{Goes, BodyKeeps}

-- ---- legality

pub legal_there : (bits : ℕ) (insn : Insn) (vtype : Option ℕ) → vtype ≡ Some bits → is_legal record { vtype = bits; vl = 0 } insn ≡ true
    → legal_check vtype insn ≡ Ok tt
unfolding legal_check
legal_there bits insn vtype e legal = rw e (rw legal refl)

-- ---- what a word leaves

module _ (pc : ℕ) (insn : Insn) (a : AbstractView) where
  abbrev next : AbstractView
  next = record a {
    numbers = vector_numbers insn a.numbers;
    groups = groups_after a.vlenb a.vtype a.numbers insn a.groups;
    words = a.words + 1;
    way = To (next_word pc);
  }

  -- a word that is legal, whose access is allowed, and which writes no register
  pub goes_on : legal_check a.vtype insn ≡ Ok tt → access_check a insn ≡ Ok tt → vector_numbers insn a.numbers ≡ a.numbers
      → after_of pc insn a ≡ vector_after pc insn a → Goes pc insn a
  unfolding vector_after passed
  goes_on legal access stays class = (
    next,
    class ∙ (rw (legal, access) refl),
    record {
      vlenb = refl;
      numbers = stays;
      zones = refl;
      vtype = refl;
      budget = refl;
      paid = refl;
      second_paid = refl;
      words = refl;
      way = refl;
    },
  )

-- ---- arithmetic

mask_stays : (insn : mask.VMask) (s : NumbersView) → is_arithmetic (VMask insn) ≡ true → mask_numbers insn s ≡ s
unfolding mask_numbers is_arithmetic is_vector_class needs_of needs_of_mask
mask_stays (Logic op vd vs2 vs1) s e = refl
mask_stays (Count rd vs2 true) s e = cc
mask_stays (Count rd vs2 false) s e = cc
mask_stays (First rd vs2 true) s e = cc
mask_stays (First rd vs2 false) s e = cc
mask_stays (SetFirst op vd vs2 masked) s e = refl
mask_stays (Iota vd vs2 masked) s e = refl
mask_stays (Index vd masked) s e = refl

move_stays : (insn : move.VMove) (s : NumbersView) → is_arithmetic (VMove insn) ≡ true → move_numbers insn s ≡ s
unfolding move_numbers is_arithmetic is_vector_class needs_of needs_of_move
move_stays (ToScalar rd vs2) s e = cc
move_stays (FromScalar vd rs1) s e = refl
move_stays (Whole count vd vs2) s e = refl

pub not_arithmetic : {A : Type 0} (insn : Insn) → is_vector_class insn ≡ false → is_arithmetic insn ≡ true → A
unfolding is_arithmetic
not_arithmetic insn e f = absurd (clash (sym e ∙ (and_parts _ _ (and_parts _ _ (and_parts _ _ f).0).0).0))
  where
    clash : false ≡ true → ⊥
    clash h = cc

pub body-keeps : BodyKeeps
unfolding after_of vector_numbers access_check is_vector_class
body-keeps pc bits (Scalar insn) a e vtype legal = not_arithmetic (Scalar insn) refl e
body-keeps pc bits (Csr insn) a e vtype legal = not_arithmetic (Csr insn) refl e
body-keeps pc bits (VSet insn) a e vtype legal = not_arithmetic (VSet insn) refl e
body-keeps pc bits (VArith insn) a e vtype legal = goes_on pc (VArith insn) a (legal_there bits (VArith insn) a.vtype vtype legal) refl refl refl
body-keeps pc bits (VMask insn) a e vtype legal =
    goes_on pc (VMask insn) a (legal_there bits (VMask insn) a.vtype vtype legal) refl (mask_stays insn a.numbers e) refl
body-keeps pc bits (VPerm insn) a e vtype legal = goes_on pc (VPerm insn) a (legal_there bits (VPerm insn) a.vtype vtype legal) refl refl refl
body-keeps pc bits (VReduce insn) a e vtype legal = goes_on pc (VReduce insn) a (legal_there bits (VReduce insn) a.vtype vtype legal) refl refl refl
body-keeps pc bits (VMem insn) a e vtype legal = not_arithmetic (VMem insn) refl e
body-keeps pc bits (VMove insn) a e vtype legal =
    goes_on pc (VMove insn) a (legal_there bits (VMove insn) a.vtype vtype legal) refl (move_stays insn a.numbers e) refl
