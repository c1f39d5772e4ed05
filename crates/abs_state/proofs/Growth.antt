-- An instruction makes at most one atom more, and counts as one.
use Rattle.std.proofs.Common.{◌≡◌, ◌≤◌, ◌+◌, ℕ, Bool, true, false, arith, refl, subst, length, length-append, List, [], ◌∷◌, Option, Some, None}
use Rattle.std.specs.Prelude.{Result, Ok, Err, if◌then◌else◌, ◌==◌}
use Rattle.linear_facts.specs.declared.ranges.Range.{Range}
use Rattle.linear_facts.specs.Forms.{Linear, within}
use Rattle.rv_decode.specs.declared.instructions.Insn.{Insn}
use Rattle.rv_decode.specs.declared.instructions.Insn.TheVariants.{Scalar, Csr, VSet, VArith, VMask, VPerm, VReduce, VMem, VMove}
use Rattle.rv_decode.specs.declared.instructions.ScalarInsn.{ScalarInsn}
use Rattle.rv_decode.specs.declared.instructions.ScalarInsn.TheVariants.{Lui, Auipc, Jal, Jalr, Branch, Load, Store, Immediate, ShiftImmediate, Register, Fence, Ecall}
use Rattle.rv_decode.specs.declared.instructions.CsrInsn.{CsrInsn}
use Rattle.rv_decode.specs.declared.instructions.VMask as mask
use Rattle.rv_decode.specs.declared.instructions.VMask.TheVariants.{Logic, Count, First, SetFirst, Iota, Index}
use Rattle.rv_decode.specs.declared.instructions.VMove as move
use Rattle.rv_decode.specs.declared.instructions.VSet as vset
use Rattle.rv_decode.specs.declared.instructions.VMove.TheVariants.{ToScalar, FromScalar, Whole}
use Rattle.abs_domain.specs.declared.why.Why.{Why}
use Rattle.abs_domain.specs.declared.zones.Zone.{Zone}
use Rattle.abs_state.specs.declared.state.Way.{Way}
use Rattle.abs_domain.specs.declared.values.Effect.{Effect}
use Rattle.abs_domain.specs.declared.values.Effect.TheVariants.{Computed, Fresh, Copied}
use Rattle.abs_domain.specs.Numbers.{NumbersView, plain, with_value, with_fresh, with_short, with_computed, with_effect, with_result}
use Rattle.abs_transfer.specs.Scalar.{if_allowed, scalar_after}
use Rattle.abs_transfer.specs.Csr.{csr_after}
use Rattle.abs_state.specs.State.{AbstractView}
use Rattle.abs_transfer.specs.Legal.{legal_check}
use Rattle.abs_state.specs.After.{access_check, after_of, mask_numbers, move_numbers, passed, taken, vector_after, vset_after}

-- at most one atom more
abbrev Grows : NumbersView → NumbersView → Type 0
Grows s t = length t.atoms ≤ length s.atoms + 1

fresh_grows : (i : ℕ) (r : Range) (s : NumbersView) → Grows s (with_fresh i r s)
unfolding with_fresh with_value
fresh_grows i r s = omega (arith, length-append s.atoms (plain r ∷ []))

short_grows : (i : ℕ) (o : Option Linear) (interval : Option Range) (s : NumbersView) → Grows s (with_short i o interval s)
unfolding with_short with_value
short_grows i None interval s = fresh_grows i _ s
short_grows i (Some f) interval s = omega arith

effect_grows : (i : ℕ) (e : Effect) (s : NumbersView) → Grows s (with_effect i e s)
unfolding with_effect with_computed with_value
effect_grows i (Computed f interval) s = short_grows i (within 8 f) interval s
effect_grows i (Fresh r) s = fresh_grows i r s
effect_grows i (Copied f r) s = omega arith

pub result_grows : (rd : ℕ) (e : Effect) (s : NumbersView) → Grows s (with_result rd e s)
unfolding with_result
result_grows rd e s = by_test (rd == 0)
  where
    by_test : (t : Bool) → Grows s (if t then s else with_effect rd e s)
    by_test true = omega arith
    by_test false = effect_grows rd e s

-- numbers that are not refused
abbrev pub ok_numbers : NumbersView → Result NumbersView Why
ok_numbers s = Ok s

pub same_ok : (t u : NumbersView) → ok_numbers t ≡ Ok u → t ≡ u
same_ok t u e = cc

ok_grows : (s t u : NumbersView) → Grows s u → ok_numbers u ≡ Ok t → Grows s t
ok_grows s t u g e = subst (λ (n : NumbersView). Grows s n) (same_ok u t e) g

allowed_grows : (r : Result (Unit {0}) Why) (s t u : NumbersView) → Grows s u → if_allowed r u ≡ Ok t → Grows s t
unfolding if_allowed
allowed_grows (Ok done) s t u g e = ok_grows s t u g e
allowed_grows (Err why) s t u g e = cc

pub scalar_grows : (pc : ℕ) (insn : ScalarInsn) (zones : List Zone) (s t : NumbersView) → scalar_after pc insn zones s ≡ Ok t
    → length t.atoms ≤ length s.atoms + 1
unfolding scalar_after
scalar_grows pc (Lui rd imm) zones s t e = ok_grows s t _ (result_grows rd _ s) e
scalar_grows pc (Auipc rd imm) zones s t e = ok_grows s t _ (result_grows rd _ s) e
scalar_grows pc (Jal rd offset) zones s t e = ok_grows s t _ (result_grows rd _ s) e
scalar_grows pc (Jalr rd rs1 offset) zones s t e = ok_grows s t _ (result_grows rd _ s) e
scalar_grows pc (Branch condition rs1 rs2 offset) zones s t e = ok_grows s t s (omega arith) e
scalar_grows pc (Load kind rd rs1 offset) zones s t e = allowed_grows _ s t _ (result_grows rd _ s) e
scalar_grows pc (Store size rs1 rs2 offset) zones s t e = allowed_grows _ s t s (omega arith) e
scalar_grows pc (Immediate op rd rs1 imm) zones s t e = ok_grows s t _ (result_grows rd _ s) e
scalar_grows pc (ShiftImmediate op rd rs1 amount) zones s t e = ok_grows s t _ (result_grows rd _ s) e
scalar_grows pc (Register op rd rs1 rs2) zones s t e = ok_grows s t _ (result_grows rd _ s) e
scalar_grows pc Fence zones s t e = ok_grows s t s (omega arith) e
scalar_grows pc Ecall zones s t e = ok_grows s t s (omega arith) e

pub csr_grows : (vlenb : ℕ) (insn : CsrInsn) (s : NumbersView) → length (csr_after vlenb insn s).atoms ≤ length s.atoms + 1
unfolding csr_after
csr_grows vlenb insn s = result_grows insn.rd _ s

-- ---- vector instructions

pub mask_grows : (insn : mask.VMask) (s : NumbersView) → length (mask_numbers insn s).atoms ≤ length s.atoms + 1
unfolding mask_numbers
mask_grows (Logic op vd vs2 vs1) s = omega arith
mask_grows (Count rd vs2 masked) s = result_grows rd _ s
mask_grows (First rd vs2 masked) s = result_grows rd _ s
mask_grows (SetFirst op vd vs2 masked) s = omega arith
mask_grows (Iota vd vs2 masked) s = omega arith
mask_grows (Index vd masked) s = omega arith

pub move_grows : (insn : move.VMove) (s : NumbersView) → length (move_numbers insn s).atoms ≤ length s.atoms + 1
unfolding move_numbers
move_grows (ToScalar rd vs2) s = result_grows rd _ s
move_grows (FromScalar vd rs1) s = omega arith
move_grows (Whole count vd vs2) s = omega arith

-- ---- words

taken_counts : (way : Way) (a b : AbstractView) (r : Result NumbersView Why) → taken way a r ≡ Ok b → b.words ≡ a.words + 1
unfolding taken
taken_counts way a b (Ok numbers) e = cc
taken_counts way a b (Err why) e = cc

passed_counts : (first second : Result (Unit {0}) Why) (n : ℕ) (a b : AbstractView) → a.words ≡ n → passed first second a ≡ Ok b → b.words ≡ n
unfolding passed
passed_counts (Ok first) (Ok second) n a b is e = cc
passed_counts (Ok first) (Err why) n a b is e = cc
passed_counts (Err why) second n a b is e = cc

vector_counts : (pc : ℕ) (insn : Insn) (a b : AbstractView) → vector_after pc insn a ≡ Ok b → b.words ≡ a.words + 1
unfolding vector_after
vector_counts pc insn a b e = passed_counts (legal_check a.vtype insn) (access_check a insn) (a.words + 1) _ b refl e

vset_counts : (pc : ℕ) (insn : vset.VSet) (a : AbstractView) → (vset_after pc insn a).words ≡ a.words + 1
unfolding vset_after
vset_counts pc insn a = refl

ok_counts : (n : ℕ) (a b : AbstractView) (r : Result AbstractView Why) → r ≡ Ok a → a.words ≡ n → r ≡ Ok b → b.words ≡ n
ok_counts n a b r is w e = cc

pub after_counts : (pc : ℕ) (insn : Insn) (a b : AbstractView) → after_of pc insn a ≡ Ok b → b.words ≡ a.words + 1
unfolding after_of
after_counts pc (Scalar insn) a b e = taken_counts _ a b _ e
after_counts pc (Csr insn) a b e = taken_counts _ a b _ e
after_counts pc (VSet insn) a b e = ok_counts (a.words + 1) (vset_after pc insn a) b _ refl (vset_counts pc insn a) e
after_counts pc (VArith insn) a b e = vector_counts pc (VArith insn) a b e
after_counts pc (VMask insn) a b e = vector_counts pc (VMask insn) a b e
after_counts pc (VPerm insn) a b e = vector_counts pc (VPerm insn) a b e
after_counts pc (VReduce insn) a b e = vector_counts pc (VReduce insn) a b e
after_counts pc (VMem insn) a b e = vector_counts pc (VMem insn) a b e
after_counts pc (VMove insn) a b e = vector_counts pc (VMove insn) a b e
