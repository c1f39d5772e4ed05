-- What is known after a vector instruction is true of the machine to which it leads, by the laws of its parts.
use Rattle.std.proofs.Common.{◌≡◌, ◌<◌, ◌≤◌, ◌+◌, ◌*◌, ◌%◌, ◌⊎◌, ℕ, Bool, true, false, arith, refl, sym, ap, ◌∙◌, subst, eq-eqb, List, [], ◌∷◌, ◌++◌, Option, Some, None}
use Rattle.std.specs.Prelude.{if◌then◌else◌, ◌==◌, Result, Ok, Err, IfSome}
use Rattle.std.specs.List.{AllByRecursion}
use Rattle.rv_decode.specs.declared.instructions.Insn.{Insn}
use Rattle.rv_decode.specs.declared.instructions.Insn.TheVariants.{Scalar, Csr, VSet, VArith, VMask, VPerm, VReduce, VMem, VMove}
use Rattle.rv_decode.specs.Encodings.{FieldsFit}
use Rattle.rv_decode.specs.declared.extents.Operand.{Operand}
use Rattle.rv_decode.specs.Needs.{needs_of}
use Rattle.region_mem.specs.declared.faults.Fault.{Fault}
use Rattle.region_mem.specs.declared.faults.Fault.TheVariants.{JumpMisaligned}
use Rattle.region_mem.specs.Memory.{Memory}
use Rattle.vreg_groups.specs.declared.vector_length.Vconfig.{Vconfig}
use Rattle.vreg_groups.specs.VectorLength.{IsConfig}
use Rattle.vreg_groups.specs.VectorType.{vtype_of}
use Rattle.vreg_groups.specs.Legality.{count_of, is_legal}
use Rattle.scalar_core.specs.Hart.{Hart}
use Rattle.vector_core.specs.KeepLaws.{IsOutside, KeepsVectors, StepsKeepVectors, is_computing}
use Rattle.vector_core.specs.Step.{vector_step}
use Rattle.vector_core.specs.Vectors.{Stepped, Vectors}
use Rattle.machine.specs.Machine.{Machine}
use Rattle.machine.specs.MachineStep.{unless_misaligned, with_vector}
use Rattle.abs_domain.specs.declared.why.Why.{Why}
use Rattle.abs_state.specs.declared.state.Way.TheVariants.{To}
use Rattle.abs_domain.specs.Holds.{Follows}
use Rattle.abs_transfer.specs.Facts.{groups_after, known_type, stated_by, untouched}
use Rattle.abs_transfer.specs.Legal.{legal_check}
use Rattle.abs_state.specs.State.{AbstractView}
use Rattle.abs_state.specs.After.{access_check, next_word, passed, vector_after, vector_numbers}
use Rattle.abs_state.specs.Held.{Setting, AreTrueOf, Held, vlenb_in}
use Rattle.abs_state.specs.StepLaws.{MachineIsHeld}
use Rattle.abs_state.specs.VectorLaws.{ChecksAreLegal, StatedAreTrue, TransfersArePermitted, TransfersKeepMemory, UntouchedAreTrue}
use Rattle.abs_state.proofs.VectorSteps.{IsDone, IsPermitted, vector_done}
use Rattle.abs_state.proofs.LegalLemmas.{counts_known}
use Rattle.abs_state.proofs.Followed.{follows_held, proper_kept}
use Rattle.abs_state.proofs.StepMachines.{same_state}

-- the two tests are passed, and what is known next is this
record IsPassed (a b : AbstractView) (first second : Result (Unit {0}) Why) : Type 0 where
  first_is : first ≡ Ok tt
  second_is : second ≡ Ok tt
  same : a ≡ b

passed_is : (first second : Result (Unit {0}) Why) (a b : AbstractView) → passed first second a ≡ Ok b → IsPassed a b first second
unfolding passed
passed_is (Ok first) (Ok second) a b e = record { first_is = refl; second_is = refl; same = same_state a b e }
passed_is (Ok first) (Err why) a b e = cc
passed_is (Err why) second a b e = cc

both_true : {A : Type 0} (P : A → Type 0) (xs ys : List A) → AllByRecursion P xs → AllByRecursion P ys → AllByRecursion P (xs ++ ys)
both_true P [] ys p q = q
both_true P (x ∷ xs) ys p q = (p.0, both_true P xs ys p.1 q)

abbrev ok_machine : Machine → Result Machine Fault
ok_machine t = Ok t

aligned_is : (t : Machine) → t.hart.pc % 4 ≡ 0 → ok_machine t ≡ unless_misaligned t
unfolding unless_misaligned
aligned_is t e = by_test (t.hart.pc % 4 == 0) (eq-eqb (t.hart.pc % 4) 0 e)
  where
    by_test : (c : Bool) → c ≡ true → ok_machine t ≡ (if c then Ok t else Err (JumpMisaligned t.hart.pc))
    by_test true k = refl
    by_test false k = cc

-- the parts, each a law of its own
pub record Parts : Type 0 where
  pub keeps : StepsKeepVectors
  pub legal : ChecksAreLegal
  pub permitted : TransfersArePermitted
  pub memory : TransfersKeepMemory
  pub stated : StatedAreTrue
  pub untouched : UntouchedAreTrue

module _ (parts : Parts) (e : Setting) (n : ℕ) (a : AbstractView) (s : Machine) (held : Held e n a s) (aligned : s.hart.pc % 4 ≡ 0) where
  -- the state after an instruction
  abbrev next_state : Insn → AbstractView
  next_state insn = record a {
    numbers = vector_numbers insn a.numbers;
    groups = groups_after a.vlenb a.vtype a.numbers insn a.groups;
    words = a.words + 1;
    way = To (next_word s.hart.pc);
  }

  permitted_is : (insn : Insn) → is_computing insn ≡ true → FieldsFit insn → legal_check a.vtype insn ≡ Ok tt → access_check a insn ≡ Ok tt
      → IsPermitted (vlenb_in e) insn s.hart s.vectors s.memory
  unfolding access_check
  permitted_is (Scalar insn) c f l k = tt
  permitted_is (Csr insn) c f l k = tt
  permitted_is (VSet insn) c f l k = tt
  permitted_is (VArith insn) c f l k = tt
  permitted_is (VMask insn) c f l k = tt
  permitted_is (VPerm insn) c f l k = tt
  permitted_is (VReduce insn) c f l k = tt
  permitted_is (VMem insn) c f l k = parts.permitted e n a s insn held f l k
  permitted_is (VMove insn) c f l k = tt

  -- what lies outside the destination by what is known of vtype does
  outside_is : (insn : Insn) (i : ℕ) → legal_check a.vtype insn ≡ Ok tt → IsOutside (vlenb_in e) (known_type a.vtype) (needs_of insn).destination i
      → IsOutside (vlenb_in e) (vtype_of s.vectors.config.vtype) (needs_of insn).destination i
  outside_is insn i l o = by_destination (needs_of insn).destination (counts_known a.vtype insn s.vectors.config held.known.vtype l) o
    where
      by_destination : (d : Option Operand) → IfSome d (λ d. count_of (known_type a.vtype) d.extent ≡ count_of (vtype_of s.vectors.config.vtype) d.extent)
          → IsOutside (vlenb_in e) (known_type a.vtype) d i → IsOutside (vlenb_in e) (vtype_of s.vectors.config.vtype) d i
      by_destination None k o = tt
      by_destination (Some d) k o = subst (λ (n : ℕ). (i < d.first * vlenb_in e) ⊎ ((d.first + n) * vlenb_in e ≤ i)) k o

  groups_true : (word : ℕ) (insn : Insn) (hart : Hart) (vectors : Vectors) (memory : Memory) → FieldsFit insn → is_legal s.vectors.config insn ≡ true
      → legal_check a.vtype insn ≡ Ok tt → vector_step (vlenb_in e) insn word s.hart s.vectors s.memory ≡ Ok (hart, vectors, memory)
      → KeepsVectors (vlenb_in e) insn s.vectors vectors → AreTrueOf (vlenb_in e) vectors (groups_after a.vlenb a.vtype a.numbers insn a.groups)
  unfolding groups_after
  groups_true word insn hart vectors memory f legal l is kept =
      let old = parts.untouched (vlenb_in e) (known_type a.vtype) (needs_of insn).destination s.vectors vectors a.groups
      (ap (λ (k : Vconfig). k.vl) kept.config) (λ i o. kept.others i (outside_is insn i l o)) held.known.groups in
      let new = parts.stated e n a s word insn hart vectors memory held f legal is in
      rw held.known.vlenb
      (both_true _ (untouched (known_type a.vtype) (needs_of insn).destination a.groups)
      (stated_by (vlenb_in e) (known_type a.vtype) a.numbers a.groups insn) old new)

  done_held : (word : ℕ) (insn : Insn) → is_computing insn ≡ true → FieldsFit insn → is_legal s.vectors.config insn ≡ true → legal_check a.vtype insn ≡ Ok tt
      → IsDone a.numbers (vector_numbers insn a.numbers) held.numbers s.hart.pc s.vectors.config s.memory
      (vector_step (vlenb_in e) insn word s.hart s.vectors s.memory)
      → MachineIsHeld e n (next_state insn) (with_vector (vector_step (vlenb_in e) insn word s.hart s.vectors s.memory))
  done_held word insn c f legal l done =
      let known = held.known in
      let proper = known.proper in
      let t : Machine = record { hart = done.hart; vectors = done.vectors; memory = done.memory } in
      let kept : KeepsVectors (vlenb_in e) insn s.vectors done.vectors =
      parts.keeps (vlenb_in e) word insn s.hart done.hart s.vectors done.vectors s.memory done.memory c f proper.vectors proper.registers done.is in
      let config : IsConfig (vlenb_in e) done.vectors.config = subst (λ (k : Vconfig). IsConfig (vlenb_in e) k) (sym kept.config) proper.vectors.config in
      let follows : Follows a.numbers (vector_numbers insn a.numbers) held.numbers done.hart done.vectors.config =
      subst (λ (k : Vconfig). Follows a.numbers (vector_numbers insn a.numbers) held.numbers done.hart k) (sym kept.config) done.follows in
      record {
        t = t;
        is = ap (λ (r : Stepped). with_vector r) done.is ∙ aligned_is t (omega (arith, aligned, done.at));
        held =
            follows_held e n a s t held (vector_numbers insn a.numbers) a.vtype (groups_after a.vlenb a.vtype a.numbers insn a.groups) (To (next_word s.hart.pc))
            follows (subst (λ (k : Vconfig). IfSome a.vtype (λ v. k.vtype ≡ v)) (sym kept.config) known.vtype)
            (groups_true word insn done.hart done.vectors done.memory f legal l done.is kept)
            (proper_kept e s t proper done.is_hart config kept.registers done.kept) done.at;
      }

  pub vector_held : (word : ℕ) (insn : Insn) (b : AbstractView) → is_computing insn ≡ true → FieldsFit insn → vector_after s.hart.pc insn a ≡ Ok b
      → MachineIsHeld e n b (with_vector (vector_step (vlenb_in e) insn word s.hart s.vectors s.memory))
  unfolding vector_after
  vector_held word insn b c f after =
      let p = passed_is (legal_check a.vtype insn) (access_check a insn) (next_state insn) b after in
      let known = held.known in
      let proper = known.proper in
      let legal : is_legal s.vectors.config insn ≡ true = parts.legal a.vtype insn s.vectors.config known.vtype p.first_is in
      let lies = (known.known.each 32 (omega arith)).lies in
      subst (λ (k : AbstractView). MachineIsHeld e n k (with_vector (vector_step (vlenb_in e) insn word s.hart s.vectors s.memory))) p.same
      (done_held word insn c f legal p.first_is
      (vector_done parts.memory a.numbers held.numbers (vlenb_in e) s.hart s.vectors s.memory proper.hart (omega (arith, lies.high, lies.fits))
      proper.registers.bytes known.known insn word c f legal (permitted_is insn c f p.first_is p.second_is)))
