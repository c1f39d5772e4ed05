-- What the first two words of a loop are.
use Rattle.std.proofs.Common.{◌≡◌, ◌≢◌, ℕ, ◌-◌, ◌<◌, ◌≤◌, Bool, true, false, refl, ap, subst, Option, Some, None, List, replicate}
use Rattle.std.proofs.lemmas.Bool.{and_parts, eqb-true}
use Rattle.std.specs.Prelude.{ℤ, if◌then◌else◌, ◌==◌, ◌&&◌, not}
use Rattle.std.specs.List.{slice_get}
use Rattle.std.specs.Option.{option_map, option_and_then}
use Rattle.rv_decode.specs.declared.instructions.Condition.TheVariants.{Eq}
use Rattle.rv_decode.specs.declared.instructions.Insn.{Insn}
use Rattle.rv_decode.specs.declared.instructions.Insn.TheVariants as class
use Rattle.rv_decode.specs.declared.instructions.ScalarInsn.TheVariants.{Branch}
use Rattle.rv_decode.specs.declared.instructions.VSet.TheVariants.{Vsetvli}
use Rattle.region_mem.specs.declared.parameter.Param.{Param}
use Rattle.region_mem.specs.declared.parameter.Param.TheVariants as parameter
use Rattle.vreg_groups.specs.VectorType.{vtype_of}
use Rattle.vreg_groups.specs.declared.vector_type.Vtype.{Vtype}
use Rattle.scalar_core.specs.Step.{offset_by}
use Rattle.cert_maker.specs.declared.loops.Head.{Head}
use Rattle.cert_maker.specs.declared.loops.Loop.{Loop}
use Rattle.cert_maker.specs.Loops.{parameter_in, most_of, count_by, length_by, loop_begun}
use Rattle.cert_maker.proofs.Readings.{some_is, parameter_there}
use Rattle.cert_maker.proofs.Working.{differ}

-- a branch where a scalar that is passed is 0
pub record IsBranch (params : List Param) (pc : ℕ) (insn : Insn) (head : Head) : Type 0 where
  pub offset : ℤ
  pub least : ℕ
  pub is : insn ≡ class.Scalar (Branch Eq head.count 0 offset)
  pub from : 10 ≤ head.count
  pub to : head.count < 18
  pub count : slice_get params (head.count - 10) ≡ Some (parameter.Scalar least head.most)
  pub end : head.end ≡ offset_by pc offset

pub branch_is : (params : List Param) (pc : ℕ) (insn : Insn) (head : Head) → count_by params pc insn ≡ Some head → IsBranch params pc insn head
unfolding count_by most_of
branch_is params pc (class.Scalar (Branch Eq rs1 rs2 offset)) head e = by_zero (rs2 == 0) refl e
  where
    made : ℕ → Head
    made most = record { count = rs1; most = most; end = offset_by pc offset }

    by_param : rs2 ≡ 0 → (o : Option Param) → parameter_in params rs1 ≡ o → option_map made (option_and_then most_of o) ≡ Some head
        → IsBranch params pc (class.Scalar (Branch Eq rs1 rs2 offset)) head
    by_param none None f g = absurd (cc)
    by_param none (Some parameter.None) f g = absurd (cc)
    by_param none (Some (parameter.Buffer access size)) f g = absurd (cc)
    by_param none (Some (parameter.Scalar lo hi)) f g =
        let is = parameter_there params rs1 (parameter.Scalar lo hi) f in
        subst (λ (h : Head). IsBranch params pc (class.Scalar (Branch Eq rs1 rs2 offset)) h) (some_is (made hi) head g)
        record {
          offset = offset;
          least = lo;
          is = ap (λ (r : ℕ). class.Scalar (Branch Eq rs1 r offset)) none;
          from = is.0;
          to = is.1;
          count = is.2;
          end = refl;
        }

    by_zero : (t : Bool) → (rs2 == 0) ≡ t → (if t then option_map made (option_and_then most_of (parameter_in params rs1)) else None) ≡ Some head
        → IsBranch params pc (class.Scalar (Branch Eq rs1 rs2 offset)) head
    by_zero true t f = by_param (eqb-true rs2 0 t) (parameter_in params rs1) refl f
    by_zero false t f = absurd (cc)
branch_is params pc other head e = absurd (cc)

-- vsetvli of a supported type, into a register of its own
pub record IsLength (head : Head) (insn : Insn) (of : Loop) : Type 0 where
  pub vector_type : Vtype
  pub is : insn ≡ class.VSet (Vsetvli of.length of.count of.vtype)
  pub type_is : vtype_of of.vtype ≡ Some vector_type
  pub sew : of.sew ≡ vector_type.sew
  pub not_zero : of.length ≢ 0
  pub not_ra : of.length ≢ 1
  pub other : of.length ≢ of.count
  pub count : of.count ≡ head.count
  pub most : of.most ≡ head.most
  pub end : of.end ≡ head.end
  pub pointers : of.pointers ≡ replicate 8 false

pub length_is : (head : Head) (insn : Insn) (of : Loop) → length_by head insn ≡ Some of → IsLength head insn of
unfolding length_by
length_is head (class.VSet (Vsetvli rd rs1 vtype)) of e =
    by_test ((rs1 == head.count) && not (rd == 0) && not (rd == 1) && not (rd == head.count)) refl e
  where
    by_type : ((rs1 == head.count) && not (rd == 0) && not (rd == 1) && not (rd == head.count)) ≡ true → (o : Option Vtype) → vtype_of vtype ≡ o
        → option_map (loop_begun head rd vtype) o ≡ Some of → IsLength head (class.VSet (Vsetvli rd rs1 vtype)) of
    by_type t None f g = absurd (cc)
    by_type t (Some v) f g =
        let first = and_parts _ _ t in
        let second = and_parts _ _ first.0 in
        let third = and_parts _ _ second.0 in
        subst (λ (l : Loop). IsLength head (class.VSet (Vsetvli rd rs1 vtype)) l) (some_is (loop_begun head rd vtype v) of g)
        record {
          vector_type = v;
          is = ap (λ (r : ℕ). class.VSet (Vsetvli rd r vtype)) (eqb-true rs1 head.count third.0);
          type_is = f;
          sew = refl;
          not_zero = differ rd 0 third.1;
          not_ra = differ rd 1 second.1;
          other = differ rd head.count first.1;
          count = refl;
          most = refl;
          end = refl;
          pointers = refl;
        }

    by_test : (t : Bool) → ((rs1 == head.count) && not (rd == 0) && not (rd == 1) && not (rd == head.count)) ≡ t
        → (if t then option_map (loop_begun head rd vtype) (vtype_of vtype) else None) ≡ Some of → IsLength head (class.VSet (Vsetvli rd rs1 vtype)) of
    by_test true t f = by_type t (vtype_of vtype) refl f
    by_test false t f = absurd (cc)
length_is head other of e = absurd (cc)
