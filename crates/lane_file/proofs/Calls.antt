-- The call's own words and those of the write.
use Rattle.std.proofs.Common.{◌≡◌, inl, inr, ℕ, ◌+◌, ◌/◌, ◌<◌, ◌≤◌, ◌==◌, ◌&&◌, Bool, true, false, not, cond, zero, suc, List, [], ◌∷◌, length, refl, ap, sym, subst, ◌∙◌, arith, if◌then◌else◌}
use Rattle.std.specs.Int.{Width as LaneWidth}
use lib.Lanes.{zip2}
use Rattle.std.proofs.lemmas.Bool.Decides.{eqb_tells}
use Rattle.std.specs.Prelude.{IfSome, Some}
use Rattle.lane_fixed.specs.Chunks.{chunk_op, lane_result, lane_saturates}
use Rattle.lane_fixed.specs.FixedPoint.{any_active, element as fixed_element, saturates}
use Rattle.lane_fixed.specs.ModeLemmas.{chunk_results, chunk_saturations}
use Rattle.lane_fixed.specs.declared.operations.Op.{Op as FixedChunk}
use Rattle.lane_fixed.specs.declared.operations.RoundingMode.{RoundingMode}
use Rattle.rv_decode.specs.declared.instructions.FixedOp.{FixedOp}
use Rattle.lane_int.specs.Integer.{element}
use Rattle.lane_int.specs.Lists.{zip3}
use Rattle.rv_decode.specs.Instructions.{bits_of_width, bytes_of_width}
use Rattle.rv_decode.specs.declared.instructions.IntOp.{IntOp}
use Rattle.rv_decode.specs.declared.instructions.Width.{Width}
use Rattle.rv_decode.specs.declared.instructions.Width.TheVariants.{W8, W16, W32}
use Rattle.rv_decode.specs.declared.extents.Eew.TheVariants.{Same}
use Rattle.vreg_groups.specs.Elements.{active_of, elements_of}
use Rattle.vreg_groups.specs.Group.{IsGroupInside, IsSize, Span, body_of, written}
use Rattle.vreg_groups.specs.Legality.{count_of, group_count}
use Rattle.vreg_groups.specs.NewElements.{policy_of}
use Rattle.vreg_groups.specs.Setup.{group_at}
use Rattle.vreg_groups.specs.declared.policies.Policy.{Policy}
use Rattle.vreg_groups.specs.declared.setup.Setup.{Setup}
use Rattle.vreg_groups.specs.declared.vector_type.Vtype.{Vtype}
use Rattle.lane_file.specs.declared.second.Second.{Second}
use Rattle.lane_file.specs.declared.second.Second.TheVariants.{Group, Splat}
use Rattle.lane_file.specs.InPlace.{IsSecondInside, IsSecondWithin, all_written, fixed_saturated, fixed_written, int_written, second_list, second_of}
use Rattle.lane_file.proofs.Groups.{length-elements}

no_way : {A : Type 0} → false ≡ true → A
no_way e = absurd (omega (arith, ap {B = ℕ} (λ t. cond t 1 0) e))

-- what a call that is done has passed
pub all_told : (y z m : Bool) → (y && z && not m) ≡ true → (y ≡ true) × (z ≡ true) × (m ≡ false)
all_told true true false e = (refl, refl, refl)
all_told true true true e = no_way e
all_told true false m e = no_way e
all_told false z m e = no_way e

pub mask_off : (masked : Bool) (vd : ℕ) → (masked && (vd == 0)) ≡ false → masked ≡ true → 0 < vd
mask_off false vd e m = no_way m
mask_off true vd e m = elim (eqb_tells vd 0) [
  | inl is ↦ no_way (sym e ∙ is.0)
  | inr other ↦ positive vd other.1
]
  where
    positive : (n : ℕ) → (n ≡ 0 → ⊥) → 0 < n
    positive zero h = absurd (h refl)
    positive (suc n) h = omega arith

pub bytes_is : (w : Width) → bytes_of_width w ≡ bits_of_width w / 8
bytes_is W8 = refl
bytes_is W16 = refl
bytes_is W32 = refl

pub sizes_of : (w : Width) → IsSize (bytes_of_width w)
sizes_of W8 = inl refl
sizes_of W16 = inr (inl refl)
sizes_of W32 = inr (inr refl)

pub group_within : (t : Vtype) (first : ℕ) → IsGroupInside t first Same → first + group_count t Same ≤ 32
unfolding count_of
group_within t first inside = inside.registers

pub second_within : {A : Type 0} (t : Vtype) (b : Second A) → IsSecondInside t b → IsSecondWithin (group_count t Same) b
second_within t (Group vs1) inside = group_within t vs1 inside
second_within t (Splat value) inside = tt

second_same : {A : Type 0} (vlenb : ℕ) (number : A → ℕ) (s : Setup) (b : Second A) (file : List ℕ) → second_list vlenb (bits_of_width s.vtype.sew / 8) number s.vl b file ≡ second_of vlenb number s b file
unfolding second_of body_of
second_same vlenb number s (Group vs1) file = refl
second_same vlenb number s (Splat value) file = refl

else_is : {A : Type 0} (test : Bool) (x y : A) → test ≡ false → (if test then x else y) ≡ y
else_is test x y is = rw is refl

then_is : {A : Type 0} (test : Bool) (x y : A) → test ≡ true → (if test then x else y) ≡ x
then_is test x y is = rw is refl

pub all_is : {A : Type 0} (vlenb vd vs2 : ℕ) (s : Setup) (group : Span) (policy : Policy) (number : A → ℕ) (f : ℕ → ℕ → ℕ → ℕ) (b : Second A) (masked : Bool) (old new : List ℕ) → (s.vl == 0) ≡ false → group ≡ group_at s vd Same → policy ≡ policy_of s.agnostic s.vtype
    → new ≡ written vlenb group policy (zip3 f (elements_of vlenb group.bytes vs2 group.vl old) (second_list vlenb group.bytes number group.vl b old) (elements_of vlenb group.bytes vd group.vl old)) (active_of vlenb masked group.vl old) old
    → new ≡ all_written vlenb s f vd vs2 (second_of vlenb number s b old) masked old
unfolding all_written body_of
all_is vlenb vd vs2 s group policy number f b masked old new some is_group is_policy is =
    let at = group_at s vd Same in
    let by_group : new ≡ written vlenb at policy (zip3 f (elements_of vlenb at.bytes vs2 at.vl old) (second_list vlenb at.bytes number at.vl b old) (elements_of vlenb at.bytes vd at.vl old)) (active_of vlenb masked at.vl old) old =
    subst (λ (z : Span). new ≡ written vlenb z policy (zip3 f (elements_of vlenb z.bytes vs2 z.vl old) (second_list vlenb z.bytes number z.vl b old) (elements_of vlenb z.bytes vd z.vl old)) (active_of vlenb masked z.vl old) old) is_group is in
    let results = zip3 f (elements_of vlenb at.bytes vs2 s.vl old) (second_of vlenb number s b old) (elements_of vlenb at.bytes vd s.vl old) in
    by_group
    ∙ ap (λ ys. written vlenb at policy (zip3 f (elements_of vlenb at.bytes vs2 s.vl old) ys (elements_of vlenb at.bytes vd s.vl old)) (active_of vlenb masked s.vl old) old) (second_same vlenb number s b old)
    ∙ ap (λ p. written vlenb at p results (active_of vlenb masked s.vl old) old) is_policy
    ∙ sym (else_is (s.vl == 0) old (written vlenb at (policy_of s.agnostic s.vtype) results (active_of vlenb masked s.vl old) old) some)

pub none_is : (vlenb vd vs2 : ℕ) (s : Setup) (f : ℕ → ℕ → ℕ → ℕ) (ys : List ℕ) (masked : Bool) (old : List ℕ) → (s.vl == 0) ≡ true → old ≡ all_written vlenb s f vd vs2 ys masked old
unfolding all_written
none_is vlenb vd vs2 s f ys masked old none =
    sym (then_is (s.vl == 0) old (written vlenb (group_at s vd Same) (policy_of s.agnostic s.vtype) (zip3 f (body_of vlenb (group_at s vs2 Same) old) ys (body_of vlenb (group_at s vd Same) old)) (active_of vlenb masked s.vl old) old) none)

-- where the third list is not read
two_of_three : {A B C D : Type 0} (f : A → B → D) (xs : List A) (ys : List B) (zs : List C) → length zs ≡ length xs → zip3 (λ x y z. f x y) xs ys zs ≡ zip2 f xs ys
two_of_three f [] ys zs e = refl
two_of_three f (x ∷ xs) [] zs e = refl
two_of_three f (x ∷ xs) (y ∷ ys) [] e = absurd (omega (arith, e))
two_of_three f (x ∷ xs) (y ∷ ys) (z ∷ zs) e = ap (λ rs. f x y ∷ rs) (two_of_three f xs ys zs (omega (arith, e)))

pub int_is : (vlenb vd vs2 : ℕ) (s : Setup) (w : LaneWidth) (op : IntOp) (ys : List ℕ) (masked : Bool) (old : List ℕ) → all_written vlenb s (λ a b d. element op w a b) vd vs2 ys masked old ≡ int_written vlenb s w op vd vs2 ys masked old
unfolding all_written int_written body_of
int_is vlenb vd vs2 s w op ys masked old =
    let at = group_at s vd Same in
    let xs = elements_of vlenb at.bytes vs2 s.vl old in
    let ds = elements_of vlenb at.bytes vd s.vl old in
    ap (λ rs. if s.vl == 0 then old else written vlenb at (policy_of s.agnostic s.vtype) rs (active_of vlenb masked s.vl old) old)
    (two_of_three (element op w) xs ys ds (length-elements vlenb at.bytes vd s.vl old ∙ sym (length-elements vlenb at.bytes vs2 s.vl old)))

pub fixed_is : (vlenb vd vs2 : ℕ) (s : Setup) (w : LaneWidth) (op : FixedOp) (mode : RoundingMode) (o : FixedChunk) (ys : List ℕ) (masked : Bool) (old : List ℕ) → chunk_op op mode ≡ Some o → all_written vlenb s (λ a b d. lane_result o w a b) vd vs2 ys masked old ≡ fixed_written vlenb s w op mode vd vs2 ys masked old
unfolding all_written fixed_written body_of
fixed_is vlenb vd vs2 s w op mode o ys masked old is =
    let at = group_at s vd Same in
    let xs = elements_of vlenb at.bytes vs2 s.vl old in
    let ds = elements_of vlenb at.bytes vd s.vl old in
    let same : lane_result o w ≡ fixed_element op mode w = subst (λ c. IfSome c (λ o. lane_result o w ≡ fixed_element op mode w)) is (chunk_results op mode w) in
    ap (λ rs. if s.vl == 0 then old else written vlenb at (policy_of s.agnostic s.vtype) rs (active_of vlenb masked s.vl old) old)
    (two_of_three (lane_result o w) xs ys ds (length-elements vlenb at.bytes vd s.vl old ∙ sym (length-elements vlenb at.bytes vs2 s.vl old)) ∙ ap (λ f. zip2 f xs ys) same)

-- and whether it saturates
pub saturated_at : {A : Type 0} (vlenb vs2 : ℕ) (s : Setup) (group : Span) (number : A → ℕ) (test : ℕ → ℕ → Bool) (b : Second A) (masked : Bool) (file : List ℕ) (result : Bool) → group ≡ group_at s vs2 Same
    → result ≡ any_active test (elements_of vlenb group.bytes vs2 group.vl file) (second_list vlenb group.bytes number group.vl b file) (active_of vlenb masked group.vl file)
    → result ≡ any_active test (body_of vlenb (group_at s vs2 Same) file) (second_of vlenb number s b file) (active_of vlenb masked s.vl file)
unfolding body_of
saturated_at vlenb vs2 s group number test b masked file result is_group is =
    let at = group_at s vs2 Same in
    let by : result ≡ any_active test (elements_of vlenb at.bytes vs2 at.vl file) (second_list vlenb at.bytes number at.vl b file) (active_of vlenb masked at.vl file) =
    subst (λ (z : Span). result ≡ any_active test (elements_of vlenb z.bytes vs2 z.vl file) (second_list vlenb z.bytes number z.vl b file) (active_of vlenb masked z.vl file)) is_group is in
    by ∙ ap (λ ys. any_active test (elements_of vlenb at.bytes vs2 s.vl file) ys (active_of vlenb masked s.vl file)) (second_same vlenb number s b file)

pub saturated_is : (vlenb vs2 : ℕ) (s : Setup) (w : LaneWidth) (op : FixedOp) (mode : RoundingMode) (o : FixedChunk) (ys : List ℕ) (masked : Bool) (file : List ℕ) → chunk_op op mode ≡ Some o
    → any_active (lane_saturates o w) (body_of vlenb (group_at s vs2 Same) file) ys (active_of vlenb masked s.vl file) ≡ fixed_saturated vlenb s w op mode vs2 ys masked file
unfolding fixed_saturated
saturated_is vlenb vs2 s w op mode o ys masked file is =
    ap (λ t. any_active t (body_of vlenb (group_at s vs2 Same) file) ys (active_of vlenb masked s.vl file))
    (subst (λ c. IfSome c (λ o. lane_saturates o w ≡ saturates op mode w)) is (chunk_saturations op mode w))
