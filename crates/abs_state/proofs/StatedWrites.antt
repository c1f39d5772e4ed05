-- What an unmasked instruction wrote to its destination: each element of the body is its result.
use Rattle.std.proofs.Common.{◌≡◌, ◌<◌, ◌≤◌, ◌+◌, ◌-◌, ◌*◌, ◌/◌, ◌%◌, ◌^◌, inl, inr, ℕ, Bool, true, false, arith, refl, ◌∙◌, length, get_or, replicate, List, [], ◌∷◌, Option, Some, None, IfSome}
use Rattle.std.specs.List.{AllByRecursion}
use Rattle.std.specs.Prelude.{if◌then◌else◌, ◌==◌, ◌&&◌, All}
use Rattle.std.proofs.lemmas.Bool.{and_parts, eqb-true, lt-ltb}
use Rattle.std.proofs.lemmas.Bool.Decides.{nat_tests}
use Rattle.std.proofs.lemmas.List.{get_or-replicate, get_or_default}
use Rattle.std.proofs.lemmas.List.Elements.{All-from_get_or}
use Rattle.std.proofs.Math.Nat.{mul-le-mul_left}
use Rattle.linear_facts.specs.declared.ranges.Range.{Range}
use Rattle.rv_decode.specs.declared.instructions.Width.{Width}
use Rattle.rv_decode.specs.declared.instructions.Width.TheVariants.{W8, W16, W32}
use Rattle.rv_decode.specs.declared.extents.Eew.{Eew}
use Rattle.rv_decode.specs.declared.extents.Eew.TheVariants as eew
use Rattle.rv_decode.specs.declared.extents.Eew.TheVariants.{Same}
use Rattle.vreg_groups.specs.declared.policies.Policy.{Policy}
use Rattle.vreg_groups.specs.declared.setup.Setup.{Setup}
use Rattle.vreg_groups.specs.Elements.{active_of, element_at}
use Rattle.vreg_groups.specs.Group.{Span, IsSize, written}
use Rattle.vreg_groups.specs.Legality.{eew_bits, group_count, is_group_legal, is_width}
use Rattle.vreg_groups.specs.NewElements.{new_element, policy_of, write_of}
use Rattle.vreg_groups.specs.Setup.{group_at}
use Rattle.vreg_groups.specs.VectorLength.{IsVlenb}
use Rattle.rv_decode.specs.Instructions.{bits_of_width}
use Rattle.vreg_groups.specs.VectorType.{vlmax_of}
use Rattle.vreg_groups.specs.RoomLemmas.{element_within, group_within}
use Rattle.vreg_groups.specs.SizeLemmas.{bytes_fit, group_ends, group_room}
use Rattle.vreg_groups.specs.WriteLemmas.{element_after}
use Rattle.vector_core.specs.KeepLaws.{AreRegisters}
use Rattle.vector_core.specs.Operands.{results_written}
use Rattle.abs_transfer.specs.Facts.{fact_if, group_fact}
use Rattle.abs_state.specs.Held.{IsTrueOf}
use Rattle.abs_state.proofs.Elements.{IsWithin}

-- ---- groups of legal instructions

-- a group is inside the registers, its elements have this many bits, which are 8 to 32, and it has room for the body
pub record IsGroup (vlenb bits : ℕ) (group : Span) : Type 0 where
  pub size : IsSize group.bytes
  pub width : bits ≤ 32
  pub limit : 256 ^ group.bytes ≡ 2 ^ bits
  pub registers : group.first + group.count ≤ 32
  pub room : group.bytes * group.vl ≤ group.count * vlenb

-- bits that are 8 to 32 are those of a size
size_of_bits : (sew : Width) (eew : Eew) → is_width (eew_bits sew eew) ≡ true
    → IsSize (eew_bits sew eew / 8) × (256 ^ (eew_bits sew eew / 8) ≡ 2 ^ eew_bits sew eew)
unfolding is_width
size_of_bits W8 eew.Quarter e = cc
size_of_bits W8 eew.Half e = cc
size_of_bits W8 eew.Same e = (inl refl, refl)
size_of_bits W8 eew.Double e = (inr (inl refl), refl)
size_of_bits W16 eew.Quarter e = cc
size_of_bits W16 eew.Half e = (inl refl, refl)
size_of_bits W16 eew.Same e = (inr (inl refl), refl)
size_of_bits W16 eew.Double e = (inr (inr refl), refl)
size_of_bits W32 eew.Quarter e = (inl refl, refl)
size_of_bits W32 eew.Half e = (inr (inl refl), refl)
size_of_bits W32 eew.Same e = (inr (inr refl), refl)
size_of_bits W32 eew.Double e = cc
size_of_bits sew (eew.Fixed W8) e = (inl refl, refl)
size_of_bits sew (eew.Fixed W16) e = (inr (inl refl), refl)
size_of_bits sew (eew.Fixed W32) e = (inr (inr refl), refl)

width_low : (bits : ℕ) → is_width bits ≡ true → bits ≤ 32
unfolding is_width
width_low bits e = grind (arith, nat_tests)

pub legal_group : (vlenb : ℕ) (s : Setup) (first : ℕ) (eew : Eew) → first < 32 → s.vl ≤ vlmax_of vlenb s.vtype
    → is_group_legal s.vtype eew first ≡ true → IsGroup vlenb (eew_bits s.vtype.sew eew) (group_at s first eew)
legal_group vlenb s first eew l fits legal =
    let t = s.vtype in
    let both = and_parts _ _ legal in
    let widths = size_of_bits t.sew eew (and_parts _ _ both.0).0 in
    record {
      size = widths.0;
      width = width_low (eew_bits t.sew eew) (and_parts _ _ both.0).0;
      limit = widths.1;
      registers = group_ends t eew first l (eqb-true (first % group_count t eew) 0 both.1);
      room = bytes_fit (eew_bits t.sew eew) s.vl (group_count t eew * vlenb) (group_room t eew vlenb s.vl fits);
    }

-- an element of the body lies within the group
pub element_inside : (vlenb bits : ℕ) (group : Span) (i : ℕ) → IsGroup vlenb bits group → i < group.vl
    → group.bytes * i + group.bytes ≤ group.count * vlenb
element_inside vlenb bits group i inside l =
    let m = mul-le-mul_left group.bytes (next i group.vl l) in omega (arith, m, inside.room)
  where
    next : (i n : ℕ) → i < n → i + 1 ≤ n
    next i n l = omega (arith, l)

-- ---- elements that were written

-- each of vl results lies in the range, where there is one, and has this many bits
pub record AreResults (bits vl : ℕ) (range : Option Range) (results : List ℕ) : Type 0 where
  pub count : length results ≡ vl
  pub each : (i : ℕ) → i < vl → IfSome range (λ r. IsWithin (2 ^ bits) r (get_or results i 0))

-- where all elements of the body are active, an element becomes its result
result_is : (policy : Policy) (ones n i old : ℕ) (results : List ℕ) → length results ≡ n → i < n
    → new_element policy ones results (replicate n true) i old ≡ get_or results i 0
unfolding new_element
result_is policy ones n i old results len l =
    rw (lt-ltb i (length results) (omega (arith, len, l)), get_or-replicate n i true false l)
    (get_or_default results i old 0 (omega (arith, len, l)))

-- element i of the body, after results were written to all of it
pub written_is : (vlenb bits : ℕ) (group : Span) (policy : Policy) (r : Range) (results file : List ℕ) (i : ℕ) → IsVlenb vlenb
    → IsGroup vlenb bits group → AreRegisters vlenb file → AreResults bits group.vl (Some r) results → i < group.vl
    → element_at group.bytes (group.first * vlenb) (written vlenb group policy results (replicate group.vl true) file) i
    ≡ get_or results i 0
unfolding written write_of
written_is vlenb bits group policy r results file i v inside registers are l =
    let size = group.bytes in
    let at = group.first * vlenb in
    let fit : All (λ x. x < 256 ^ size) results =
    All-from_get_or (λ x. x < 256 ^ size) results 0
    (λ j m. omega (arith, inside.limit, (are.each j (omega (arith, m, are.count))).fits)) in
    element_after size at (group.count * vlenb / size) policy results (replicate group.vl true) file i
    (group_within vlenb size group.first group.count (length file) v inside.size inside.registers registers.count)
    (element_within vlenb size group.count i inside.size (element_inside vlenb bits group i inside l)) registers.bytes fit
    ∙ result_is policy (256 ^ size - 1) group.vl i (element_at size at file i) results are.count l

-- what is stated of results is true of the registers to which they were written
written_true : (vlenb : ℕ) (s : Setup) (first : ℕ) (r : Range) (results file : List ℕ) → IsVlenb vlenb
    → IsGroup vlenb (bits_of_width s.vtype.sew) (group_at s first Same) → AreRegisters vlenb file
    → AreResults (bits_of_width s.vtype.sew) s.vl (Some r) results
    → IsTrueOf vlenb s.vl (results_written vlenb s (group_at s first Same) false results file) (group_fact s.vtype first r)
unfolding results_written active_of
written_true vlenb s first r results file v inside registers are i l =
    go (s.vl == 0) refl
  where
    size : ℕ
    size = bits_of_width s.vtype.sew / 8

    after : List ℕ
    after = written vlenb (group_at s first Same) (policy_of s.agnostic s.vtype) results (replicate s.vl true) file

    short : i < s.vl
    short = omega (arith, l)

    go : (t : Bool) → (s.vl == 0) ≡ t
        → (r.lo ≤ element_at size (first * vlenb) (if t then file else after) i)
        × (element_at size (first * vlenb) (if t then file else after) i ≤ r.hi)
    go true e = absurd (let none : s.vl ≡ 0 = grind (arith, nat_tests) in omega (arith, none, short))
    go false e =
        let bits = bits_of_width s.vtype.sew in
        let policy = policy_of s.agnostic s.vtype in
        let is = written_is vlenb bits (group_at s first Same) policy r results file i v inside registers are short in
        let x = are.each i short in
        (omega (arith, is, x.low), omega (arith, is, x.high))

-- so is the fact on them, where there is one
pub fact_true : (vlenb : ℕ) (s : Setup) (first : ℕ) (range : Option Range) (results file : List ℕ) → IsVlenb vlenb
    → IsGroup vlenb (bits_of_width s.vtype.sew) (group_at s first Same) → AreRegisters vlenb file
    → AreResults (bits_of_width s.vtype.sew) s.vl range results
    → AllByRecursion (IsTrueOf vlenb s.vl (results_written vlenb s (group_at s first Same) false results file))
    (fact_if s.vtype first range)
unfolding fact_if
fact_true vlenb s first None results file v inside registers are = tt
fact_true vlenb s first (Some r) results file v inside registers are =
    go ((r.lo == 0) && (r.hi == 2 ^ bits_of_width s.vtype.sew - 1))
  where
    go : (t : Bool)
        → AllByRecursion (IsTrueOf vlenb s.vl (results_written vlenb s (group_at s first Same) false results file))
        (if t then [] else group_fact s.vtype first r ∷ [])
    go true = tt
    go false = (written_true vlenb s first r results file v inside registers are, tt)
