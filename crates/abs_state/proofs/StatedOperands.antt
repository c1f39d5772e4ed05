-- What is known of the elements that an instruction reads is true of them.
use Rattle.std.proofs.Common.{◌≡◌, ◌<◌, ◌≤◌, ◌+◌, ◌-◌, ◌*◌, ◌/◌, ◌%◌, ◌^◌, ℕ, Bool, true, false, arith, refl, sym, ap, ◌∙◌, subst, length, get_or, map, replicate, List, [], ◌∷◌, Option, Some, None, IfSome}
use Rattle.std.specs.List.{AllByRecursion, find}
use Rattle.std.specs.Option.{option_map_or}
use Rattle.std.specs.Prelude.{if◌then◌else◌, ◌==◌, ◌||◌, min, nat_lt, nat_le}
use Rattle.std.proofs.lemmas.Bool.{and_parts, eqb-true}
use Rattle.std.proofs.lemmas.Bool.Decides.{nat_tests}
use Rattle.std.proofs.Math.Nat.{mod-eq_of_lt, mod-lt}
use Rattle.std.proofs.lemmas.List.{get_or-map, get_or-replicate, length-map, length-replicate}
use Rattle.std.proofs.lemmas.List.FromFn.{get_or-map-range_with_len, length-map-range_with_len}
use Rattle.std.proofs.lemmas.Simd.{get_or-zip2, length-zip2}
use lib.Lanes.{zip2}
use Rattle.linear_facts.specs.declared.ranges.Range.{Range}
use Rattle.rv_decode.specs.declared.extents.Eew.{Eew}
use Rattle.rv_decode.specs.declared.extents.Eew.TheVariants.{Same}
use Rattle.rv_decode.specs.declared.instructions.Width.{Width}
use Rattle.rv_decode.specs.declared.instructions.Width.TheVariants.{W8, W16, W32}
use Rattle.rv_decode.specs.declared.instructions.Source.{Source}
use Rattle.rv_decode.specs.declared.instructions.Source.TheVariants.{Vector, Scalar, Immediate}
use Rattle.vreg_groups.specs.declared.setup.Setup.{Setup}
use Rattle.vreg_groups.specs.Elements.{element_at, elements_of}
use Rattle.vreg_groups.specs.Group.{body_of}
use Rattle.vreg_groups.specs.Legality.{eew_bits, group_count}
use Rattle.vreg_groups.specs.Setup.{group_at}
use Rattle.vreg_groups.specs.VectorLength.{IsVlenb}
use Rattle.rv_decode.specs.Instructions.{bits_of_width, bytes_of_width}
use Rattle.vreg_groups.specs.VectorType.{vlmax_of}
use Rattle.vreg_groups.specs.RoomLemmas.{element_within}
use Rattle.vreg_groups.specs.WriteLemmas.{number_at-lt}
use Rattle.scalar_core.specs.Arithmetic.{unsigned}
use Rattle.scalar_core.specs.Hart.{Hart, reg_of}
use Rattle.vector_core.specs.KeepLaws.{AreRegisters}
use Rattle.vector_core.specs.Operands.{second_of}
use Rattle.vector_mem.specs.Accesses.{low_bits}
use Rattle.cert_note.specs.declared.values.VectorFact.{VectorFact}
use Rattle.abs_domain.specs.Described.{LiesIn}
use Rattle.abs_transfer.specs.Facts.{all_of_bits, fact_range, is_source, low_range, second_range, source_range}
use Rattle.abs_state.specs.Held.{IsTrueOf, fact_element}
use Rattle.abs_domain.specs.Numbers.{NumbersView, value_at}
use Rattle.abs_domain.specs.Values.{just, up_to}
use Rattle.abs_state.proofs.Elements.{IsWithin}
use Rattle.abs_state.proofs.StatedWrites.{AreResults, IsGroup, element_inside}

-- What is known before an instruction is true of what it reads.
pub record IsRead (vlenb : ℕ) (s : Setup) (hart : Hart) (file : List ℕ) (numbers : NumbersView) (facts : List VectorFact)
    : Type 0 where
  pub vlenb_is : IsVlenb vlenb
  pub fits : s.vl ≤ vlmax_of vlenb s.vtype
  pub registers : AreRegisters vlenb file
  pub length : s.vl ≤ (value_at numbers 32).range.hi
  pub scalars : (i : ℕ) → i < 32 → LiesIn (value_at numbers i).range (reg_of i hart)
  pub holds : AllByRecursion (IsTrueOf vlenb s.vl file) facts

-- ---- lists

-- what is made of elements that lie in a range lies in another
pub map_lies : (bits of vl : ℕ) (a : Range) (range : Option Range) (f : ℕ → ℕ) (xs : List ℕ) → AreResults of vl (Some a) xs
    → ((x : ℕ) → IsWithin (2 ^ of) a x → IfSome range (λ r. IsWithin (2 ^ bits) r (f x))) → AreResults bits vl range (map f xs)
map_lies bits of vl a range f xs h law =
    record {
      count = length-map xs f ∙ h.count;
      each = λ i l. subst (λ (n : ℕ). IfSome range (λ r. IsWithin (2 ^ bits) r n))
          (sym (get_or-map f xs i 0 0 (omega (arith, l, h.count)))) (law (get_or xs i 0) (h.each i l));
    }

-- so does what is made of two lists of such elements
pub zip_lies : (bits of_x of_y vl : ℕ) (a c : Range) (range : Option Range) (f : ℕ → ℕ → ℕ) (xs ys : List ℕ)
    → AreResults of_x vl (Some a) xs → AreResults of_y vl (Some c) ys
    → ((x y : ℕ) → IsWithin (2 ^ of_x) a x → IsWithin (2 ^ of_y) c y → IfSome range (λ r. IsWithin (2 ^ bits) r (f x y)))
    → AreResults bits vl range (zip2 f xs ys)
zip_lies bits of_x of_y vl a c range f xs ys h k law =
    record {
      count = length-zip2 f xs ys (h.count ∙ sym k.count) ∙ h.count;
      each = λ i l. subst (λ (n : ℕ). IfSome range (λ r. IsWithin (2 ^ bits) r n))
          (sym (get_or-zip2 f xs ys i 0 0 0 (omega (arith, l, h.count)) (omega (arith, l, k.count))))
          (law (get_or xs i 0) (get_or ys i 0) (h.each i l) (k.each i l));
    }

pub map_zip_lies : (bits of_x of_y vl : ℕ) (a c : Range) (range : Option Range) (g : ℕ → ℕ) (f : ℕ → ℕ → ℕ) (xs ys : List ℕ)
    → AreResults of_x vl (Some a) xs → AreResults of_y vl (Some c) ys
    → ((x y : ℕ) → IsWithin (2 ^ of_x) a x → IsWithin (2 ^ of_y) c y → IfSome range (λ r. IsWithin (2 ^ bits) r (g (f x y))))
    → AreResults bits vl range (map g (zip2 f xs ys))
map_zip_lies bits of_x of_y vl a c range g f xs ys h k law =
    let len : length (zip2 f xs ys) ≡ vl = length-zip2 f xs ys (h.count ∙ sym k.count) ∙ h.count in
    record {
      count = length-map (zip2 f xs ys) g ∙ len;
      each = λ i l. subst (λ (n : ℕ). IfSome range (λ r. IsWithin (2 ^ bits) r n))
          (sym (get_or-map g (zip2 f xs ys) i 0 0 (omega (arith, l, len))
          ∙ ap g (get_or-zip2 f xs ys i 0 0 0 (omega (arith, l, h.count)) (omega (arith, l, k.count)))))
          (law (get_or xs i 0) (get_or ys i 0) (h.each i l) (k.each i l));
    }

-- ---- low bits

low_one : (n : ℕ) (r : Range) (x : ℕ) → 0 < n → LiesIn r x → IsWithin n (if nat_lt r.hi n then r else up_to (n - 1)) (x % n)
low_one n r x some h = go (nat_lt r.hi n) refl
  where
    go : (t : Bool) → nat_lt r.hi n ≡ t → IsWithin n (if t then r else up_to (n - 1)) (x % n)
    go true e =
        let k : r.hi < n = grind (arith, nat_tests) in
        let small : x < n = omega (arith, h.high, k) in
        let is : x % n ≡ x = mod-eq_of_lt small in
        record { low = omega (arith, is, h.low); high = omega (arith, is, h.high); fits = omega (arith, is, small) }
    go false e = (let l = mod-lt x some in record { low = omega arith; high = omega (arith, l); fits = l })

-- the low bits of a number that lies in a range
low_lies : (w : Width) (r : Range) (x : ℕ) → LiesIn r x
    → IsWithin (2 ^ bits_of_width w) (low_range (bits_of_width w) r) (low_bits (bytes_of_width w) x)
unfolding low_range low_bits
low_lies W8 r x h = low_one 256 r x (omega arith) h
low_lies W16 r x h = low_one 65536 r x (omega arith) h
low_lies W32 r x h = low_one 4294967296 r x (omega arith) h

just_one : (n x : ℕ) → 0 < n → IsWithin n (just (x % n)) (x % n)
just_one n x some = record { low = omega arith; high = omega arith; fits = mod-lt x some }

-- those of a number that is known
just_lies : (w : Width) (x : ℕ) → IsWithin (2 ^ bits_of_width w) (just (x % 2 ^ bits_of_width w)) (low_bits (bytes_of_width w) x)
unfolding low_bits
just_lies W8 x = just_one 256 x (omega arith)
just_lies W16 x = just_one 65536 x (omega arith)
just_lies W32 x = just_one 4294967296 x (omega arith)

-- ---- groups

-- what is found passes, and holds of it what holds of all
find_holds : {X : Type 0} (p : X → Bool) (P : X → Type 0) (xs : List X) → AllByRecursion P xs
    → IfSome (find p xs) (λ x. P x × (p x ≡ true))
find_holds p P [] h = tt
find_holds {X} p P (x ∷ xs) h = go (p x) refl (find_holds p P xs h.1)
  where
    go : (t : Bool) → p x ≡ t → IfSome (find p xs) (λ x. P x × (p x ≡ true))
        → IfSome (if t then Some x else find p xs) (λ x. P x × (p x ≡ true))
    go true e rest = (h.0, e)
    go false e rest = rest

-- a fact for vl, or for as many elements as vl is at most
counted : (count vl most i : ℕ) → i < vl → vl ≤ most → ((count == 0) || nat_le most count) ≡ true
    → i < (if count == 0 then vl else count)
counted count vl most i l h e = go (count == 0) refl
  where
    go : (t : Bool) → (count == 0) ≡ t → i < (if t then vl else count)
    go true f = l
    go false f =
        let k : most ≤ count = grind (arith, nat_tests) in
        omega (arith, k, l, h)

record IsFactOf (first bits of most : ℕ) (fact : VectorFact) : Type 0 where
  register : fact.register ≡ first
  width : fact.width ≡ bits
  registers : fact.registers ≡ of
  count : ((fact.count == 0) || nat_le most fact.count) ≡ true

fact_of : (vl : Range) (first width registers : ℕ) (fact : VectorFact) → is_source vl first width registers fact ≡ true
    → IsFactOf first width registers vl.hi fact
unfolding is_source
fact_of vl first width registers fact e =
    let a = and_parts _ _ e in
    let b = and_parts _ _ a.0 in
    let c = and_parts _ _ b.0 in
    record { register = eqb-true _ _ c.0; width = eqb-true _ _ c.1; registers = eqb-true _ _ b.1; count = a.1 }

min_low : (n : ℕ) → n ≤ 32 → min 32 n ≡ n
min_low n l = omega (arith, l)

module _ (vlenb : ℕ) (s : Setup) (hart : Hart) (file : List ℕ) (numbers : NumbersView) (facts : List VectorFact)
    (h : IsRead vlenb s hart file numbers facts) where
  abbrev vl_range : Range
  vl_range = (value_at numbers 32).range

  -- an element of a group lies in the range that is known of it
  module _ (first : ℕ) (eew : Eew) (inside : IsGroup vlenb (eew_bits s.vtype.sew eew) (group_at s first eew)) (i : ℕ) (l : i < s.vl) where
    abbrev size : ℕ
    size = eew_bits s.vtype.sew eew / 8

    abbrev x : ℕ
    x = element_at size (first * vlenb) file i

    small : x < 2 ^ eew_bits s.vtype.sew eew
    unfolding element_at
    small =
        let e : 256 ^ size ≡ 2 ^ eew_bits s.vtype.sew eew = inside.limit in
        let l : x < 256 ^ size = number_at-lt size (first * vlenb + size * i) file h.registers.bytes in
        omega (arith, e, l)

    by_fact : (fact : VectorFact) → IsTrueOf vlenb s.vl file fact
        → is_source vl_range first (eew_bits s.vtype.sew eew) (group_count s.vtype eew) fact ≡ true
        → IsWithin (2 ^ eew_bits s.vtype.sew eew) (fact_range fact) x
    by_fact fact holds e =
        let f = fact_of vl_range first (eew_bits s.vtype.sew eew) (group_count s.vtype eew) fact e in
        let there : i < group_count s.vtype eew * vlenb / size =
        element_within vlenb size (group_count s.vtype eew) i inside.size
        (element_inside vlenb (eew_bits s.vtype.sew eew) (group_at s first eew) i inside l) in
        let below = counted fact.count s.vl vl_range.hi i l h.length f.count in
        let room : fact.registers * vlenb / (fact.width / 8) ≡ group_count s.vtype eew * vlenb / size =
        ap (λ n. n * vlenb / (fact.width / 8)) f.registers ∙ ap (λ n. group_count s.vtype eew * vlenb / (n / 8)) f.width in
        let is : fact_element vlenb file fact i ≡ x =
        ap (λ n. element_at (n / 8) (fact.register * vlenb) file i) f.width
        ∙ ap (λ n. element_at size (n * vlenb) file i) f.register in
        let lies = holds i (omega (arith, below, there, room)) in
        record { low = omega (arith, is, lies.0); high = omega (arith, is, lies.1); fits = small }

    by_found : (o : Option VectorFact)
        → IfSome o (λ fact. IsTrueOf vlenb s.vl file fact
        × (is_source vl_range first (eew_bits s.vtype.sew eew) (group_count s.vtype eew) fact ≡ true))
        → IsWithin (2 ^ eew_bits s.vtype.sew eew) (option_map_or fact_range o (all_of_bits (eew_bits s.vtype.sew eew))) x
    by_found None e = record { low = omega arith; high = omega (arith, small); fits = small }
    by_found (Some fact) e = by_fact fact e.0 e.1

    element_lies : IsWithin (2 ^ eew_bits s.vtype.sew eew) (source_range s.vtype vl_range first eew facts) x
    unfolding source_range
    element_lies =
        subst
        (λ n. IsWithin (2 ^ eew_bits s.vtype.sew eew)
        (option_map_or fact_range (find (is_source vl_range first (eew_bits s.vtype.sew eew) (group_count s.vtype eew)) facts) (all_of_bits n)) x)
        (sym (min_low (eew_bits s.vtype.sew eew) inside.width))
        (by_found _
        (find_holds (is_source vl_range first (eew_bits s.vtype.sew eew) (group_count s.vtype eew)) (IsTrueOf vlenb s.vl file) facts h.holds))

  -- so do all that are read
  pub source_lies : (first : ℕ) (eew : Eew) → IsGroup vlenb (eew_bits s.vtype.sew eew) (group_at s first eew)
      → AreResults (eew_bits s.vtype.sew eew) s.vl (Some (source_range s.vtype (value_at numbers 32).range first eew facts))
      (body_of vlenb (group_at s first eew) file)
  unfolding body_of elements_of
  source_lies first eew inside =
      let f = element_at (eew_bits s.vtype.sew eew / 8) (first * vlenb) file in
      record {
        count = length-map-range_with_len f 0 s.vl;
        each = λ i l. subst (λ (n : ℕ). IsWithin (2 ^ eew_bits s.vtype.sew eew) (source_range s.vtype vl_range first eew facts) n)
            (sym (get_or-map-range_with_len f 0 s.vl i i 0 l (omega arith))) (element_lies first eew inside i l);
      }

  -- as many of one number
  all_lie : (bits : ℕ) (r : Range) (x : ℕ) → IsWithin (2 ^ bits) r x → AreResults bits s.vl (Some r) (replicate s.vl x)
  all_lie bits r x lies = record {
    count = length-replicate s.vl x;
    each = λ i l. subst (λ (n : ℕ). IsWithin (2 ^ bits) r n) (sym (get_or-replicate s.vl i x 0 l)) lies;
  }

  -- the second operand is inside the registers, where it is a group, or an x register
  abbrev pub IsSecond : Source → Type 0
  IsSecond (Vector vs1) = IsGroup vlenb (bits_of_width s.vtype.sew) (group_at s vs1 Same)
  IsSecond (Scalar rs1) = rs1 < 32
  IsSecond (Immediate imm) = Unit {0}

  pub second_lies : (b : Source) → IsSecond b
      → AreResults (bits_of_width s.vtype.sew) s.vl (Some (second_range s.vtype numbers facts b)) (second_of vlenb s hart b file)
  unfolding second_range second_of
  second_lies (Vector vs1) inside = source_lies vs1 Same inside
  second_lies (Scalar rs1) l =
      all_lie (bits_of_width s.vtype.sew) (low_range (bits_of_width s.vtype.sew) (value_at numbers rs1).range)
      (low_bits (bytes_of_width s.vtype.sew) (reg_of rs1 hart))
      (low_lies s.vtype.sew (value_at numbers rs1).range (reg_of rs1 hart) (h.scalars rs1 l))
  second_lies (Immediate imm) inside =
      all_lie (bits_of_width s.vtype.sew) (just (unsigned imm % 2 ^ bits_of_width s.vtype.sew))
      (low_bits (bytes_of_width s.vtype.sew) (unsigned imm)) (just_lies s.vtype.sew (unsigned imm))
