-- The elements that an instruction reads lie in the range that facts on them give.
use Rattle.std.proofs.Common.{◌≡◌, ◌<◌, ◌≤◌, ◌+◌, ◌-◌, ◌*◌, ◌/◌, ◌^◌, ℕ, Bool, true, false, arith, refl, ap, ◌∙◌, subst, List, Option, Some, None}
use Rattle.std.specs.Prelude.{if◌then◌else◌, ◌==◌, min, find, get_or, slice_index}
use Rattle.std.specs.List.{AllByRecursion}
use Rattle.std.specs.Option.{option_map_or}
use Rattle.std.proofs.lemmas.Bool.Decides.{nat_tests}
use Rattle.std.proofs.lemmas.List.FromFn.{get_or-map-range_with_len}
use Rattle.std.proofs.lemmas.Nat.{le-div}
use Rattle.linear_facts.specs.declared.ranges.Range.{Range}
use Rattle.rv_decode.specs.declared.extents.Eew.TheVariants.{Fixed}
use Rattle.rv_decode.specs.declared.instructions.Width.{Width}
use Rattle.rv_decode.specs.declared.instructions.Width.TheVariants.{W8, W16, W32}
use Rattle.vreg_groups.specs.declared.vector_type.Vtype.{Vtype}
use Rattle.vreg_groups.specs.Elements.{element_at, elements_of}
use Rattle.vreg_groups.specs.Group.{Span, body_of}
use Rattle.vreg_groups.specs.Legality.{group_count}
use Rattle.rv_decode.specs.Instructions.{bits_of_width, bytes_of_width}
use Rattle.vreg_groups.specs.VectorType.{vlmax_of}
use Rattle.vreg_groups.specs.SizeLemmas.{bytes_fit, group_room}
use Rattle.vreg_groups.specs.WriteLemmas.{number_at-lt}
use Rattle.cert_note.specs.declared.values.VectorFact.{VectorFact}
use Rattle.abs_transfer.specs.Facts.{all_of_bits, fact_range, is_source, source_range, elements_in}
use Rattle.abs_state.specs.Held.{IsTrueOf, count_of, fact_element}
use Rattle.abs_domain.specs.StartFormLemmas.{found_has, found_passes}

pub width_some : (width : Width) → 0 < bytes_of_width width
width_some W8 = omega arith
width_some W16 = omega arith
width_some W32 = omega arith

-- element i of a body
pub element_is : (vlenb : ℕ) (span : Span) (file : List ℕ) (i : ℕ) → i < span.vl
    → slice_index (body_of vlenb span file) i ≡ element_at span.bytes (span.first * vlenb) file i
unfolding body_of elements_of
element_is vlenb span file i l =
    get_or-map-range_with_len (element_at span.bytes (span.first * vlenb) file) 0 span.vl i i 0 l (omega arith)

-- an element has as many bits as its width
element_fits : (width : Width) (at : ℕ) (file : List ℕ) (i : ℕ) → ((k : ℕ) → get_or file k 0 < 256)
    → element_at (bytes_of_width width) at file i ≤ 2 ^ bits_of_width width - 1
unfolding element_at
element_fits W8 at file i bytes = omega (arith, number_at-lt 1 (at + 1 * i) file bytes)
element_fits W16 at file i bytes = omega (arith, number_at-lt 2 (at + 2 * i) file bytes)
element_fits W32 at file i bytes = omega (arith, number_at-lt 4 (at + 4 * i) file bytes)

full_width : (width : Width) → min 32 (bits_of_width width) ≡ bits_of_width width
full_width W8 = refl
full_width W16 = refl
full_width W32 = refl

module _ (vlenb : ℕ) (t : Vtype) (vl : ℕ) (r : Range) (first : ℕ) (width : Width) (file : List ℕ) (below : vl ≤ r.hi)
    (within : vl ≤ vlmax_of vlenb t) where
  abbrev bits : ℕ
  bits = bits_of_width width

  -- all elements below vl lie in the group's registers
  room : vl ≤ group_count t (Fixed width) * vlenb / (bits / 8)
  room =
      let fit : bits / 8 * vl ≤ group_count t (Fixed width) * vlenb =
      bytes_fit bits vl (group_count t (Fixed width) * vlenb) (group_room t (Fixed width) vlenb vl within) in
      le-div vl (group_count t (Fixed width) * vlenb) (bits / 8) (width_some width) (omega (arith, fit))

  -- a fact that is found speaks of each element below vl
  module _ (fact : VectorFact) (passes : is_source r first bits (group_count t (Fixed width)) fact ≡ true) where
    same_register : fact.register ≡ first
    unfolding is_source
    same_register = grind (arith, nat_tests, passes)

    same_width : fact.width ≡ bits
    unfolding is_source
    same_width = grind (arith, nat_tests, passes)

    same_count : fact.registers ≡ group_count t (Fixed width)
    unfolding is_source
    same_count = grind (arith, nat_tests, passes)

    counted : vl ≤ (if fact.count == 0 then vl else fact.count)
    unfolding is_source
    counted = by_test (fact.count == 0) refl
      where
        by_test : (b : Bool) → (fact.count == 0) ≡ b → vl ≤ (if b then vl else fact.count)
        by_test true e = omega arith
        by_test false e = (let most : r.hi ≤ fact.count = grind (arith, nat_tests, passes, e) in omega (arith, most, below))

    elements : elements_in vlenb fact ≡ group_count t (Fixed width) * vlenb / (bits / 8)
    elements =
        ap (λ (n : ℕ). n * vlenb / (fact.width / 8)) same_count
        ∙ ap (λ (n : ℕ). group_count t (Fixed width) * vlenb / (n / 8)) same_width

    spoken : (i : ℕ) → i < vl → i < count_of vlenb vl fact
    spoken i l = omega (arith, l, counted, elements, room)

    element_same : (i : ℕ) → fact_element vlenb file fact i ≡ element_at (bits / 8) (first * vlenb) file i
    element_same i =
        ap (λ (n : ℕ). element_at (n / 8) (fact.register * vlenb) file i) same_width
        ∙ ap (λ (n : ℕ). element_at (bits / 8) (n * vlenb) file i) same_register

    pub fact_lies : IsTrueOf vlenb vl file fact → (i : ℕ) → i < vl
        → (fact.low ≤ element_at (bits / 8) (first * vlenb) file i) × (element_at (bits / 8) (first * vlenb) file i ≤ fact.high)
    fact_lies is i l =
        subst (λ (x : ℕ). (fact.low ≤ x) × (x ≤ fact.high)) (element_same i) (is i (spoken i l))

  -- each element below vl lies in the range of the source
  pub source_lies : (facts : List VectorFact) → AllByRecursion (IsTrueOf vlenb vl file) facts → ((k : ℕ) → get_or file k 0 < 256)
      → (i : ℕ) → i < vl
      → ((source_range t r first (Fixed width) facts).lo ≤ element_at (bytes_of_width width) (first * vlenb) file i)
      × (element_at (bytes_of_width width) (first * vlenb) file i ≤ (source_range t r first (Fixed width) facts).hi)
  unfolding source_range
  source_lies facts true_of bytes i l =
      rw (full_width width) (by_found (find (is_source r first bits (group_count t (Fixed width))) facts) refl)
    where
      x : ℕ
      x = element_at (bytes_of_width width) (first * vlenb) file i

      by_found : (o : Option VectorFact) → find (is_source r first bits (group_count t (Fixed width))) facts ≡ o
          → ((option_map_or fact_range o (all_of_bits bits)).lo ≤ x) × (x ≤ (option_map_or fact_range o (all_of_bits bits)).hi)
      by_found None e = (omega arith, element_fits width (first * vlenb) file i bytes)
      by_found (Some fact) e =
          fact_lies fact (found_passes (is_source r first bits (group_count t (Fixed width))) facts fact e)
          (found_has (IsTrueOf vlenb vl file) (is_source r first bits (group_count t (Fixed width))) facts fact true_of e) i l
