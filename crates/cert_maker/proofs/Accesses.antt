-- The accesses of a loop lie in their buffers.
use Rattle.std.proofs.Common.{◌≡◌, ℕ, ◌+◌, ◌-◌, ◌*◌, ◌^◌, ◌<◌, ◌≤◌, zero, suc, Bool, true, false, refl, ap, ◌∙◌, subst, arith, Some, List, [], ◌∷◌, ◌++◌, map, min, max}
use Rattle.std.specs.Prelude.{◌&&◌, unwrap_or, ◌==◌}
use Rattle.std.specs.List.{list_any, slice_get}
use Rattle.std.specs.Option.{option_to_list}
use Rattle.std.proofs.lemmas.Bool.{le-leb, lt-ltb, or_right, ne_eqb}
use Rattle.std.proofs.lemmas.List.Folds.{list_any-append}
use Rattle.linear_facts.specs.declared.ranges.Range.{Range}
use Rattle.linear_facts.specs.declared.forms.Term.{Term}
use Rattle.linear_facts.specs.Forms.{Linear, merged, scaled, sum_of, number_form, atom_form, within}
use Rattle.linear_facts.specs.Sums.{range_of_form}
use Rattle.linear_facts.specs.MergingLemmas.{merged-nil, merged-less, merged-left}
use Rattle.region_mem.specs.declared.faults.Right.{Right}
use Rattle.region_mem.specs.declared.parameter.Param.{Param}
use Rattle.region_mem.specs.declared.parameter.Param.TheVariants as parameter
use Rattle.region_mem.specs.declared.parameter.Mode.{Mode}
use Rattle.region_mem.specs.Parameter.{address_of}
use Rattle.abs_domain.specs.declared.zones.Zone.{Zone}
use Rattle.abs_domain.specs.Values.{ValueView, computed_range}
use Rattle.abs_domain.specs.Effects.{fitting}
use Rattle.abs_domain.specs.Numbers.{NumbersView, table_of}
use Rattle.abs_domain.specs.Zones.{zones_of, is_inside, spans, zone_right, buffer_zone, buffer_zones, segment_zone, stack_zone, may_write}
use Rattle.elf_image.specs.Image.{ImageView}
use Rattle.abs_transfer.specs.Accesses.{unit_reach, sum_form, sharpened, met_with_form}
use Rattle.linear_facts.specs.LoopForms.{term, IsSize, pointer_form, moved_form}
use Rattle.cert_maker.specs.Laws.{ReachesEnd}
use Rattle.cert_maker.proofs.Equalities.{sum_parts, scaled_atom}

-- ---- forms

-- the step of a pointer is added behind its terms
pub behind : (n e v a b c : ℕ) → n < v → e < v
    → merged (term n a ∷ term e b ∷ []) (term v c ∷ []) ≡ term n a ∷ term e b ∷ term v c ∷ []
behind n e v a b c l g =
    merged-less (term n a) (term v c) (term e b ∷ []) [] l
    ∙ ap (λ (ts : List Term). term n a ∷ ts) (merged-less (term e b) (term v c) [] [] g
    ∙ ap (λ (ts : List Term). term e b ∷ ts) (merged-left (term v c ∷ [])))

plus_zero : (base : ℕ) (ts : List Term) → base < 2 ^ 32
    → sum_of (record { constant = base; terms = ts }) (number_form 0) ≡ record { constant = base; terms = ts }
plus_zero base ts l =
    sum_parts base 0 ts [] ts (omega (arith, l)) (merged-nil ts)
    ∙ ap (λ (c : ℕ). record { constant = c; terms = ts }) (omega arith)

-- a pointer and its step
pub moved_is : (base w n e v : ℕ) → IsSize w → base < 2 ^ 32 → n < e → e < v
    → sum_of (pointer_form base w n e) (scaled w (atom_form v)) ≡ moved_form base w n e v
moved_is base w n e v size small l g =
    ap (sum_of (pointer_form base w n e)) (scaled_atom w v size)
    ∙ (sum_parts base 0 (term n (2 ^ 32 - w) ∷ term e w ∷ []) (term v w ∷ []) _ (omega (arith, small)) (behind n e v (2 ^ 32 - w) w w (omega (arith, l, g)) g)
    ∙ ap (λ (c : ℕ). record { constant = c; terms = term n (2 ^ 32 - w) ∷ term e w ∷ term v w ∷ [] }) (omega arith))

reach_form : (base w n e v : ℕ) → IsSize w → base < 2 ^ 32 → n < e → e < v
    → sum_form (pointer_form base w n e) w (atom_form v) 0 ≡ moved_form base w n e v
unfolding sum_form
reach_form base w n e v size small l g =
    ap (λ (f : Linear). sum_of f (number_form 0)) (moved_is base w n e v size small l g) ∙ plus_zero base _ small

-- ---- ranges

pub not_zero : (p : ℕ) → 0 < p → (p == 0) ≡ false
not_zero p l = ne_eqb p 0 (λ e. omega (arith, e, l))

abbrev pub span : ℕ → ℕ → Range
span lo hi = record { lo = lo; hi = hi }

pub spans_same : (a b c d : ℕ) → a ≡ c → b ≡ d → span a b ≡ span c d
spans_same a b c d e f = rw (e, f) refl

-- where an interval and a form's range meet, the lesser upper end counts
pub met_high : (lo hi p q : ℕ) → max lo p ≤ min hi q
    → computed_range (Some record { lo = lo; hi = hi }) (Some record { lo = p; hi = q }) ≡ record { lo = max lo p; hi = min hi q }
unfolding computed_range
met_high lo hi p q l = rw (le-leb (max lo p) (min hi q) l) refl

-- what is known of the numbers of an access
pub record IsThere (s : NumbersView) (base w n e v N m p : ℕ) (x vl : ValueView) : Type 0 where
  pub size : IsSize w
  pub first : n < e
  pub second : e < v
  pub form : x.form ≡ pointer_form base w n e
  pub range : x.range ≡ record { lo = base; hi = base + w * N - w }
  pub vl_form : vl.form ≡ atom_form v
  pub vl_range : vl.range ≡ record { lo = 1; hi = m }
  pub moved : range_of_form (table_of s) (moved_form base w n e v) ≡ Some record { lo = p; hi = base + w * N }
  pub low : p ≤ base + w * N
  pub some : 1 ≤ m
  pub most : m ≤ N
  pub fits : base + w * N + w * N < 2 ^ 32

module _ (s : NumbersView) (base w n e v N m p : ℕ) (x vl : ValueView) (is : IsThere s base w n e v N m p x vl)
    (a : w ≤ w * m) (b : w * m ≤ w * N) where
  met : met_with_form s record { lo = base + w * 1; hi = base + w * N - w + w * m } (within 8 (moved_form base w n e v))
      ≡ record { lo = max (base + w * 1) p; hi = min (base + w * N - w + w * m) (base + w * N) }
  unfolding within
  met = rw is.moved (met_high (base + w * 1) (base + w * N - w + w * m) p (base + w * N) (omega (arith, a, b, is.low)))

  fitted : fitting 32 (base + w * 1) (base + w * N - w + w * m) ≡ Some record { lo = base + w * 1; hi = base + w * N - w + w * m }
  fitted = rw (lt-ltb (base + w * 1) (2 ^ 32) (omega (arith, a, b, is.fits)), lt-ltb (base + w * N - w + w * m) (2 ^ 32) (omega (arith, a, b, is.fits))) refl

  -- the elements of an access end within the buffer
  pub reach_is : unit_reach s w x vl ≡ record { first = base; end = min (base + w * N - w + w * m) (base + w * N) }
  unfolding unit_reach sharpened
  reach_is =
      rw (is.form, is.range, is.vl_form, is.vl_range, reach_form base w n e v is.size (omega (arith, is.fits)) is.first is.second, fitted)
      (ap (λ (r : Range). record { first = base; end = r.hi }) met)

-- ---- zones

-- the zone of a buffer is among the others
module _ (params : List Param) (p : Zone → Bool) where
  any_buffer : (from place : ℕ) (rest : List Param) (zone : Zone) (param : Param) → slice_get rest place ≡ Some param
      → buffer_zone params (from + place) param ≡ Some zone → p zone ≡ true → list_any p (buffer_zones params from rest) ≡ true
  unfolding buffer_zones
  any_buffer from place [] zone param e f h = cc
  any_buffer from zero (x ∷ rest) zone param e f h =
      let here : x ≡ param = same x param e in
      let there : from + 0 ≡ from = omega arith in
      let at : buffer_zone params from x ≡ Some zone = rw here (subst (λ (k : ℕ). buffer_zone params k param ≡ Some zone) there f) in
      list_any-append p (option_to_list (buffer_zone params from x)) (buffer_zones params (from + 1) rest)
      ∙ (rw at (rw h refl))
    where
      same : (a b : Param) → Some a ≡ Some b → a ≡ b
      same a b e = cc
  any_buffer from (suc place) (x ∷ rest) zone param e f h =
      let there : from + suc place ≡ from + 1 + place = omega arith in
      list_any-append p (option_to_list (buffer_zone params from x)) (buffer_zones params (from + 1) rest)
      ∙ or_right (list_any p (option_to_list (buffer_zone params from x))) _
      (any_buffer (from + 1) place rest zone param e (subst (λ (k : ℕ). buffer_zone params k param ≡ Some zone) there f) h)

-- the buffer at a place has room from its address on, and may be read, and written where its mode says so
pub buffer_inside : (image : ImageView) (params : List Param) (right : Right) (place base end size : ℕ) (access : Mode)
    → slice_get params place ≡ Some (parameter.Buffer access size) → address_of place params ≡ Some base → end ≤ base + size
    → zone_right right record { first = base; end = base + size; read = true; write = may_write access } ≡ true
    → is_inside right base end (zones_of image params) ≡ true
unfolding is_inside zones_of spans buffer_zone
buffer_inside image params right place base end size access e at le may =
    let p = λ (zone : Zone). spans base end zone && zone_right right zone in
    let zone : Zone = record { first = base; end = base + size; read = true; write = may_write access } in
    list_any-append p (map segment_zone image.segments ++ stack_zone ∷ []) (buffer_zones params 0 params)
    ∙ or_right (list_any p (map segment_zone image.segments ++ stack_zone ∷ [])) _
    (any_buffer params p 0 place params zone (parameter.Buffer access size) e zone_is inside)
  where
    of : ℕ → Zone
    of first = record { first = first; end = first + size; read = true; write = may_write access }

    zone_is : buffer_zone params (0 + place) (parameter.Buffer access size) ≡ Some (of base)
    zone_is =
        let there : place ≡ 0 + place = omega arith in
        subst (λ (k : ℕ). Some (of (unwrap_or (address_of k params) 0)) ≡ Some (of base)) there (rw at refl)

    inside : (spans base end (of base) && zone_right right (of base)) ≡ true
    inside = rw (le-leb base base (omega arith), le-leb end (base + size) le, may) refl

pub reaches-end : ReachesEnd
reaches-end = λ image params right place base end size access e at le may. buffer_inside image params right place base end size access e at le may
