-- What lies in a zone is permitted, and what is allowed lies in one; what stores keep of memory.
use Rattle.std.proofs.Common.{◌≡◌, ◌<◌, ◌≤◌, ◌+◌, ◌^◌, ℕ, zero, suc, Bool, true, false, arith, refl, sym, ap, ◌∙◌, subst, List, [], ◌∷◌, map, length}
use Rattle.std.specs.Prelude.{◌&&◌, nat_le, if◌then◌else◌, Some, Result, Ok, Err}
use Rattle.std.specs.List.{list_any, list_all, range_with_len}
use Rattle.std.proofs.lemmas.Bool.{and_parts, or_left, or_right, and_from, leb-true, le-leb, lt-ltb}
use Rattle.region_mem.specs.declared.faults.Right.{Right}
use Rattle.region_mem.specs.declared.faults.Right.TheVariants.{Read, Write, Fetch}
use Rattle.region_mem.specs.Areas.{Area, AreInside, holds, has_right, is_open, is_open_from}
use Rattle.region_mem.specs.Memory.{Memory, is_permitted, store_of}
use Rattle.abs_domain.specs.Zones.{zone_of, spans, zone_right, is_inside, load_allowed, store_allowed}
use Rattle.region_mem.specs.Laws.{Extent, extent_of}
use Rattle.region_mem.specs.ByteLemmas.{stores_keep_bytes}
use Rattle.region_mem.specs.ExtentLemmas.{stores_keep_extents}
use Rattle.region_mem.specs.KeptCodeLemmas.{stores_keep_code}
use Rattle.abs_domain.specs.declared.why.Why.{Why}
use Rattle.abs_domain.specs.declared.why.Why.TheVariants.{AccessNotProved, ReadOnly}
use Rattle.abs_domain.specs.declared.zones.Zone.{Zone}
use Rattle.abs_domain.specs.Memories.{KeepsMemory}
use Rattle.abs_domain.specs.Memories.{HasZones, StoresKeepZones, ZonesArePermitted}

-- each address from first on and below end is open, and none is past the last one
record IsOpen (right : Right) (first end : ℕ) (areas : List Area) : Type 0 where
  low : end ≤ 2 ^ 32
  each : (x : ℕ) → first ≤ x → x < end → is_open right areas x ≡ true

-- the right of a zone is that of its area
right_is : (right : Right) (area : Area) → zone_right right (zone_of area) ≡ true → has_right right area ≡ true
unfolding zone_right has_right
right_is Read area e = e
right_is Write area e = e
right_is Fetch area e = cc

-- an address of a zone with the right is open in its area
here : (right : Right) (first end : ℕ) (area : Area) → spans first end (zone_of area) ≡ true → zone_right right (zone_of area) ≡ true
    → (x : ℕ) → first ≤ x → x < end → (holds x area && has_right right area) ≡ true
unfolding spans holds
here right first end area e f x l h =
    let low : area.first ≤ first = leb-true area.first first (and_parts (nat_le area.first first) (nat_le end (area.first + length area.bytes)) e).0 in
    let high : end ≤ area.first + length area.bytes = leb-true end (area.first + length area.bytes) (and_parts (nat_le area.first first) (nat_le end (area.first + length area.bytes)) e).1 in
    and_from _ _
    (and_from _ _ (le-leb area.first x (omega (arith, low, l))) (lt-ltb x (area.first + length area.bytes) (omega (arith, high, h))))
    (right_is right area f)

here_end : (first end : ℕ) (area : Area) → spans first end (zone_of area) ≡ true → area.first + length area.bytes ≤ 2 ^ 32 → end ≤ 2 ^ 32
unfolding spans
here_end first end area e l =
    let high : end ≤ area.first + length area.bytes = leb-true end (area.first + length area.bytes) (and_parts (nat_le area.first first) (nat_le end (area.first + length area.bytes)) e).1 in
    omega (arith, high, l)

zone_open : (right : Right) (first end : ℕ) (areas : List Area) → AreInside areas
    → list_any (λ z. spans first end z && zone_right right z) (map zone_of areas) ≡ true → IsOpen right first end areas
unfolding AreInside is_open
zone_open right first end [] are e = cc
zone_open right first end (area ∷ areas) are e =
    by_case (spans first end (zone_of area) && zone_right right (zone_of area)) refl (λ f. zone_open right first end areas are.1 f)
  where
    Rest : Type 0
    Rest = list_any (λ z. spans first end z && zone_right right z) (map zone_of areas) ≡ true → IsOpen right first end areas

    by_case : (b : Bool) → (spans first end (zone_of area) && zone_right right (zone_of area)) ≡ b → Rest → IsOpen right first end (area ∷ areas)
    by_case true f more = record {
      low = here_end first end area (and_parts _ _ f).0 are.0;
      each = λ x l g. or_left _ _ (here right first end area (and_parts _ _ f).0 (and_parts _ _ f).1 x l g);
    }
    by_case false f more =
        let rest : IsOpen right first end areas = more (rw f at e) in
        record { low = rest.low; each = λ x l g. or_right _ _ (rest.each x l g) }

all_open : (right : Right) (first end : ℕ) (areas : List Area) (a n : ℕ) → IsOpen right first end areas → first ≤ a → a + n ≤ end
    → list_all (is_open right areas) (range_with_len a n) ≡ true
all_open right first end areas a zero o l g = refl
all_open right first end areas a (suc n) o l g =
    rw (o.each a l (omega arith)) (all_open right first end areas (a + 1) n o (omega arith) (omega arith))

-- what lies in a zone with the right is permitted
pub inside_permitted : ZonesArePermitted
unfolding is_inside is_permitted is_open_from
inside_permitted right first end zones m a n has e l g =
    let o : IsOpen right first end m.areas = zone_open right first end m.areas has.inside (has.there _ e) in
    and_from _ _ (le-leb (a + n) (2 ^ 32) (omega (arith, o.low, g))) (all_open right first end m.areas a n o l g)

-- what lies in a zone is not past the last address
pub inside_fits : (right : Right) (first end : ℕ) (zones : List Zone) (m : Memory) → HasZones zones m
    → is_inside right first end zones ≡ true → end ≤ 2 ^ 32
unfolding is_inside
inside_fits right first end zones m has e = (zone_open right first end m.areas has.inside (has.there _ e)).low

-- ---- stores

-- the zone of an area, by where it lies and its rights
abbrev zone_in : Extent → Zone
zone_in e = record { first = e.first; end = e.first + e.size; read = e.read; write = e.write }

zones_by : (areas : List Area) → map zone_of areas ≡ map zone_in (map extent_of areas)
unfolding extent_of
zones_by [] = refl
zones_by (area ∷ areas) = ap (λ (zs : List Zone). zone_of area ∷ zs) (zones_by areas)

abbrev InsideBy : List Extent → Type 0
InsideBy [] = Unit {0}
InsideBy (e ∷ es) = (e.first + e.size ≤ 2 ^ 32) × InsideBy es

to_extents : (areas : List Area) → AreInside areas → InsideBy (map extent_of areas)
unfolding AreInside extent_of
to_extents [] h = tt
to_extents (area ∷ areas) h = (h.0, to_extents areas h.1)

from_extents : (areas : List Area) → InsideBy (map extent_of areas) → AreInside areas
unfolding AreInside extent_of
from_extents [] h = tt
from_extents (area ∷ areas) h = (h.0, from_extents areas h.1)

-- a memory whose areas lie in the same places with the same rights has the same zones
zones_kept : (zones : List Zone) (m stored : Memory) → map extent_of stored.areas ≡ map extent_of m.areas → HasZones zones m → HasZones zones stored
zones_kept zones m stored e has =
    let same : map zone_of stored.areas ≡ map zone_of m.areas =
    zones_by stored.areas ∙ (ap (λ (es : List Extent). map zone_in es) e ∙ sym (zones_by m.areas)) in
    record {
      inside = from_extents stored.areas (subst (λ (es : List Extent). InsideBy es) (sym e) (to_extents m.areas has.inside));
      there = λ p f. subst (λ (zs : List Zone). list_any p zs ≡ true) (sym same) (has.there p f);
    }

-- a store keeps the zones
pub stores_kept : StoresKeepZones
stores_kept address n value zones m stored has e = zones_kept zones m stored (stores_keep_extents address n value m stored e).0 has

-- what a step keeps of memory is kept where it stays, and by a store
pub nothing_changes : (m : Memory) → KeepsMemory m m
nothing_changes m = record { zones = λ zones has. has; code = λ safe. (safe, λ pc. refl); bytes = λ are. are }

pub store_keeps : (address n x : ℕ) (m stored : Memory) → store_of address n x m ≡ Some stored → KeepsMemory m stored
store_keeps address n x m stored e =
    record {
      zones = λ zones has. stores_kept address n x zones m stored has e;
      code = λ safe. stores_keep_code address n x m stored safe e;
      bytes = λ are. stores_keep_bytes address n x m stored are e;
    }

-- ---- tests

-- what is allowed lies inside a zone
inside_if : (t : Bool) (other : Result (Unit {0}) Why) (u : Unit {0}) → (other ≡ Ok u → false ≡ true) → (if t then Ok tt else other) ≡ Ok u
    → t ≡ true
inside_if true other u never e = refl
inside_if false other u never e = never e

pub load_inside : (first end : ℕ) (zones : List Zone) (u : Unit {0}) → load_allowed first end zones ≡ Ok u → is_inside Read first end zones ≡ true
unfolding load_allowed
load_inside first end zones u e = inside_if (is_inside Read first end zones) (Err AccessNotProved) u (λ f. cc) e

pub store_inside : (first end : ℕ) (zones : List Zone) (u : Unit {0}) → store_allowed first end zones ≡ Ok u → is_inside Write first end zones ≡ true
unfolding store_allowed
store_inside first end zones u e =
    inside_if (is_inside Write first end zones) _ u (refused (list_any (spans first end) zones)) e
  where
    refused : (k : Bool) → (if k then Err ReadOnly else Err AccessNotProved) ≡ Ok u → false ≡ true
    refused true f = cc
    refused false f = cc
