-- Where the bytes of a vector load or store may lie, and its test: they have to lie in one zone.
-- Masks are ignored.
use Rattle.std.specs.Prelude.{ℕ, ◌+◌, ◌-◌, ◌*◌, ◌/◌, ◌^◌, ◌==◌, ◌%◌, nat_lt, nat_le, ◌&&◌, not, Bool, true, false, if◌then◌else◌, List, Option, Some, None, Result, Ok, Err}
use Rattle.abs_transfer.specs.Words.{Range, Linear, number_form, scaled, sum_of, within, range_of_form, Vtype, VectorFact}
use Rattle.linear_facts.specs.declared.ranges.End.{End}
use Rattle.linear_facts.specs.declared.ranges.End.TheVariants.{Lo, Hi}
use Rattle.linear_facts.specs.Ranges.{end_of}
use Rattle.rv_decode.specs.declared.extents.Eew.TheVariants.{Fixed}
use Rattle.rv_decode.specs.declared.instructions.Direction.{Direction}
use Rattle.rv_decode.specs.declared.instructions.Direction.TheVariants.{Load, Store}
use Rattle.rv_decode.specs.declared.instructions.Addressing.{Addressing}
use Rattle.rv_decode.specs.declared.instructions.Addressing.TheVariants as place
use Rattle.rv_decode.specs.declared.instructions.VMem.{VMem}
use Rattle.rv_decode.specs.Instructions.{bytes_of_width}
use Rattle.vreg_groups.specs.Legality.{whole_count}
use Rattle.abs_transfer.specs.declared.accesses.Reach.{Reach}
use Rattle.abs_domain.specs.declared.why.Why.{Why}
use Rattle.abs_domain.specs.declared.why.Why.TheVariants.{AccessNotProved}
use Rattle.abs_domain.specs.declared.zones.Zone.{Zone}
use Rattle.abs_domain.specs.Values.{ValueView, computed_range, known_of}
use Rattle.abs_domain.specs.Effects.{fitting}
use Rattle.abs_domain.specs.Zones.{load_allowed, store_allowed}
use Rattle.abs_domain.specs.Numbers.{NumbersView, table_of, value_at}
use Rattle.abs_transfer.specs.Facts.{source_range}

-- ---- sums in whole numbers

-- what a form of at most eight terms tells of a number that lies in an interval
abbrev pub met_with_form : NumbersView → Range → Option Linear → Range
met_with_form s interval None = interval
met_with_form s interval (Some f) =
    computed_range (Some interval) (range_of_form (table_of s) f)

-- An end of a sum, by interval arithmetic where that does not stay within 32 bits, and else by the
-- form too.
unfoldable pub sharpened : End → NumbersView → ℕ → Option Range → Linear → ℕ
sharpened end s whole None f = whole
sharpened end s whole (Some interval) f = end_of end (met_with_form s interval (within 8 f))

-- the form of `a + k * b + n`, with k and n as numbers modulo 2^32
unfoldable pub sum_form : Linear → ℕ → Linear → ℕ → Linear
sum_form a k b n = sum_of (sum_of a (scaled k b)) (number_form n)

-- the interval between two ends less a number, where it stays within 32 bits
unfoldable pub fitting_less : ℕ → ℕ → ℕ → Option Range
fitting_less lo hi less = if nat_le less lo then fitting 32 (lo - less) (hi - less) else None

-- ---- where bytes may lie

-- elements one after another from x on, as many as vl
unfoldable pub unit_reach : NumbersView → ℕ → ValueView → ValueView → Reach
unit_reach s size x vl =
    let lo = x.range.lo + size * vl.range.lo in
    let hi = x.range.hi + size * vl.range.hi in
    record {
      first = x.range.lo;
      end = sharpened Hi s hi (fitting 32 lo hi) (sum_form x.form size vl.form 0);
    }

-- elements a number of bytes apart that is not negative: the last one ends at
-- `x + k * vl - k + size`
unfoldable pub rising_reach : NumbersView → ℕ → ℕ → ValueView → ValueView → Reach
rising_reach s size k x vl =
    let lo = x.range.lo + k * vl.range.lo + size in
    let hi = x.range.hi + k * vl.range.hi + size in
    record {
      first = x.range.lo;
      end = sharpened Hi s (hi - k) (fitting_less lo hi k)
          (sum_form x.form k vl.form ((2 ^ 32 - k + size) % 2 ^ 32));
    }

-- elements k bytes apart downwards: the last one begins at `x - k * vl + k`, which
-- may not be below 0
unfoldable pub falling_reach : NumbersView → ℕ → ℕ → ValueView → ValueView → Option Reach
falling_reach s size k x vl =
    if nat_le (k * vl.range.hi) (x.range.lo + k)
    then Some record {
      first = sharpened Lo s (x.range.lo + k - k * vl.range.hi)
          (fitting 32 (x.range.lo + k - k * vl.range.hi) (x.range.hi + k - k * vl.range.lo))
          (sum_form x.form (2 ^ 32 - k) vl.form k);
      end = x.range.hi + size;
    }
    else None

-- a stride is a signed number of 32 bits, which is given by its bits
unfoldable pub strided_reach : NumbersView → ℕ → Option ℕ → ValueView → ValueView → Option Reach
strided_reach s size None x vl = None
strided_reach s size (Some n) x vl =
    if nat_lt n (2 ^ 31) then Some (rising_reach s size n x vl)
    else falling_reach s size (2 ^ 32 - n) x vl

-- elements as far from x as indices say
abbrev pub indexed_reach : ℕ → Range → Range → Reach
indexed_reach size x i = record { first = x.lo + i.lo; end = x.hi + i.hi + size }

unfoldable pub reach_at : ℕ → Vtype → NumbersView → List VectorFact → Addressing → ValueView
    → Option Reach
reach_at vlenb t s facts (place.Unit width masked) x =
    Some (unit_reach s (bytes_of_width width) x (value_at s 32))
reach_at vlenb t s facts (place.Strided width rs2 masked) x =
    strided_reach s (bytes_of_width width) (known_of (value_at s rs2).range) x (value_at s 32)
reach_at vlenb t s facts (place.Indexed width vs2 ordered masked) x =
    Some (indexed_reach (bytes_of_width t.sew) x.range
    (source_range t (value_at s 32).range vs2 (Fixed width) facts))
reach_at vlenb t s facts place.Mask x = Some record {
  first = x.range.lo;
  end = x.range.hi + ((value_at s 32).range.hi + 7) / 8;
}
reach_at vlenb t s facts (place.Whole width count) x = Some record {
  first = x.range.lo;
  end = x.range.hi + whole_count count * vlenb;
}

-- ---- the test

-- whole registers are moved whatever vl is
unfoldable pub is_whole : Addressing → Bool
is_whole (place.Unit width masked) = false
is_whole (place.Strided width rs2 masked) = false
is_whole (place.Indexed width vs2 ordered masked) = false
is_whole place.Mask = false
is_whole (place.Whole width count) = true

unfoldable pub reach_allowed : Direction → Option Reach → List Zone → Result (Unit {0}) Why
reach_allowed direction None zones = Err AccessNotProved
reach_allowed Load (Some reach) zones = load_allowed reach.first reach.end zones
reach_allowed Store (Some reach) zones = store_allowed reach.first reach.end zones

-- nothing is accessed where vl is known to be 0, but for whole registers
unfoldable pub transfer_check : ℕ → Vtype → NumbersView → List VectorFact → List Zone → VMem
    → Result (Unit {0}) Why
transfer_check vlenb t s facts zones insn =
    if not (is_whole insn.place) && ((value_at s 32).range.hi == 0) then Ok tt
    else reach_allowed insn.direction
    (reach_at vlenb t s facts insn.place (value_at s insn.rs1)) zones
