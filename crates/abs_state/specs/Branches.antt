-- The ways out of an instruction, and what a branch says of the numbers that it compares.
use Rattle.std.specs.Prelude.{ℕ, ◌+◌, ◌-◌, ◌^◌, ◌==◌, Bool, true, false, nat_le, nat_lt, ◌&&◌, min, max, if◌then◌else◌, List, slice_set, slice_index_or, Option, Some, None}
use Rattle.std.specs.Option.{option_map, option_and_then}
use Rattle.abs_state.specs.Words.{Range, AtomTable, meet_of, range_of_form}
use Rattle.linear_facts.specs.declared.ranges.Change.{Change}
use Rattle.rv_decode.specs.declared.instructions.Condition.{Condition}
use Rattle.rv_decode.specs.declared.instructions.Condition.TheVariants.{Eq, Ne, Lt, Ge, Ltu, Geu}
use Rattle.abs_state.specs.declared.state.Way.{Way}
use Rattle.abs_state.specs.declared.state.Way.TheVariants.{To, Unknown, Fork}
use Rattle.abs_state.specs.declared.branches.Relation.{Relation}
use Rattle.abs_state.specs.declared.branches.Said.{Said}
use Rattle.abs_state.specs.declared.branches.Relation.TheVariants as is
use Rattle.abs_domain.specs.Values.{ValueView, just, computed_range}
use Rattle.abs_domain.specs.Numbers.{value_at, whole_atom}
use Rattle.abs_state.specs.State.{AbstractView}

-- ---- what two numbers in a relation say of each other

-- a signed relation says something where both numbers are below 2^31, where it is the unsigned one
abbrev pub if_small : Range → Range → Relation → Option Relation
if_small a b relation =
    if nat_lt a.hi (2 ^ 31) && nat_lt b.hi (2 ^ 31) then Some relation else None

-- how rs1 stands to rs2 where a branch is taken, or isn't
unfoldable pub relation_of : Condition → Bool → Range → Range → Option Relation
relation_of Eq true a b = Some is.Same
relation_of Eq false a b = Some is.Different
relation_of Ne true a b = Some is.Different
relation_of Ne false a b = Some is.Same
relation_of Lt true a b = if_small a b is.Below
relation_of Lt false a b = if_small a b is.NotBelow
relation_of Ge true a b = if_small a b is.NotBelow
relation_of Ge false a b = if_small a b is.Below
relation_of Ltu true a b = Some is.Below
relation_of Ltu false a b = Some is.NotBelow
relation_of Geu true a b = Some is.NotBelow
relation_of Geu false a b = Some is.Below

-- the range, where it is not empty
abbrev pub filled_range : ℕ → ℕ → Option Range
filled_range lo hi = if nat_le lo hi then Some record { lo = lo; hi = hi } else None

abbrev pub both_ranges : Option Range → Option Range → Option (Range × Range)
both_ranges None b = None
both_ranges (Some a) None = None
both_ranges (Some a) (Some b) = Some (a, b)

-- the range without the number, where that is one of its ends
unfoldable pub without_end : ℕ → Range → Option Range
without_end n a =
    filled_range (if a.lo == n then a.lo + 1 else a.lo) (if a.hi == n then a.hi - 1 else a.hi)

-- the range without the other's number, where the other has just one
unfoldable pub apart_from : Range → Range → Option Range
apart_from b a = if b.lo == b.hi then without_end b.lo a else Some a

-- the ranges of two numbers that stand in this relation; none where no two numbers of
-- these ranges do
unfoldable pub related_ranges : Relation → Range → Range → Option (Range × Range)
related_ranges is.Same a b = both_ranges (meet_of a b) (meet_of a b)
related_ranges is.Different a b = both_ranges (apart_from b a) (apart_from a b)
related_ranges is.Below a b =
    if b.hi == 0 then None
    else both_ranges (filled_range a.lo (min a.hi (b.hi - 1)))
    (filled_range (max b.lo (a.lo + 1)) b.hi)
related_ranges is.NotBelow a b =
    both_ranges (filled_range (max a.lo b.lo) a.hi) (filled_range b.lo (min b.hi a.hi))

-- ---- edges

-- What is known on the way from one instruction to another: the state, and in place of two atoms'
-- ranges and of those of registers, which a branch tells more of, their new ones. The target, if it
-- is known. The branch, if the edge is one of its two.
pub record EdgeView : Type 0 where
  pub state : AbstractView
  pub ranges : List Range
  pub first : Option Change
  pub second : Option Change
  pub refined : Bool
  pub target : Option ℕ
  pub said : Option Said

-- an edge that the state says all of
abbrev pub plain_edge : AbstractView → Option ℕ → EdgeView
plain_edge a target = record {
  state = a;
  ranges = a.numbers.ranges;
  first = None;
  second = None;
  refined = false;
  target = target;
  said = None;
}

-- an atom has this range
abbrev pub change_to : Range → ℕ → Change
change_to r a = record { atom = a; range = r }

-- the range of one atom, in two places
abbrev pub one_change : ℕ → Option Range → Option (Option Change × Option Change)
one_change a None = None
one_change a (Some r) = Some (Some (change_to r a), None)

-- the ranges of the atoms that the two compared forms are; none where one atom has no number left
unfoldable pub changes_of : Option ℕ → Range → Option ℕ → Range
    → Option (Option Change × Option Change)
changes_of (Some a) p (Some b) q =
    if a == b then one_change a (meet_of p q) else Some (Some (change_to p a), Some (change_to q b))
changes_of (Some a) p None q = Some (Some (change_to p a), None)
changes_of None p second q = Some (None, option_map (change_to q) second)

abbrev pub edge_with : ℕ → AbstractView → List Range → Option Change × Option Change → EdgeView
edge_with target a ranges (first, second) = record {
  state = a;
  ranges = ranges;
  first = first;
  second = second;
  refined = true;
  target = Some target;
  said = None;
}

-- the edge where rs1 and rs2 have these ranges
unfoldable pub edge_in : ℕ → ℕ → ℕ → AbstractView → Range × Range → Option EdgeView
edge_in rs1 rs2 target a (p, q) =
    option_map (edge_with target a (slice_set (slice_set a.numbers.ranges rs1 p) rs2 q))
    (changes_of (whole_atom (value_at a.numbers rs1).form) p
    (whole_atom (value_at a.numbers rs2).form) q)

-- the edge where rs1 and rs2 stand in a relation, if one is known
unfoldable pub related_edge : Option Relation → ℕ → ℕ → ℕ → AbstractView → Option EdgeView
related_edge None rs1 rs2 target a = Some (plain_edge a (Some target))
related_edge (Some relation) rs1 rs2 target a =
    option_and_then (edge_in rs1 rs2 target a)
    (related_ranges relation (value_at a.numbers rs1).range (value_at a.numbers rs2).range)

-- the edge, with the branch that it belongs to
abbrev pub with_said : Said → EdgeView → EdgeView
with_said said e = record e { said = Some said }

-- the edge of a branch, taken or not. A register says nothing of itself.
unfoldable pub branch_edge : Bool → Condition → ℕ → ℕ → ℕ → AbstractView → Option EdgeView
branch_edge taken condition rs1 rs2 target a =
    option_map (with_said record { condition = condition; rs1 = rs1; rs2 = rs2; taken = taken })
    (related_edge
    (if rs1 == rs2 then None
    else relation_of condition taken (value_at a.numbers rs1).range (value_at a.numbers rs2).range)
    rs1 rs2 target a)

unfoldable pub edge_by : Bool → AbstractView → Way → Option EdgeView
edge_by taken a (To target) = Some (plain_edge a (Some target))
edge_by taken a Unknown = Some (plain_edge a None)
edge_by taken a (Fork condition rs1 rs2 there next) =
    branch_edge taken condition rs1 rs2 (if taken then there else next) a

-- The edge out of the last instruction that was taken, for a branch where it is taken or where it
-- isn't; none where it can't come to that.
unfoldable pub refined : Bool → AbstractView → Option EdgeView
refined taken a = edge_by taken a a.way

-- ---- numbers on an edge

-- what is known of the atoms
abbrev pub table_on : EdgeView → AtomTable
table_on e = record { atoms = e.state.numbers.atoms; first = e.first; second = e.second }

-- what is known of a register or of vl (32); a range is met with that of its form, which the atoms'
-- new ranges may change
unfoldable pub value_on : EdgeView → ℕ → ValueView
value_on e i =
    let form = (value_at e.state.numbers i).form in
    let own = slice_index_or e.ranges i (just 0) in
    record {
      form = form;
      range =
          if e.refined then computed_range (Some own) (range_of_form (table_on e) form) else own;
    }
