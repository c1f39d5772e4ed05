-- What an edge has to show of the block that it leads to, in the order in which it is tested.
use Rattle.std.specs.Prelude.{ℕ, ◌+◌, ◌*◌, ◌==◌, Bool, true, false, nat_le, ◌&&◌, ◌||◌, if◌then◌else◌, List, [], ◌∷◌, unwrap_or, Option, Some, None, Result, Ok, Err}
use Rattle.std.specs.List.{list_all, list_any}
use Rattle.std.specs.Option.{option_map_or}
use Rattle.linear_facts.specs.declared.forms.Term.{Term}
use Rattle.abs_state.specs.Words.{Range, Linear, AtomTable, exit, Budget, Equality, RegisterFact, VectorFact, OrderFact, Block}
use Rattle.linear_facts.specs.Forms.{substituted}
use Rattle.linear_facts.specs.Differences.{Product, is_at_least_of, is_not_less_of}
use Rattle.rv_decode.specs.declared.instructions.Condition.{Condition}
use Rattle.rv_decode.specs.declared.instructions.Condition.TheVariants.{Eq, Ne, Lt, Ge, Ltu, Geu}
use Rattle.abs_state.specs.declared.branches.Said.{Said}
use Rattle.abs_domain.specs.declared.why.Why.{Why}
use Rattle.abs_domain.specs.declared.why.Why.TheVariants.{VtypeUnknown, TargetNotABlock, IntervalNotProved, EqualityNotProved, OrderNotProved, VectorFactNotProved, BudgetNotProved}
use Rattle.abs_domain.specs.Values.{ValueView}
use Rattle.abs_domain.specs.Starts.{equality_form}
use Rattle.abs_state.specs.Branches.{EdgeView, table_on, value_on}

-- ---- registers and vl

-- the two forms are one
unfoldable pub are_same_terms : List Term → List Term → Bool
are_same_terms [] [] = true
are_same_terms [] (u ∷ us) = false
are_same_terms (t ∷ ts) [] = false
are_same_terms (t ∷ ts) (u ∷ us) =
    (t.atom == u.atom) && (t.coefficient == u.coefficient) && are_same_terms ts us

unfoldable pub is_same : Linear → Linear → Bool
is_same f g = (f.constant == g.constant) && are_same_terms f.terms g.terms

-- the interval of the fact is shown
unfoldable pub is_interval_shown : EdgeView → RegisterFact → Bool
is_interval_shown e fact =
    let r = (value_on e fact.number).range in nat_le fact.low r.lo && nat_le r.hi fact.high

-- the sum of an equality, with registers and vl as they are now, is the number's form
unfoldable pub is_sum_shown : EdgeView → ℕ → Equality → Bool
is_sum_shown e number equality =
    is_same (substituted e.state.numbers.forms (equality_form equality)) (value_on e number).form

-- the equality of the fact is shown, if it has one
unfoldable pub is_equality_shown : EdgeView → RegisterFact → Bool
is_equality_shown e fact = option_map_or (is_sum_shown e fact.number) fact.equality true

-- ---- orders

-- two registers are a lesser and a greater one
abbrev pub are_these : ℕ → ℕ → ℕ → ℕ → Bool
are_these rs1 rs2 lesser greater = (rs1 == lesser) && (rs2 == greater)

-- a branch on rs1 and rs2, taken or not, says that the lesser register's number is at most
-- the greater one's
unfoldable pub says_order : Condition → Bool → ℕ → ℕ → ℕ → ℕ → Bool
says_order Eq true rs1 rs2 lesser greater =
    are_these rs1 rs2 lesser greater || are_these rs2 rs1 lesser greater
says_order Eq false rs1 rs2 lesser greater = false
says_order Ne true rs1 rs2 lesser greater = false
says_order Ne false rs1 rs2 lesser greater =
    are_these rs1 rs2 lesser greater || are_these rs2 rs1 lesser greater
says_order Lt taken rs1 rs2 lesser greater = false
says_order Ge taken rs1 rs2 lesser greater = false
says_order Ltu true rs1 rs2 lesser greater = are_these rs1 rs2 lesser greater
says_order Ltu false rs1 rs2 lesser greater = are_these rs2 rs1 lesser greater
says_order Geu true rs1 rs2 lesser greater = are_these rs2 rs1 lesser greater
says_order Geu false rs1 rs2 lesser greater = are_these rs1 rs2 lesser greater

abbrev pub tells_order : OrderFact → Said → Bool
tells_order order said =
    says_order said.condition said.taken said.rs1 said.rs2 order.lesser order.greater

-- an order is shown: by the ranges, by the difference of the forms, or by the branch
unfoldable pub is_order_shown : EdgeView → OrderFact → Bool
is_order_shown e order =
    nat_le (value_on e order.lesser).range.hi (value_on e order.greater).range.lo
    || is_not_less_of (table_on e) (value_on e order.greater).form (value_on e order.lesser).form
    || option_map_or (tells_order order) e.said false

-- ---- vector registers

-- a fact speaks of as many elements as another one, where vl lies in this range; a count of
-- 0 stands for vl
unfoldable pub covers : Range → ℕ → ℕ → Bool
covers vl known wanted =
    if known == 0 then (wanted == 0) || nat_le wanted vl.lo
    else (if wanted == 0 then nat_le vl.hi known else nat_le wanted known)

-- a fact says what another one does
unfoldable pub says : Range → VectorFact → VectorFact → Bool
says vl wanted known =
    (known.register == wanted.register) && (known.width == wanted.width)
    && (known.registers == wanted.registers) && nat_le wanted.low known.low
    && nat_le known.high wanted.high && covers vl known.count wanted.count

unfoldable pub is_vector_shown : EdgeView → VectorFact → Bool
is_vector_shown e wanted = list_any (says (value_on e 32).range wanted) e.state.groups

-- ---- the budget

-- a number, and multiples of two others
pub record Total : Type 0 where
  pub constant : ℕ
  pub factor : ℕ
  pub number : ValueView
  pub second_factor : ℕ
  pub second_number : ValueView

-- what it comes to where both numbers are at the lower ends of their ranges, and at the upper ones
abbrev pub least_of : Total → ℕ
least_of t = t.constant + t.factor * t.number.range.lo + t.second_factor * t.second_number.range.lo

abbrev pub most_of : Total → ℕ
most_of t = t.constant + t.factor * t.number.range.hi + t.second_factor * t.second_number.range.hi

abbrev pub products_of : Total → List Product
products_of t =
    record { factor = t.factor; form = t.number.form }
    ∷ record { factor = t.second_factor; form = t.second_number.form } ∷ []

-- one total is at least the next one, by the ends of their ranges, or by the
-- difference of their forms
unfoldable pub is_paid : AtomTable → Total → Total → Bool
is_paid table own next =
    nat_le (most_of next) (least_of own)
    || is_at_least_of table own.constant (products_of own) next.constant (products_of next)

-- what the block's budget came to at its start
abbrev pub own_total : EdgeView → Budget → Total
own_total e own = record {
  constant = own.constant;
  factor = own.factor;
  number = e.state.paid;
  second_factor = own.second_factor;
  second_number = e.state.second_paid;
}

-- what was taken, and what the next budget comes to now
abbrev pub next_total : EdgeView → Budget → Total
next_total e next = record {
  constant = e.state.words + next.constant;
  factor = next.factor;
  number = value_on e next.register;
  second_factor = next.second_factor;
  second_number = value_on e next.second_register;
}

abbrev pub no_budget : Budget
no_budget =
    record { constant = 0; factor = 0; register = 0; second_factor = 0; second_register = 0 }

-- the budget of the block pays for what was taken and for the next block's, if there is one
unfoldable pub pays : EdgeView → Budget → Option Budget → Bool
pays e own next =
    is_paid (table_on e) (own_total e own) (next_total e (unwrap_or next no_budget))

-- on the way from the entry nothing has been taken
unfoldable pub is_paid_for : EdgeView → Option Budget → Option Budget → Bool
is_paid_for e None next = true
is_paid_for e (Some own) next = pays e own next

-- ---- all of it

abbrev pub Shown : Type 0
Shown = Result (Unit {0}) Why

abbrev pub shown_or : Why → Bool → Shown
shown_or why shown = if shown then Ok tt else Err why

abbrev pub and_then : Shown → Shown → Shown
and_then (Ok done) next = next
and_then (Err why) next = Err why

-- the vector type that a block states is the one that is known
unfoldable pub is_vtype_shown : Option ℕ → Option ℕ → Bool
is_vtype_shown known None = true
is_vtype_shown None (Some wanted) = false
is_vtype_shown (Some known) (Some wanted) = known == wanted

abbrev pub leads_to : EdgeView → ℕ → Bool
leads_to e address = option_map_or (λ target. target == address) e.target false

unfoldable pub implies_block : EdgeView → Block → Shown
implies_block e block =
    and_then (shown_or TargetNotABlock (leads_to e block.start))
    (and_then (shown_or VtypeUnknown (is_vtype_shown e.state.vtype block.vtype))
    (and_then (shown_or IntervalNotProved (list_all (is_interval_shown e) block.registers.items))
    (and_then (shown_or EqualityNotProved (list_all (is_equality_shown e) block.registers.items))
    (and_then (shown_or OrderNotProved (list_all (is_order_shown e) block.orders.items))
    (and_then (shown_or VectorFactNotProved (list_all (is_vector_shown e) block.vectors.items))
    (shown_or BudgetNotProved (is_paid_for e e.state.budget (Some block.budget))))))))

unfoldable pub implies_end : EdgeView → Shown
implies_end e =
    and_then (shown_or TargetNotABlock (leads_to e exit))
    (shown_or BudgetNotProved (is_paid_for e e.state.budget None))

-- the answer of an edge to a block, or to the end of the run where no block begins at its target
unfoldable pub implied_by : EdgeView → Option Block → Shown
implied_by e (Some block) = implies_block e block
implied_by e None = implies_end e
