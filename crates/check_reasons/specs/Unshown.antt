-- What of the block entered is not shown on a way to it, and the words for it.
use Rattle.std.specs.Prelude.{ℕ, ◌++◌, not, find, List, [], codes, Option, Some, None}
use Rattle.cert_note.specs.declared.values.Block.{Block}
use Rattle.cert_note.specs.declared.values.Budget.{Budget}
use Rattle.cert_note.specs.declared.values.Equality.{Equality}
use Rattle.cert_note.specs.declared.values.OrderFact.{OrderFact}
use Rattle.cert_note.specs.declared.values.RegisterFact.{RegisterFact}
use Rattle.cert_note.specs.declared.values.VectorFact.{VectorFact}
use Rattle.linear_facts.specs.Forms.{Linear, substituted}
use Rattle.linear_facts.specs.declared.ranges.Range.{Range}
use Rattle.abs_domain.specs.Starts.{equality_form}
use Rattle.abs_domain.specs.declared.numbers.TheConstants.{VL}
use Rattle.abs_state.specs.Branches.{EdgeView, value_on}
use Rattle.abs_state.specs.Edges.{is_interval_shown, is_equality_shown, is_order_shown, is_vector_shown}
use Rattle.block_checker.specs.declared.errors.CheckError.{CheckError}
use Rattle.block_checker.specs.declared.errors.CheckError.TheVariants as error
use Rattle.check_reasons.specs.Spans.{span_text, vl_line}
use Rattle.check_reasons.specs.Gaps.{gap_of, gap_text}
use Rattle.check_reasons.specs.Groups.{group_at, vector_text}
use Rattle.check_reasons.specs.Sums.{name_text, sum_text}
use Rattle.check_reasons.specs.Vtypes.{held_text, kept_vtype, vtype_text}
use Rattle.check_reasons.specs.declared.unshown.Number.{Number}
use Rattle.check_reasons.specs.declared.unshown.Unshown.{Unshown}
use Rattle.check_reasons.specs.declared.unshown.Unshown.TheVariants as unshown
use Rattle.check_reasons.specs.declared.vtypes.HeldVtype.{HeldVtype}

-- ---- what a reason holds

-- a register, or vl, with what is known of it on the edge
unfoldable pub number_on : EdgeView → ℕ → Number
number_on e register = record {
  register = register;
  range = (value_on e register).range;
  sum = (value_on e register).form;
}

abbrev pub range_of : RegisterFact → Range
range_of fact = record { lo = fact.low; hi = fact.high }

abbrev pub told_interval : EdgeView → Option RegisterFact → Unshown
told_interval e None = unshown.Untold
told_interval e (Some fact) = unshown.Interval (number_on e fact.number) (range_of fact)

-- the first interval that is not shown
unfoldable pub unshown_interval : EdgeView → List RegisterFact → Unshown
unshown_interval e facts = told_interval e (find (λ fact. not (is_interval_shown e fact)) facts)

abbrev pub told_sum : EdgeView → ℕ → Option Equality → Unshown
told_sum e register None = unshown.Untold
told_sum e register (Some equality) =
    unshown.Equality register (value_on e register).form (equality_form equality)
    (substituted e.state.numbers.forms (equality_form equality))

abbrev pub told_equality : EdgeView → Option RegisterFact → Unshown
told_equality e None = unshown.Untold
told_equality e (Some fact) = told_sum e fact.number fact.equality

-- the first equality that is not shown
unfoldable pub unshown_equality : EdgeView → List RegisterFact → Unshown
unshown_equality e facts = told_equality e (find (λ fact. not (is_equality_shown e fact)) facts)

abbrev pub told_order : EdgeView → Option OrderFact → Unshown
told_order e None = unshown.Untold
told_order e (Some order) = unshown.Order (number_on e order.lesser) (number_on e order.greater)

-- the first order that is not shown
unfoldable pub unshown_order : EdgeView → List OrderFact → Unshown
unshown_order e orders = told_order e (find (λ order. not (is_order_shown e order)) orders)

abbrev pub told_vector : EdgeView → Option VectorFact → Unshown
told_vector e None = unshown.Untold
told_vector e (Some fact) =
    unshown.Vector fact (group_at fact.register e.state.groups) (value_on e VL).range

-- the first fact on vector registers that is not shown
unfoldable pub unshown_vector : EdgeView → List VectorFact → Unshown
unshown_vector e facts = told_vector e (find (λ fact. not (is_vector_shown e fact)) facts)

-- what the budget of the block left lacks
abbrev pub unshown_budget : Option Budget → EdgeView → Budget → Unshown
unshown_budget None e next = unshown.Untold
unshown_budget (Some own) e next = unshown.Budget (gap_of e own next)

-- the vector type that the block states, beside the one that is known
abbrev pub unshown_vtype : EdgeView → Option ℕ → Unshown
unshown_vtype e None = unshown.Untold
unshown_vtype e (Some wanted) = unshown.Vtype (kept_vtype e.state.vtype) wanted

-- of each error, what of the block entered is not shown; the block that is left may have a budget
unfoldable pub unshown_of : CheckError → Option Budget → EdgeView → Block → Unshown
unshown_of (error.IntervalNotProved pc) own e block = unshown_interval e block.registers.items
unshown_of (error.EqualityNotProved pc) own e block = unshown_equality e block.registers.items
unshown_of (error.OrderNotProved pc) own e block = unshown_order e block.orders.items
unshown_of (error.VectorFactNotProved pc) own e block = unshown_vector e block.vectors.items
unshown_of error.WrongVlen own e block = unshown.Untold
unshown_of error.NoEntryBlock own e block = unshown.Untold
unshown_of (error.NotCode pc) own e block = unshown.Untold
unshown_of (error.IllegalWord pc) own e block = unshown.Untold
unshown_of (error.VtypeUnknown pc) own e block = unshown_vtype e block.vtype
unshown_of (error.AccessNotProved pc) own e block = unshown.Untold
unshown_of (error.ReadOnly pc) own e block = unshown.Untold
unshown_of (error.TargetNotABlock pc) own e block = unshown.Untold
unshown_of (error.BudgetNotProved pc) own e block = unshown_budget own e block.budget
unshown_of (error.BlockTooLong pc) own e block = unshown.Untold
unshown_of error.NoMemory own e block = unshown.Untold

-- ---- the words

-- a line on a register: words before it, and what stands behind a relation
abbrev pub register_line : List ℕ → ℕ → List ℕ → List ℕ → List ℕ
register_line lead register relation told =
    lead ++ (name_text register ++ (relation ++ (told ++ codes "\n")))

abbrev pub known_words : List ℕ
known_words = codes "  known: "

abbrev pub wanted_words : List ℕ
wanted_words = codes "  wanted on entering it: "

abbrev pub range_line : ℕ → Range → List ℕ
range_line register range = register_line known_words register (codes " in ") (span_text range)

abbrev pub sum_line : ℕ → Linear → List ℕ
sum_line register sum = register_line known_words register (codes " = ") (sum_text sum)

unfoldable pub number_lines : Number → List ℕ
number_lines n = range_line n.register n.range ++ sum_line n.register n.sum

abbrev pub wanted_range : ℕ → Range → List ℕ
wanted_range register range = register_line wanted_words register (codes " in ") (span_text range)

abbrev pub wanted_sum : ℕ → Linear → List ℕ
wanted_sum register sum = register_line wanted_words register (codes " = ") (sum_text sum)

abbrev pub there_line : Linear → List ℕ
there_line sum = codes "  that sum on this way: " ++ (sum_text sum ++ codes "\n")

abbrev pub wanted_order : ℕ → ℕ → List ℕ
wanted_order lesser greater = register_line wanted_words lesser (codes " <= ") (name_text greater)

abbrev pub known_group : Option VectorFact → List ℕ
known_group None = codes "  known: nothing of this group\n"
known_group (Some fact) = known_words ++ (vector_text fact ++ codes "\n")

abbrev pub wanted_group : VectorFact → List ℕ
wanted_group fact = wanted_words ++ (vector_text fact ++ codes "\n")

unfoldable pub order_lines : Number → Number → List ℕ
order_lines lesser greater =
    number_lines lesser ++ (number_lines greater ++ wanted_order lesser.register greater.register)

unfoldable pub vector_lines : VectorFact → Option VectorFact → Range → List ℕ
vector_lines wanted known vl = vl_line vl ++ (known_group known ++ wanted_group wanted)

abbrev pub vtype_lines : HeldVtype → ℕ → List ℕ
vtype_lines known wanted = known_words ++ (held_text known
    ++ (codes "\n" ++ (wanted_words ++ (vtype_text wanted ++ codes "\n"))))

-- the lines of what is not shown
unfoldable pub unshown_text : Unshown → List ℕ
unshown_text unshown.Untold = []
unshown_text (unshown.Interval known wanted) =
    number_lines known ++ wanted_range known.register wanted
unshown_text (unshown.Equality register known wanted there) =
    sum_line register known ++ (wanted_sum register wanted ++ there_line there)
unshown_text (unshown.Order lesser greater) = order_lines lesser greater
unshown_text (unshown.Vector wanted known vl) = vector_lines wanted known vl
unshown_text (unshown.Vtype known wanted) = vtype_lines known wanted
unshown_text (unshown.Budget gap) = gap_text gap
