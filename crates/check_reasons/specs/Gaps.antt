-- By how much a budget is too small on a way, and the words for it.
use Rattle.std.specs.Prelude.{ℕ, ◌+◌, ◌-◌, ◌++◌, ◌&&◌, min, List, codes, if◌then◌else◌}
use Rattle.std.specs.Fmt.{decimal}
use Rattle.cert_note.specs.declared.values.Budget.{Budget}
use Rattle.linear_facts.specs.Differences.{Product, WholeSum, difference_of, have_ranges}
use Rattle.linear_facts.specs.Ranges.{AtomTable}
use Rattle.linear_facts.specs.Sums.{ends, gains, losses}
use Rattle.linear_facts.specs.declared.ranges.End.TheVariants.{Hi, Lo}
use Rattle.abs_state.specs.Branches.{EdgeView, table_on}
use Rattle.abs_state.specs.Edges.{Total, least_of, most_of, next_total, own_total, products_of}
use Rattle.check_reasons.specs.declared.gaps.Gap.{Gap}
use Rattle.check_reasons.specs.declared.gaps.TheConstants.{MOST_LACK}

-- ---- what a reason holds

-- how far the lower bound of a sum in whole numbers is below 0
unfoldable pub short_of : AtomTable → WholeSum → ℕ
short_of table sum =
    (sum.minus + losses (ends table Hi) sum.terms) - (sum.plus + gains (ends table Lo) sum.terms)

-- How much more a number with products would have to be, to be at least another one by the lower
-- bound of their difference; `most` where that is more, or where a form has no range.
unfoldable pub least_more : AtomTable → ℕ → List Product → ℕ → List Product → ℕ → ℕ
least_more table own own_of next next_of most =
    if have_ranges table own_of && have_ranges table next_of
    then min most (short_of table (difference_of table own own_of next next_of))
    else most

-- a lack above MOST_LACK counts as MOST_LACK
abbrev pub told_lack : ℕ → ℕ
told_lack lack = min lack MOST_LACK

-- what a total lacks to pay for the next one, by the ends of their ranges or by the difference of
-- their forms, whichever is less
unfoldable pub lack_of : AtomTable → Total → Total → ℕ
lack_of table own next =
    least_more table own.constant (products_of own) next.constant (products_of next)
    (told_lack (most_of next - least_of own))

-- what a budget comes to at least, what is asked of it at most, and what it lacks
unfoldable pub gap_of : EdgeView → Budget → Budget → Gap
gap_of e own next = record {
  left = least_of (own_total e own);
  asked = most_of (next_total e next);
  lack = lack_of (table_on e) (own_total e own) (next_total e next);
}

-- ---- the words

abbrev pub least_line : ℕ → List ℕ
least_line number = codes "  known: the budget left is at least " ++ (decimal number ++ codes "\n")

abbrev pub asked_line : List ℕ → ℕ → List ℕ
asked_line behind number = codes "  known: these words and "
    ++ (behind ++ (codes " are at most " ++ (decimal number ++ codes "\n")))

abbrev pub lack_line : ℕ → List ℕ
lack_line number =
    codes "  lacking, by the difference of the sums: " ++ (decimal number ++ codes "\n")

-- the lines of a budget that is too small for these words and what is behind them
unfoldable pub gap_lines : Gap → List ℕ → List ℕ
gap_lines gap behind =
    least_line gap.left ++ (asked_line behind gap.asked ++ lack_line gap.lack)

-- on a way to a block
abbrev pub gap_text : Gap → List ℕ
gap_text gap = gap_lines gap (codes "the budget entered")

-- on a way to the end of the run
abbrev pub end_text : Gap → List ℕ
end_text gap = gap_lines gap (codes "0 at the end of the run")
