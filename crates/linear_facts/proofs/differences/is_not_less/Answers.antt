-- A difference whose interval has no number below 0 is not negative.
use Rattle.std.proofs.Common.{◌≡◌, ◌∙◌, ◌^◌, true, sym}
use Rattle.std.specs.Prelude.{nat_le}
use Rattle.linear_facts.specs.Words.{Interval}
use Rattle.linear_facts.specs.Forms.{Linear}
use Rattle.linear_facts.specs.Ranges.{AtomTable}
use Rattle.linear_facts.specs.Differences.{WholeSum, have_ranges, difference_of, sum_interval, once, is_not_less_of}
use Rattle.linear_facts.specs.DifferenceLemmas.{orders-hold}
use Rattle.linear_facts.proofs.differences.is_not_less.Goals as goal

shown_so : (table : AtomTable) (f g : Linear) (sum : WholeSum) (interval : Interval) → have_ranges table (once f) ≡ true → have_ranges table (once g) ≡ true
    → sum ≡ difference_of table 0 (once f) 0 (once g) → interval ≡ sum_interval table sum → nat_le (2 ^ 112) interval.lo ≡ true
    → is_not_less_of table f g ≡ true
unfolding is_not_less_of
shown_so table f g sum interval p q d e le = rw (p, q, ← d, ← e) le

pub returns-clause-holds : goal.returns-clause-holds
returns-clause-holds c = λ v agrees shown.
    orders-hold c.args.atoms.now v c.args.form.now c.args.other.now agrees c.difference_of_two.ensures.form c.difference_of_two.ensures.other
    (shown_so c.args.atoms.now c.args.form.now c.args.other.now _ _
    (sym c.have_ranges.ensures ∙ c.if-not-have_ranges.false) (sym c.have_ranges-2.ensures ∙ c.if-not-have_ranges-2.false)
    c.difference_of_two.ensures.sum c.sum_interval.ensures shown)
