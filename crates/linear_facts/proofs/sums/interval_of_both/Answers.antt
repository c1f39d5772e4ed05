-- Both sums have small coefficients.
use Rattle.std.proofs.Common.{refl, arith, ◌≡◌, ◌∙◌, ℕ, ◌<◌, ◌≤◌, ◌^◌, List, [], subst, sym, ap}
use Rattle.linear_facts.specs.Words.{WholeTerm, Interval}
use Rattle.linear_facts.specs.Sums.{AllAtMost, interval_of, met_or_own, with_split}
use Rattle.linear_facts.specs.Ranges.{AtomTable}
use Rattle.linear_facts.specs.SumLemmas.{at_most_more}
use Rattle.linear_facts.specs.RangeLemmas.{form_interval-few, form_interval-many}
use Rattle.linear_facts.proofs.sums.interval_of_both.Goals as goal

pub split_terms-split-requires-clause-small : goal.split_terms-split-requires-clause-small
split_terms-split-requires-clause-small c =
    subst (λ (l : List WholeTerm). AllAtMost (2 ^ 68) l) (sym c.as_slice.ensures.value) (at_most_more (2 ^ 32) (2 ^ 68) _ (omega arith) c.signed_terms-signed.ensures.small)

pub interval_by_ends-own-requires-clause-small : goal.interval_by_ends-own-requires-clause-small
interval_by_ends-own-requires-clause-small c =
    subst (λ (l : List WholeTerm). AllAtMost (2 ^ 73) l) (sym c.as_slice-2.ensures.value) (at_most_more (2 ^ 32) (2 ^ 73) _ (omega arith) c.signed_terms-signed.ensures.small)

pub interval_by_ends-requires-clause-small : goal.interval_by_ends-requires-clause-small
interval_by_ends-requires-clause-small c =
    subst (λ (l : List WholeTerm). AllAtMost (2 ^ 73) l) (sym c.as_slice-then-nonzero_terms-le8.ensures.value)
    (at_most_more (2 ^ 40) (2 ^ 73) _ (omega arith) (c.split_terms-split.ensures.close (subst (λ (l : List WholeTerm). AllAtMost (2 ^ 32) l) (sym c.as_slice.ensures.value) c.signed_terms-signed.ensures.small)))

-- the terms that are split
split_now : (table : AtomTable) (now own own' items : List WholeTerm) → now ≡ items → items ≡ with_split table [] own → own ≡ own'
    → now ≡ with_split table [] own'
split_now table now own own' items e e' e'' = cc

-- the two intervals
both_intervals : (table : AtomTable) (c c' : ℕ) (own split split' : List WholeTerm) (i j : Interval) → c ≡ c' → split ≡ split'
    → i ≡ interval_of table c 0 own → j ≡ interval_of table c 0 split
    → met_or_own i j ≡ met_or_own (interval_of table c' 0 own) (interval_of table c' 0 split')
both_intervals table c c' own split split' i j e e' h k = cc

pub returns-then-nonzero_terms-le8-clause-interval : goal.returns-then-nonzero_terms-le8-clause-interval
returns-then-nonzero_terms-le8-clause-interval c =
    let same_split = c.as_slice-then-nonzero_terms-le8.ensures.value ∙ sym c.as_slice-3.ensures.value in
    c.met.ensures.met
    ∙ (both_intervals _ _ _ _ _ _ _ _ c.from-constant.ensures same_split c.interval_by_ends-own.ensures.interval c.interval_by_ends.ensures.interval
    ∙ form_interval-few c.args.atoms.now record { constant = c.args.constant; terms = c.args.terms.now } c.as_slice-2.result.now c.as_slice-3.result.now
    (c.as_slice-2.ensures.value ∙ c.signed_terms-signed.ensures.terms)
    (split_now _ _ _ _ _ c.as_slice-3.ensures.value c.split_terms-split.ensures.terms (c.as_slice.ensures.value ∙ sym c.as_slice-2.ensures.value))
    (subst (λ (n : ℕ). n ≤ 8) c.nonzero_terms.ensures c.if-nonzero_terms-le8.true))

pub returns-else-nonzero_terms-le8-clause-interval : goal.returns-else-nonzero_terms-le8-clause-interval
returns-else-nonzero_terms-le8-clause-interval c =
    c.interval_by_ends-own.ensures.interval
    ∙ (ap (λ n. interval_of c.args.atoms.now n 0 c.as_slice-2.result.now) c.from-constant.ensures
    ∙ form_interval-many c.args.atoms.now record { constant = c.args.constant; terms = c.args.terms.now } c.as_slice-2.result.now c.as_slice-3.result.now
    (c.as_slice-2.ensures.value ∙ c.signed_terms-signed.ensures.terms)
    (split_now _ _ _ _ _ c.as_slice-3.ensures.value c.split_terms-split.ensures.terms (c.as_slice.ensures.value ∙ sym c.as_slice-2.ensures.value))
    (subst (λ (n : ℕ). 8 < n) c.nonzero_terms.ensures c.if-nonzero_terms-le8.false))

pub returns-else-nonzero_terms-le8-clause-close : goal.returns-else-nonzero_terms-le8-clause-close
returns-else-nonzero_terms-le8-clause-close c =
    c.interval_by_ends-own.ensures.close
    (subst (λ (l : List WholeTerm). AllAtMost (2 ^ 40) l) (sym c.as_slice-2.ensures.value)
    (at_most_more (2 ^ 32) (2 ^ 40) _ (omega arith) c.signed_terms-signed.ensures.small))
    (omega (arith, c.from-constant.ensures, c.ranges.constant)) refl

pub returns-then-nonzero_terms-le8-clause-close : goal.returns-then-nonzero_terms-le8-clause-close
returns-then-nonzero_terms-le8-clause-close c =
    c.met.ensures.close
    (c.interval_by_ends-own.ensures.close
    (subst (λ (l : List WholeTerm). AllAtMost (2 ^ 40) l) (sym c.as_slice-2.ensures.value)
    (at_most_more (2 ^ 32) (2 ^ 40) _ (omega arith) c.signed_terms-signed.ensures.small))
    (omega (arith, c.from-constant.ensures, c.ranges.constant)) refl)
    (c.interval_by_ends.ensures.close
    (subst (λ (l : List WholeTerm). AllAtMost (2 ^ 40) l) (sym c.as_slice-then-nonzero_terms-le8.ensures.value) (c.split_terms-split.ensures.close (subst (λ (l : List WholeTerm). AllAtMost (2 ^ 32) l) (sym c.as_slice.ensures.value) c.signed_terms-signed.ensures.small)))
    (omega (arith, c.from-constant.ensures, c.ranges.constant)) refl)
