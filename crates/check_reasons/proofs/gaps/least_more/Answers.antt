use Rattle.std.proofs.Common.{◌∙◌, ap, sym, ◌+◌, ◌-◌, ◌/◌, ◌≤◌, ◌<◌, ℕ, arith}
use Rattle.linear_facts.specs.Differences.{is_at_least_of}
use Rattle.check_reasons.proofs.GapLemmas.{above, enough}
use Rattle.check_reasons.proofs.gaps.least_more.Goals as goal

pub search-preserved-then-is_at_least : goal.search-preserved-then-is_at_least
search-preserved-then-is_at_least c =
    let middle : ℕ = c.search.low + (c.search.high - c.search.low) / 2 in
    let few : middle ≤ c.args.most = omega (arith, c.search-test.true, c.search.invariant.most) in
    let from = ap (λ (n : ℕ). is_at_least_of c.args.atoms.now (n + middle) c.args.own_of.now c.args.next c.args.next_of.now) c.from.ensures in
    let is = sym from ∙ (sym c.is_at_least.ensures.rule ∙ c.if-is_at_least.true) in record {
      low = c.search.invariant.low;
      high = enough c.args.atoms.now c.args.own middle c.args.own_of.now c.args.next c.args.next_of.now c.args.most c.requires.own c.requires.next is few;
      most = few;
    }

pub search-preserved : goal.search-preserved
search-preserved c =
    let middle : ℕ = c.search.low + (c.search.high - c.search.low) / 2 in
    let few : middle < c.args.most = omega (arith, c.search-test.true, c.search.invariant.most) in
    let from = ap (λ (n : ℕ). is_at_least_of c.args.atoms.now (n + middle) c.args.own_of.now c.args.next c.args.next_of.now) c.from.ensures in
    let is = sym from ∙ (sym c.is_at_least.ensures.rule ∙ c.if-is_at_least.false) in
    let more = above c.args.atoms.now c.args.own middle c.args.own_of.now c.args.next c.args.next_of.now c.args.most c.requires.own c.requires.next is few in record {
      low = omega (arith, more);
      high = c.search.invariant.high;
      most = c.search.invariant.most;
    }
