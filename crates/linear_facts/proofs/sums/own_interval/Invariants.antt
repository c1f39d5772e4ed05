-- Each end is that of the terms so far: with what is left it makes the whole sum's.
use Rattle.std.proofs.Common.{◌≡◌, ◌+◌, ◌*◌, ◌^◌, ◌≤◌, map, drop}
use Rattle.linear_facts.specs.Words.{Lo, Hi}
use Rattle.linear_facts.specs.Sums.{signed_term, gains, losses, ends}
use Rattle.linear_facts.proofs.sums.own_interval.Given as goal

abbrev pub invariant-loop-term : goal.invariant-loop-term
invariant-loop-term l = record {
  lo : l.lo + gains (ends l.atoms Lo) (map signed_term (drop l.term-index l.terms)) + losses (ends l.atoms Hi) (map signed_term l.terms)
      ≡ 2 ^ 112 + l.constant + gains (ends l.atoms Lo) (map signed_term l.terms) + losses (ends l.atoms Hi) (map signed_term (drop l.term-index l.terms));
  hi : l.hi + gains (ends l.atoms Hi) (map signed_term (drop l.term-index l.terms)) + losses (ends l.atoms Lo) (map signed_term l.terms)
      ≡ 2 ^ 112 + l.constant + gains (ends l.atoms Hi) (map signed_term l.terms) + losses (ends l.atoms Lo) (map signed_term (drop l.term-index l.terms));
  lo_low : 2 ^ 112 ≤ l.lo + l.term-index * 2 ^ 64;
  lo_high : l.lo ≤ 2 ^ 112 + 2 ^ 32 + l.term-index * 2 ^ 64;
  hi_low : 2 ^ 112 ≤ l.hi + l.term-index * 2 ^ 64;
  hi_high : l.hi ≤ 2 ^ 112 + 2 ^ 32 + l.term-index * 2 ^ 64;
}
