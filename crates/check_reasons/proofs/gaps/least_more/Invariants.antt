-- The lack lies between both ends.
use Rattle.std.proofs.Common.{◌≤◌, ◌-◌}
use Rattle.check_reasons.specs.Gaps.{least_more}
use Rattle.check_reasons.proofs.gaps.least_more.Given as goal

abbrev pub invariant-search : goal.invariant-search
invariant-search l = record {
  low : l.low ≤ least_more l.atoms l.own l.own_of l.next l.next_of l.most;
  high : least_more l.atoms l.own l.own_of l.next l.next_of l.most ≤ l.high;
  most : l.high ≤ l.most;
}

abbrev pub decreases-search : goal.decreases-search
decreases-search l = l.high - l.low
