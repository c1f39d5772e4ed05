-- The facts so far are counted, and the others are as they were.
use Rattle.std.proofs.Common.{◌≡◌, take, drop, map}
use Rattle.abs_transfer.specs.Facts.{counted}
use Rattle.abs_transfer.proofs.facts.count_all.Given as goal

abbrev pub invariant-loop-fact : goal.invariant-loop-fact
invariant-loop-fact l = record {
  done : take l.fact-index l.facts ≡ map (counted l.vlenb l.least) (take l.fact-index l.fn.facts);
  rest : drop l.fact-index l.facts ≡ drop l.fact-index l.fn.facts;
}
