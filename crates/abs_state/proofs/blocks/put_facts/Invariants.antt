-- The facts so far.
use Rattle.std.proofs.Common.{◌≡◌, ◌≤◌, take, length, vec_capacity}
use Rattle.abs_state.specs.declared.blocks.TheConstants.{MOST_FACTS}
use Rattle.abs_state.proofs.blocks.put_facts.Given as goal

abbrev pub invariant-loop-fact : goal.invariant-loop-fact
invariant-loop-fact g l = record {
  items : l.groups.items ≡ take l.fact-index l.facts;
  count : length l.groups.items ≡ l.fact-index;
  room : MOST_FACTS ≤ vec_capacity l.groups;
}
