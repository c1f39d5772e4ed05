-- What is merged so far, and the merge of what is left, make the whole merge.
use Rattle.std.proofs.Common.{length, ◌-◌, ◌+◌, ◌≡◌, ◌≤◌, ◌++◌, drop}
use Rattle.linear_facts.specs.Forms.{merged}
use Rattle.linear_facts.proofs.forms.merge.Given as goal

abbrev pub invariant-heads : goal.invariant-heads
invariant-heads g l = record {
  a_left : l.i ≤ length l.a;
  b_left : l.j ≤ length l.b;
  rest : l.terms.items ++ merged (drop l.i l.a) (drop l.j l.b) ≡ merged l.a l.b;
}

abbrev pub decreases-heads : goal.decreases-heads
decreases-heads g l = (length l.a - l.i) + (length l.b - l.j)
