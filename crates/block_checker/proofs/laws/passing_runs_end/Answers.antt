use Rattle.block_checker.proofs.Instance.{passing-ends-everywhere}
use Rattle.block_checker.proofs.laws.passing_runs_end.Goals as goal

pub returns : goal.returns
returns c = passing-ends-everywhere record {
  blocks_are_held = c.blocks_are_held.ensures;
  entries_are_held = c.entries_are_held.ensures;
  steps_are_held = c.steps_are_held.ensures;
  steps_count = c.steps_count.ensures;
  steps_go_on = c.steps_go_on.ensures;
  edges_are_taken = c.edges_are_taken.ensures;
  edges_keep = c.edges_keep.ensures;
  one_edge = c.one_edge.ensures;
  straight_edges = c.straight_edges.ensures;
  implied_ends = c.implied_ends.ensures;
  implied_fits = c.implied_fits.ensures;
}
