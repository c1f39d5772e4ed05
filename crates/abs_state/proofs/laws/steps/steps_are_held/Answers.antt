use Rattle.abs_state.proofs.StepsHeld.{steps_held}
use Rattle.abs_state.proofs.laws.steps.steps_are_held.Goals as goal

pub returns : goal.returns
returns c = steps_held record {
  fit = c.meanings_fit.ensures;
  scalars = c.scalar_steps_hold.ensures;
  csrs = c.csr_steps_hold.ensures;
  vsets = c.vsets_are_held.ensures;
  parts = record {
    keeps = c.steps_keep_vectors.ensures;
    legal = c.checks_are_legal.ensures;
    permitted = c.transfers_are_permitted.ensures;
    memory = c.transfers_keep_memory.ensures;
    stated = c.stated_are_true.ensures;
    untouched = c.untouched_are_true.ensures;
  };
}
