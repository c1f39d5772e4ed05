-- The words so far were passed, and led to what is known now.
use Rattle.std.proofs.Common.{◌≡◌, ◌+◌, ◌-◌, ◌*◌, Some}
use Rattle.abs_state.specs.declared.state.TheConstants.{MOST_WORDS}
use Rattle.block_checker.specs.Passes.{walk}
use Rattle.block_checker.specs.Explained.{known_before}
use Rattle.block_checker.proofs.checks.walk.Given as goal

abbrev pub invariant-loop-steps : goal.invariant-loop-steps
invariant-loop-steps g l = record {
  words : l.state.words ≡ l._steps;
  rest : walk l.image l.certificate (MOST_WORDS - l._steps) l.pc l.state ≡ walk l.image l.certificate MOST_WORDS l.start l.initial.state;
  place : l.pc ≡ l.start + 4 * l._steps;
  known : known_before l.image l.certificate l.start l.initial.state l._steps ≡ Some l.state;
}
