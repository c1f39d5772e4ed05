-- The words so far were read.
use Rattle.std.proofs.Common.{◌≡◌, ◌≤◌, ◌-◌, ◌+◌}
use Rattle.cert_maker.specs.Loops.{loop_from}
use Rattle.cert_maker.specs.declared.loops.Reading.TheVariants.{Works}
use Rattle.cert_maker.proofs.loops.read_loop.Given as goal

abbrev pub invariant-loop-words : goal.invariant-loop-words
invariant-loop-words g l =
    (l.start + 4 ≤ l.pc) × (l.pc ≤ 3221225472)
    × (loop_from l.image l.parameters l.start (805306368 - l._words) l.pc l.reading ≡ loop_from l.image l.parameters l.start 805306368 (l.start + 4) (Works l.fn.of))
