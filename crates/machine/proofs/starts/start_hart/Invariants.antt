-- The registers so far.
use Rattle.machine.specs.Start.{passed_at}
use Rattle.machine.proofs.StartLemmas.{IsBegun}
use Rattle.machine.proofs.starts.start_hart.Given as goal

abbrev pub invariant-loop-register : goal.invariant-loop-register
invariant-loop-register g l = IsBegun l.entry (passed_at l.parameters l.places) l.register l.hart
