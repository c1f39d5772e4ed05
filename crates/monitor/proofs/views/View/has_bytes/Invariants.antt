use Rattle.std.proofs.Common.{◌≡◌, ◌+◌, true, is_some}
use Rattle.monitor.specs.Views.{all_first, byte_at}
use Rattle.monitor.proofs.views.View.has_bytes.Given as goal

abbrev pub invariant-loop-offset : goal.invariant-loop-offset
invariant-loop-offset g l = all_first (λ i. is_some (byte_at l.self.session.now.machine.memory (l.self.address + i))) l.offset ≡ true
