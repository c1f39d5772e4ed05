use Rattle.std.proofs.Common.{◌≡◌, ◌+◌, ◌*◌, true, is_some}
use Rattle.monitor.specs.Views.{all_first, word_at}
use Rattle.monitor.proofs.views.View.has_words.Given as goal

abbrev pub invariant-loop-place : goal.invariant-loop-place
invariant-loop-place g l = all_first (λ i. is_some (word_at l.self.session.now.machine.memory (l.self.address + 4 * i))) l.place ≡ true
