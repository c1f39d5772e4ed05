use Rattle.std.proofs.Common.{◌≡◌, ◌+◌, ◌*◌}
use Rattle.std.specs.Io.KnownBytes.{Appends}
use Rattle.monitor.specs.Texts.{line_text, texts}
use Rattle.monitor.specs.Views.{word_at}
use Rattle.monitor.proofs.views.View.put_lines.Given as goal

abbrev pub invariant-loop-place : goal.invariant-loop-place
invariant-loop-place g l = Appends (g.S.Sink.contents l.fn.out) (g.S.Sink.contents l.out) (texts (λ i. line_text (l.self.address + 4 * i) (word_at l.self.session.now.machine.memory (l.self.address + 4 * i))) l.place)
    × (g.S.Sink.failures l.out ≡ g.S.Sink.failures l.fn.out)
