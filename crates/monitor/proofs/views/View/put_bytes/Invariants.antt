use Rattle.std.proofs.Common.{◌≡◌, ◌+◌}
use Rattle.std.specs.Io.KnownBytes.{Appends}
use Rattle.monitor.specs.Texts.{byte_text, texts}
use Rattle.monitor.specs.Views.{byte_at}
use Rattle.monitor.proofs.views.View.put_bytes.Given as goal

abbrev pub invariant-loop-offset : goal.invariant-loop-offset
invariant-loop-offset g l = Appends (g.S.Sink.contents l.fn.out) (g.S.Sink.contents l.out) (texts (λ i. byte_text (byte_at l.self.session.now.machine.memory (l.self.address + i))) l.offset)
    × (g.S.Sink.failures l.out ≡ g.S.Sink.failures l.fn.out)
