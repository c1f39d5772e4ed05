use Rattle.std.proofs.Common.{◌≡◌, ◌++◌, take}
use Rattle.monitor.specs.declared.commands.Flow.TheVariants as flow
use Rattle.rv_listing.specs.Sinks.{IsPassedOn}
use Rattle.endings.specs.Streams.{stream}
use Rattle.commands.specs.Talks.{GoesOver, IsLine, watch}
use Rattle.commands.proofs.lines.answer_bytes.Given as goal

-- the run is the one that was opened, and all lines so far are answered, and passed on if what came before was
abbrev pub invariant-loop-byte : goal.invariant-loop-byte
invariant-loop-byte g l = record {
  same : l.monitor.session.ghost_name ≡ l.fn.monitor.session.ghost_name;
  first : l.monitor.session.now.first ≡ l.fn.monitor.session.now.first;
  passed : IsPassedOn (g.O.Stream.passed l.initial.output) (g.O.Sink.contents l.initial.output) → IsPassedOn (g.O.Stream.passed l.output) (g.O.Sink.contents l.output);
  goes : IsLine l.initial.line.items → GoesOver g.row.VLENB (l.initial.line.items ++ take l.byte-index l.bytes) l.line.items
      (stream (g.O.Sink.contents l.initial.output) (g.O.Sink.failures l.initial.output)) (stream (g.O.Sink.contents l.output) (g.O.Sink.failures l.output))
      (watch l.initial.monitor.breakpoints.items l.initial.monitor.session.now) (watch l.monitor.breakpoints.items l.monitor.session.now) flow.Go;
}
