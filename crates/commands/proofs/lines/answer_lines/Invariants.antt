use Rattle.std.proofs.Common.{◌≡◌, ◌⊎◌, ◌+◌, ◌-◌, ◌^◌, ◌≤◌, List, ℕ}
use Rattle.std.specs.Io.KnownBytes.{Consumes}
use Rattle.monitor.specs.declared.commands.Flow.TheVariants as flow
use Rattle.rv_listing.specs.Sinks.{IsPassedOn}
use Rattle.endings.specs.Streams.{stream}
use Rattle.commands.specs.Talks.{GoesOver, watch}
use Rattle.commands.proofs.lines.answer_lines.Given as goal

-- the run is the one that was opened, all lines so far are answered, and passed on if what came before was, and each turn was a read that did not fail
abbrev pub invariant-loop : goal.invariant-loop
invariant-loop g l = record {
  same : l.monitor.session.ghost_name ≡ l.fn.monitor.session.ghost_name;
  first : l.monitor.session.now.first ≡ l.fn.monitor.session.now.first;
  turns : (g.I.Source.reads l.initial.input + l.counter ≤ g.I.Source.reads l.input) ⊎ (2 ^ 64 - 1 ≤ g.I.Source.reads l.input);
  within : g.I.Source.reads l.input ≤ g.I.Source.reads l.initial.input + l.counter;
  heard : g.I.Source.failures l.input ≡ g.I.Source.failures l.initial.input;
  passed : IsPassedOn (g.O.Stream.passed l.initial.output) (g.O.Sink.contents l.initial.output) → IsPassedOn (g.O.Stream.passed l.output) (g.O.Sink.contents l.output);
  goes : (read : List ℕ) × Consumes (g.I.Source.remaining l.initial.input) (g.I.Source.remaining l.input) read
      × GoesOver g.row.VLENB read l.line.items (stream (g.O.Sink.contents l.initial.output) (g.O.Sink.failures l.initial.output)) (stream (g.O.Sink.contents l.output) (g.O.Sink.failures l.output))
      (watch l.initial.monitor.breakpoints.items l.initial.monitor.session.now) (watch l.monitor.breakpoints.items l.monitor.session.now) flow.Go;
}
