use Rattle.std.proofs.Common.{◌≡◌}
use Rattle.std.specs.Io.KnownBytes.{Appends}
use Rattle.std.specs.List.{flat_map}
use Rattle.job_reasons.specs.Escaped.{shown_text}
use Rattle.endings.proofs.escapes.put_escaped.Given as goal

-- the characters so far are written, and no write has failed
abbrev pub invariant-loop-c : goal.invariant-loop-c
invariant-loop-c g l = record {
  told : Appends (g.S.Sink.contents l.fn.out) (g.S.Sink.contents l.out) (flat_map shown_text l.yielded);
  same : g.S.Sink.failures l.out ≡ g.S.Sink.failures l.fn.out;
}
