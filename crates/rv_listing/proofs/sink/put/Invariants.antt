use Rattle.std.proofs.Common.{length, take, ◌-◌, ◌≡◌, ◌≤◌}
use Rattle.std.specs.Io.KnownBytes.{Appends}
use Rattle.rv_listing.proofs.sink.put.Given as goal

-- what is done is a beginning of the text, that is written, and no write has failed
abbrev pub invariant-writing : goal.invariant-writing
invariant-writing g l = record {
  within : l.done ≤ length l.text;
  told : Appends (g.S.Sink.contents l.fn.out) (g.S.Sink.contents l.out) (take l.done l.text);
  same : g.S.Sink.failures l.out ≡ g.S.Sink.failures l.fn.out;
}

abbrev pub decreases-writing : goal.decreases-writing
decreases-writing g l = length l.text - l.done
