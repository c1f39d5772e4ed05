use Rattle.std.proofs.Common.{◌≡◌, take}
use Rattle.std.specs.Io.KnownBytes.{Appends}
use Rattle.hex.specs.Hex.{encode_lower}
use Rattle.monitor.proofs.texts.put_bytes.Given as goal

abbrev pub invariant-loop-byte : goal.invariant-loop-byte
invariant-loop-byte g l = record {
  told : Appends (g.S.Sink.contents l.fn.out) (g.S.Sink.contents l.out) (encode_lower (take l.byte-index l.bytes));
  same : g.S.Sink.failures l.out ≡ g.S.Sink.failures l.fn.out;
}
