use Rattle.std.proofs.Common.{◌≡◌, take}
use Rattle.std.specs.Io.KnownBytes.{Appends}
use Rattle.rv_listing.specs.Fields.{fields_text}
use Rattle.rv_listing.proofs.fields.put_rest.Given as goal

abbrev pub invariant-loop-field : goal.invariant-loop-field
invariant-loop-field g l = record {
  told : Appends (g.S.Sink.contents l.fn.out) (g.S.Sink.contents l.out) (fields_text (take l.field-index l.fields));
  same : g.S.Sink.failures l.out ≡ g.S.Sink.failures l.fn.out;
}
