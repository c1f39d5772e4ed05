use Rattle.std.proofs.Common.{◌≡◌, take}
use Rattle.std.specs.Io.KnownBytes.{Appends}
use Rattle.rv_listing.specs.Pieces.{pieces_text}
use Rattle.rv_listing.proofs.pieces.put_all.Given as goal

-- the pieces so far are written, and no write has failed
abbrev pub invariant-loop-piece : goal.invariant-loop-piece
invariant-loop-piece g l = record {
  told : Appends (g.S.Sink.contents l.fn.out) (g.S.Sink.contents l.out) (pieces_text (take l.piece-index l.pieces));
  same : g.S.Sink.failures l.out ≡ g.S.Sink.failures l.fn.out;
}
