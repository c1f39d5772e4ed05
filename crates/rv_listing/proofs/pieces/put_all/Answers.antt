use Rattle.std.proofs.Common.{◌∙◌, Err, add-one, refl}
use Rattle.rv_listing.specs.SinkLemmas.{appends_both, told_err, told_part, told_then}
use Rattle.rv_listing.proofs.TextLemmas.{texts-next, texts-rest}
use Rattle.rv_listing.specs.Pieces.{piece_text, pieces_text}
use Rattle.rv_listing.proofs.pieces.put_all.Goals as goal

pub returns-in_err-put_piece : goal.returns-in_err-put_piece
returns-in_err-put_piece g c =
    let all = texts-rest piece_text pieces_text refl (λ p ps. refl) c.args.pieces.now c.loop-piece.piece-index _ c.loop-piece-test.true in
    let told = told_part _ _ _ _ _ _ c.in_err-put_piece.ensures in
    rw (← all) (told_err c.from_residual.result _ _ _ _ _ c.from_residual.ensures.0
    (told_then (Err c.in_err-put_piece.field-0) _ _ _ _ _ _ _ _ (c.loop-piece.invariant.told, c.loop-piece.invariant.same) told))

pub loop-piece-preserved : goal.loop-piece-preserved
loop-piece-preserved g c =
    let next = texts-next piece_text pieces_text refl (λ p ps. refl) c.args.pieces.now c.loop-piece.piece-index _ c.loop-piece-test.true in
    record {
      told = rw (add-one c.loop-piece.piece-index, next) (appends_both _ _ _ _ _ c.loop-piece.invariant.told c.in_ok-put_piece.ensures.0);
      same = c.in_ok-put_piece.ensures.1 ∙ c.loop-piece.invariant.same;
    }
