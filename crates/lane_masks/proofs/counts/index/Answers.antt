use Rattle.std.proofs.Common.{◌≡◌, ◌%◌, ◌^◌, sym, arith, length, map}
use mir.Val.{bits}
use Rattle.std.proofs.lemmas.List.{length-map}
use Rattle.lane_masks.specs.Masks.{index_of}
use Rattle.lane_masks.proofs.OverlayLemmas.{number_more, place_all}
use Rattle.lane_masks.proofs.counts.index.Goals as goal

pub loop-i-preserved : goal.loop-i-preserved
loop-i-preserved g c =
    let number = g.T.FoldLane.number in
    let long : length (map number c.args.out.now) ≡ length c.args.out.now = length-map c.args.out.now number in
    number_more number (λ i. i % 2 ^ bits g.T.FoldLane.width) (length c.args.out.now) c.loop-i.i (map number c.args.out.now) c.loop-i.out c.low.result c.loop-i.invariant (omega arith) (sym long) c.low.ensures

pub returns : goal.returns
unfolding index_of
returns g c =
    let number = g.T.FoldLane.number in
    let long : length (map number c.args.out.now) ≡ length c.args.out.now = length-map c.args.out.now number in
    place_all (λ i. i % 2 ^ bits g.T.FoldLane.width) (length c.args.out.now) c.loop-i.i (map number c.args.out.now) (map number c.loop-i.out) c.loop-i.invariant (omega arith) (sym long)
