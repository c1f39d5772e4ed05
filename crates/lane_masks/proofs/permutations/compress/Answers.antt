use Rattle.std.proofs.Common.{refl, sym, arith, append-nil}
use Rattle.lane_masks.proofs.FoldLemmas.{packed_more, packed_same, kept-end}
use Rattle.lane_masks.proofs.permutations.compress.Goals.{then-bits-i, else-bits-i}
use Rattle.lane_masks.proofs.permutations.compress.Goals as goal

pub loop-i-preserved : goal.loop-i-preserved
loop-i-preserved g c =
    elim c.if-bits-i.branch [
      | then-bits-i w ↦ rw (w.values-is, w.count-is) (omega (arith, c.loop-i.invariant.0), packed_more c.args.bits.now c.loop-i.values _ c.loop-i.i c.loop-i.count w.index-values-i.result (omega (arith, c.requires)) (omega (arith, c.requires, c.loop-i.auto.values)) c.loop-i.invariant.0 w.if-bits-i.true w.index-values-i.is c.loop-i.invariant.1)
      | else-bits-i w ↦ rw (w.values-is, w.count-is) (omega (arith, c.loop-i.invariant.0), packed_same c.args.bits.now c.loop-i.values _ c.loop-i.i c.loop-i.count (omega (arith, c.requires)) (omega (arith, c.requires, c.loop-i.auto.values)) w.if-bits-i.false c.loop-i.invariant.1)
    ]

pub returns-clause-packed : goal.returns-clause-packed
returns-clause-packed g c = rw (sym c.loop-i.invariant.1, kept-end c.args.bits.now c.loop-i.values c.loop-i.i (omega (arith, c.requires)), append-nil) refl
