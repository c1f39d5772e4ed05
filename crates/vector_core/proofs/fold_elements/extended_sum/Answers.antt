-- The lanes' widths and numbers are those of the elements.
use Rattle.lane_masks.specs.Folds.{extended}
use Rattle.vector_core.specs.Integer.{lane_width}
use Rattle.vector_core.proofs.Extensions.{resized_numbers}
use Rattle.vector_core.proofs.fold_elements.extended_sum.Goals as goal

pub returns : goal.returns
returns g c =
    let numbers = resized_numbers g.N.FoldLane.number g.N.Element.number (extended c.args.is_signed) g.N.FoldLane.width (lane_width g.N.VectorElement.sew) g.W.FoldLane.width (lane_width g.W.VectorElement.sew) c.args.values.now
    g.met.N.VectorElement.fold_width_is g.met.W.VectorElement.fold_width_is g.met.N.VectorElement.fold_number_is in
    cc (c.fold_extended.ensures, numbers, g.met.W.VectorElement.fold_width_is, g.met.W.VectorElement.fold_number_is)
