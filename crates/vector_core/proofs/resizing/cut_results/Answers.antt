-- The lanes' widths and numbers are those of the elements.
use Rattle.lane_int.specs.Resizing.{cut_to}
use Rattle.vector_core.specs.Integer.{lane_width}
use Rattle.vector_core.proofs.Extensions.{resized_numbers}
use Rattle.vector_core.proofs.resizing.cut_results.Goals as goal

pub returns : goal.returns
returns g c =
    let numbers = resized_numbers g.W.Lane.number g.W.Element.number (λ _ w. cut_to w) g.W.Lane.width (lane_width g.W.VectorElement.sew) g.N.Lane.width (lane_width g.N.VectorElement.sew) c.args.values.now
    g.met.W.VectorElement.width_is g.met.N.VectorElement.width_is g.met.W.VectorElement.number_is in
    cc (c.cut.ensures, numbers, g.met.N.VectorElement.number_is)
