-- The lanes' widths and numbers are those of the elements.
use Rattle.lane_int.specs.Resizing.{extended_to}
use Rattle.vector_core.specs.Integer.{lane_width}
use Rattle.vector_core.proofs.Extensions.{resized_numbers}
use Rattle.vector_core.proofs.resizing.extend_results.Goals as goal

pub returns : goal.returns
returns g c =
    let numbers = resized_numbers g.N.Lane.number g.N.Element.number (extended_to c.args.is_signed) g.N.Lane.width (lane_width g.N.VectorElement.sew) g.W.Lane.width (lane_width g.W.VectorElement.sew) c.args.values.now
    g.met.N.VectorElement.width_is g.met.W.VectorElement.width_is g.met.N.VectorElement.number_is in
    cc (c.extend.ensures, numbers, g.met.W.VectorElement.number_is)
