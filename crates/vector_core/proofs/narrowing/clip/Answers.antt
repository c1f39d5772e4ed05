use Rattle.std.proofs.Common.{arith}
use Rattle.vector_core.specs.Arithmetic.{arith_of}
use Rattle.vector_core.specs.Narrowing.{clip_of}
use Rattle.rv_decode.specs.Needs.{needs_of_arith}
use Rattle.vector_core.proofs.narrowing.clip.Goals as goal

pub write_results-requires : goal.write_results-requires
unfolding needs_of_arith clip_of arith_of
write_results-requires g c = grind arith
