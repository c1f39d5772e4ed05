use Rattle.std.proofs.Common.{ap, not, replicate, w8, ◌∙◌}
use lib.Dec.{eqb}
use lib.Lanes.{sel_l}
use Rattle.std.proofs.lemmas.Simd.{tops_compared}
use Rattle.vreg_groups.proofs.ChunkLemmas.{selected}
use Rattle.vreg_groups.proofs.chunks.choose.Goals as goal

pub returns : goal.returns
returns c =
    ap (λ lanes. sel_l lanes c.args.value c.args.other) (tops_compared w8 (λ a b. not (eqb a b)) c.args.active (replicate 16 0))
    ∙ selected 16 c.args.active c.args.value c.args.other c.fits-active.0
