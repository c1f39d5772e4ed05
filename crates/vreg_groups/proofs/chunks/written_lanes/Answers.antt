use Rattle.std.proofs.Common.{◌∙◌}
use Rattle.vreg_groups.proofs.ChunkLemmas.{lane_yes, lane_no}
use Rattle.vreg_groups.proofs.chunks.written_lanes.Goals as goal

pub returns-clause-active : goal.returns-clause-active
returns-clause-active c = λ k lt live on.
    lane_yes c.args.body c.over-written.result c.args.old c.over.result k c.over.ensures.flags c.over.ensures.results c.over.ensures.others c.over.ensures.meaning lt live
    ∙ lane_yes c.args.flags c.args.results c.filler.result c.over-written.result k c.over-written.ensures.flags c.over-written.ensures.results c.over-written.ensures.others c.over-written.ensures.meaning lt on

pub returns-clause-inactive : goal.returns-clause-inactive
returns-clause-inactive c = λ k lt live off.
    lane_yes c.args.body c.over-written.result c.args.old c.over.result k c.over.ensures.flags c.over.ensures.results c.over.ensures.others c.over.ensures.meaning lt live
    ∙ lane_no c.args.flags c.args.results c.filler.result c.over-written.result k c.over-written.ensures.flags c.over-written.ensures.results c.over-written.ensures.others c.over-written.ensures.meaning lt off
    ∙ c.filler.ensures k lt

pub returns-clause-rest : goal.returns-clause-rest
returns-clause-rest c = λ k lt rest.
    lane_no c.args.body c.over-written.result c.args.old c.over.result k c.over.ensures.flags c.over.ensures.results c.over.ensures.others c.over.ensures.meaning lt rest
