use Rattle.rv_listing.specs.SinkLemmas.{kept_same}
use Rattle.rv_listing.proofs.sink.write_some.Goals as goal

pub loop-init : goal.loop-init
loop-init g c = kept_same _
