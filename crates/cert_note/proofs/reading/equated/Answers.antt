use Rattle.cert_note.proofs.Equated.{marked, none_marked}
use Rattle.cert_note.proofs.reading.equated.Goals as goal

pub loop-fact-init : goal.loop-fact-init
loop-fact-init c = none_marked 256 c.args.facts.now

pub loop-fact-preserved : goal.loop-fact-preserved
loop-fact-preserved c =
    marked c.args.facts.now c.loop-fact.fact-index c.fact-item.result c.loop-fact.found c.mark.new.found c.loop-fact-test.true c.fact-item.is c.loop-fact.invariant c.mark.ensures
