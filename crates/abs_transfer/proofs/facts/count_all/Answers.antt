use Rattle.abs_transfer.specs.Facts.{counted}
use Rattle.abs_transfer.proofs.ChangedItems.{changed_more, others_more}
use Rattle.abs_transfer.proofs.facts.count_all.Goals as goal

pub loop-fact-preserved : goal.loop-fact-preserved
loop-fact-preserved c =
    let old = c.loop-fact in
    record {
      done =
          changed_more (counted c.args.vlenb c.args.least) c.args.facts.now old.facts old.fact-index _ c.counted.result
          c.loop-fact-test.true old.auto.facts old.invariant.done old.invariant.rest c.counted.ensures;
      rest = others_more c.args.facts.now old.facts old.fact-index c.counted.result old.invariant.rest;
    }
