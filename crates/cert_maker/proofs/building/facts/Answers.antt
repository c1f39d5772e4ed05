use Rattle.std.proofs.Common.{◌≡◌, arith}
use Rattle.cert_maker.proofs.FactLists.{all_stated, stated_more}
use Rattle.cert_maker.proofs.building.facts.Goals as goal

pub loop-place-preserved : goal.loop-place-preserved
loop-place-preserved c =
    stated_more _ c.loop-place.place _ _ _ c.loop-place.invariant c.stated.ensures c.add.ensures

pub returns : goal.returns
returns c =
    let all : c.loop-place.place ≡ 8 = omega (arith, c.loop-place-test.false, c.loop-place.auto.place-end) in
    all_stated _ c.loop-place.place _ c.loop-place.invariant all
