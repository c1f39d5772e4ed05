use Rattle.std.proofs.Common.{◌≡◌, rules, arith, length}
use Rattle.cert_maker.proofs.FitsLemmas.{all_fit}
use Rattle.cert_maker.proofs.making.fits.Goals as goal

pub returns : goal.returns
returns c =
    let of : length c.to_array-params.result ≡ 8 = search rules in
    let eight : length c.args.parameters.now ≡ 8 = rw (← c.to_array-params.ensures) of in
    all_fit c.args.parameters.now c.loop-place.place eight (omega (arith, c.loop-place-test.false)) c.loop-place.invariant
