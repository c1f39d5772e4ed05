use Rattle.std.proofs.Common.{◌≡◌, true, rules, length}
use Rattle.std.specs.Prelude.{is_some}
use Rattle.region_mem.specs.Parameter.{parameters_of}
use Rattle.cert_maker.proofs.FitsLemmas.{are_parameters}
use Rattle.cert_maker.proofs.making.are_valid.Goals as goal

pub returns : goal.returns
returns c = λ valid.
    let of : length c.to_array.result ≡ 8 = search rules in
    let eight : length c.args.parameters.now ≡ 8 = rw (← c.to_array.ensures) of in
    let made = c.new.ensures in
    let same = c.to_array.ensures in
    let told = c.is_some.ensures in
    let some : is_some (parameters_of c.args.parameters.now) ≡ true = cc in
    are_parameters c.args.parameters.now eight c.fits.ensures some
