use Rattle.std.proofs.Common.{◌∙◌}
use Rattle.cert_maker.proofs.IsCertificateLemmas.{made_as, made_is}
use Rattle.cert_maker.proofs.making.certificate.Goals as goal

pub new-requires : goal.new-requires
new-requires g c =
    made_is c.args.image.now _ c.args.parameters.now c.args.vlen c.args.of.now c.args.words _ c.entry.ensures.value c.in_ok-blocks.ensures c.entry.ensures.image
    c.requires.low c.requires.params c.requires.class c.most_fits.ensures c.requires.some

pub returns : goal.returns
returns g c =
    c.new.ensures
    ∙ made_as c.args.image.now _ c.args.parameters.now c.args.vlen c.args.of.now c.args.words _ c.entry.ensures.value c.in_ok-blocks.ensures
