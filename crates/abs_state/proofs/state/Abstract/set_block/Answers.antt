use Rattle.std.proofs.Common.{ap, ◌∙◌}
use Rattle.cert_note.specs.Certificate.{CertificateView}
use Rattle.abs_state.specs.Blocks.{at_block_of}
use Rattle.abs_domain.specs.StartFormLemmas.{block_usable, block_same}
use Rattle.abs_state.proofs.state.Abstract.set_block.Goals as goal

pub set-requires : goal.set-requires
set-requires g c =
    block_usable c.args.certificate.now _ c.args.index c.index-block.result.now c.contents.ensures.certificate
    (ap (λ (v : CertificateView). v.blocks) c.contents.ensures.value) c.requires c.index-block.ensures

pub returns-clause-state : goal.returns-clause-state
returns-clause-state g c = λ block e.
    c.set.ensures.state
    ∙ ap (at_block_of c.args.image.now c.args.certificate.now)
    (block_same c.args.certificate.now _ c.args.index c.index-block.result.now block
    (ap (λ (v : CertificateView). v.blocks) c.contents.ensures.value) c.index-block.ensures e)
