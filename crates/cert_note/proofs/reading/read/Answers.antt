use Rattle.std.proofs.Common.{◌≡◌, Ok, ap, ◌∙◌, arith}
use Rattle.std.proofs.lemmas.Grind.{common_steps}
use Rattle.cert_note.specs.Reading.{certificate_of}
use Rattle.cert_note.proofs.Whole.{certificate_takes, certificate_again}
use Rattle.cert_note.proofs.reading.read.Goals as goal

pub returns-in-Ok-clause-found : goal.returns-in-Ok-clause-found
returns-in-Ok-clause-found g c = certificate_takes c.args.bytes.now c.in-Ok.certificate (λ i. omega (arith, c.type_inv.bytes i)) c.in-Ok.ensures.read

pub returns-in-Ok-clause-only : goal.returns-in-Ok-clause-only
returns-in-Ok-clause-only g c = λ d is e.
    let read : certificate_of c.args.bytes.now ≡ Ok d = ap certificate_of e ∙ certificate_again d is in
    grind (arith, common_steps)

pub returns-in-Err-clause-only : goal.returns-in-Err-clause-only
returns-in-Err-clause-only g c = λ d is e.
    let read : certificate_of c.args.bytes.now ≡ Ok d = ap certificate_of e ∙ certificate_again d is in
    grind (arith, common_steps)
