-- The certificate was made.
use Rattle.std.proofs.Common.{◌≡◌, Result, Ok, Err, length, subst, sym}
use Rattle.std.proofs.lemmas.Result.{IfErr-weaker}
use Rattle.cert_note.specs.Spelling.{spelling}
use Rattle.endings.specs.Accepted.{OrMemory}
use Rattle.commands.specs.Makes.{ExplainsMaking, certificate_for}
use Rattle.endings.specs.Why.{ByStep, ExplainsAttached, ExplainsLoop}
use Rattle.commands.specs.Words.{CertificateView, Halt, Stop}
use Rattle.commands.proofs.CommandLemmas.{or_ok}
use Rattle.commands.proofs.makes.made.Goals as goal

pub returns-clause-certificate : goal.returns-clause-certificate
returns-clause-certificate c = rw (or_ok (certificate_for c.args.job.now c.args.image.now) c.in_ok-certificate.certificate c.in_ok-certificate.ensures.answer) tt

-- a step came to a value, and a later one stops
later_stops : {A : Type 0} (step : Result A Stop) (fails : Halt → Type 0) (later : A → Halt → Type 0) (a : A) (why : Halt) → OrMemory step (Ok a)
    → later a why → ByStep step fails later why
later_stops (Err reason) fails later a why is so = absurd (let never : Err reason ≡ Ok a = sym is in cc)
later_stops (Ok b) fails later a why is so = subst (λ x. later x why) is so

pub returns-clause-told : goal.returns-clause-told
returns-clause-told c =
    IfErr-weaker c.with_certificate.result
    (ExplainsAttached c.args.file.now c.args.image.now.certificate (length (spelling c.in_ok-certificate.certificate)))
    (ExplainsMaking c.args.job.now c.args.file.now c.args.image.now)
    (λ why so. later_stops (certificate_for c.args.job.now c.args.image.now) (ExplainsLoop c.args.job.now.params c.args.image.now)
    (λ (certificate : CertificateView). ExplainsAttached c.args.file.now c.args.image.now.certificate (length (spelling certificate)))
    c.in_ok-certificate.certificate why c.in_ok-certificate.ensures.answer so)
    c.with_certificate.ensures.told
