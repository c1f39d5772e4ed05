-- An image has no certificate, or bytes that are none.
use Rattle.std.specs.Prelude.{◌≡◌, ◌⊎◌, Some, Err}
use Rattle.std.proofs.Common.{arith}
use Rattle.std.proofs.lemmas.Grind.{common_steps}
use Rattle.rvvbox_c.proofs.AcceptLemmas.{known_or_want, unread_there}
use Rattle.rvvbox_c.specs.Accept.{Known, certificate_in}
use Rattle.rvvbox_c.specs.Status.{plain}
use Rattle.rvvbox_c.specs.declared.status.Status.TheVariants.{NoMemory}
use Rattle.rvvbox_c.proofs.accept.certificate_in.Goals as goal

pub returns-in_default-clause-refused : goal.returns-in_default-clause-refused
returns-in_default-clause-refused c =
    let known : (certificate_in c.args.image.now.certificate ≡ Err (Known c.of.result))
    ⊎ (c.of.result ≡ plain NoMemory) = grind (arith, common_steps) in
    known_or_want _ _ known

pub returns-in-Err-clause-refused : goal.returns-in-Err-clause-refused
returns-in-Err-clause-refused c =
    let there : c.args.image.now.certificate ≡ Some c.in-Some.note.now =
    grind (arith, common_steps) in
    rw c.unread.ensures.told (unread_there _ _ _ there c.in-Err.ensures.refused)
