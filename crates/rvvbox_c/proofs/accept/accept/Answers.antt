-- The check refuses what a file spells.
use Rattle.std.specs.Prelude.{◌≡◌, ◌⊎◌, Err}
use Rattle.std.proofs.Common.{arith}
use Rattle.std.proofs.lemmas.Grind.{common_steps}
use Rattle.rvvbox_c.proofs.AcceptLemmas.{known_or_want}
use Rattle.rvvbox_c.specs.Accept.{Known, accepted_of}
use Rattle.rvvbox_c.specs.Status.{plain}
use Rattle.rvvbox_c.specs.declared.status.Status.TheVariants.{NoMemory}
use Rattle.rvvbox_c.proofs.accept.accept.Goals as goal

pub returns-clause-refused : goal.returns-clause-refused
returns-clause-refused c =
    let known : (accepted_of c.args.vlen c.args.file.now ≡ Err (Known c.from.result))
    ⊎ (c.from.result ≡ plain NoMemory) = grind (arith, common_steps) in
    known_or_want _ _ known
