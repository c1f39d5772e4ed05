use Rattle.std.proofs.Common.{◌≡◌, rules, arith, sym, Err}
use Rattle.std.proofs.lemmas.Grind.{common_steps}
use Rattle.block_checker.specs.Passes.{entry_passes, entry_passes_to}
use Rattle.block_checker.proofs.Explaining.{entry_stops}
use Rattle.block_checker.proofs.checks.entry_passes.Goals as goal

pub returns-in-Err-clause-stop : goal.returns-in-Err-clause-stop
unfolding entry_passes entry_passes_to
returns-in-Err-clause-stop g c =
    let image = c.args.image.now in
    let certificate = c.args.certificate.now in
    let error = c.in-Err.error in
    let refused : entry_passes image certificate ≡ Err error = first_of (search rules, grind (arith, common_steps)) in
    entry_stops image certificate error c.entry-pc.result c.args.state.now c.in-Err.ensures.at refused c.requires.state
