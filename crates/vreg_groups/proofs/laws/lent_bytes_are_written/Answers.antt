use Rattle.vreg_groups.proofs.LoanLemmas.{overlaid_fits}
use Rattle.vreg_groups.proofs.laws.lent_bytes_are_written.Goals as goal

pub returns : goal.returns
returns c = overlaid_fits c.args.at c.args.file.now c.args.written.now c.requires
