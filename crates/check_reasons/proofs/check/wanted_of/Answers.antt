-- What is kept behind the word gives the way out.
use Rattle.check_reasons.proofs.KeptPlaces.{behind_wanted}
use Rattle.check_reasons.proofs.check.wanted_of.Goals as goal

pub returns-in-Behind : goal.returns-in-Behind
returns-in-Behind g c =
    let stopped = rw c.in-Some.is at c.requires in
    rw c.in-Some.is
    (behind_wanted c.args.image.now c.args.certificate.now c.args.vlen c.args.error c.in-Some.at c.edge_wanted.result stopped c.in-Behind.is
    c.edge_wanted.ensures)
