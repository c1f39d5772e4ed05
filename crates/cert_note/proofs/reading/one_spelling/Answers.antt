use Rattle.cert_note.proofs.Whole.{one_certificate}
use Rattle.cert_note.proofs.reading.one_spelling.Goals as goal

pub returns : goal.returns
returns c = one_certificate
