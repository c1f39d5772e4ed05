use Rattle.std.proofs.Common.{◌∙◌, false, get_or}
use Rattle.cert_note.proofs.Equated.{free_by}
use Rattle.cert_note.proofs.reading.are_free.Goals as goal

pub returns : goal.returns
returns c =
    c.have_no_atom.ensures ∙ free_by c.args.facts.now (λ n. get_or c.equated-found.result n false) c.equated-found.ensures
