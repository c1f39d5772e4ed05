use Rattle.std.proofs.Common.{Some, ap, sym}
use Rattle.check_reasons.proofs.check.listing_of.Goals as goal

pub returns-in_ok-text-in-Some-word_in : goal.returns-in_ok-text-in-Some-word_in
returns-in_ok-text-in-Some-word_in g c =
    rw (c.in-Some.is, sym c.word_in.ensures, c.in-Some-word_in.is) (ap Some c.in_ok-text-in-Some-word_in.ensures)
