use Rattle.check_reasons.specs.Gaps.{gap_of, lack_of}
use Rattle.check_reasons.proofs.gaps.gap_on.Goals as goal

pub returns : goal.returns
unfolding gap_of lack_of
returns g c = cc
