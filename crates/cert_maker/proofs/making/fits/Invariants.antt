-- The parameters so far fit.
use Rattle.cert_maker.proofs.FitsLemmas.{FitBelow}
use Rattle.cert_maker.proofs.making.fits.Given as goal

abbrev pub invariant-loop-place : goal.invariant-loop-place
invariant-loop-place l = FitBelow l.parameters l.place
