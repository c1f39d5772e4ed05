use Rattle.std.proofs.Common.{subst}
use Rattle.std.specs.Option.{IfSome}
use Rattle.rv_decode.proofs.MeaningLaw.{encodes}
use Rattle.rv_decode.proofs.ScalarLaw.{Encodes}
use Rattle.rv_decode.proofs.laws.meanings_fit.Goals as goal

-- the equation that says what the word means, at which the law of its row gives what is said of its fields
pub returns : goal.returns
returns c word insn e = (subst (λ m. IfSome m (Encodes word)) e (encodes word)).1
