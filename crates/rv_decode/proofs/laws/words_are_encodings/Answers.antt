use Rattle.std.proofs.lemmas.Option.{IfSome_then}
use Rattle.rv_decode.specs.Decode.{meaning_of}
use Rattle.rv_decode.proofs.MeaningLaw.{encodes}
use Rattle.rv_decode.proofs.laws.words_are_encodings.Goals as goal

pub returns-clause-encoded : goal.returns-clause-encoded
returns-clause-encoded c = IfSome_then (meaning_of c.args.word) (encodes c.args.word) (λ insn. λ h. h.0 c.ranges.word.fits)

pub returns-clause-fits : goal.returns-clause-fits
returns-clause-fits c = IfSome_then (meaning_of c.args.word) (encodes c.args.word) (λ insn. λ h. h.1)
