-- Why bytes are no certificate, in words.
use Rattle.std.specs.Prelude.{ℕ, List, codes}
use Rattle.cert_note.specs.declared.refusals.CertError.{CertError}
use Rattle.cert_note.specs.declared.refusals.CertError.TheVariants as error

abbrev pub refusal_text : CertError → List ℕ
refusal_text error.Short = codes "the certificate is cut off"
refusal_text error.Version = codes "the certificate's version is not known"
refusal_text error.Parameter = codes "a parameter is wrong"
refusal_text error.BlockOrder = codes "the blocks are out of order"
refusal_text error.Fact = codes "a fact is wrong"
refusal_text error.Equality = codes "an equality is wrong"
refusal_text error.Budget = codes "a budget is wrong"
refusal_text error.TrailingBytes = codes "bytes stand behind the certificate"
refusal_text error.TooMany = codes "there are too many blocks or facts"
refusal_text error.Order = codes "an order is wrong"
refusal_text error.NoMemory = codes "out of memory"
