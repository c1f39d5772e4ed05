use Rattle.std.proofs.Common.{ap, ◌∙◌}
use Rattle.cert_note.specs.Reading.{certificate_of}
use Rattle.cert_note.proofs.Whole.{certificate_again, certificate_takes}
use Rattle.cert_note.proofs.reading.certificates_are_spellings.Goals as goal

pub returns : goal.returns
returns call bytes c = record {
  spells = λ fits e. let there = certificate_takes bytes c fits e in record { valid = there.0; spelled = there.1 };
  found = λ s. ap certificate_of s.spelled ∙ certificate_again c s.valid;
}
