use Rattle.std.proofs.Common.{◌≡◌, ◌-◌, take, length}
use Rattle.cert_note.specs.Reading.{parameters_at}
use Rattle.cert_note.proofs.Loop.{with_front}
use Rattle.cert_note.proofs.fields.parameters_at.Given as goal

abbrev pub invariant-loop-place : goal.invariant-loop-place
invariant-loop-place l = (with_front (take l.place l.params) (parameters_at (8 - l.place) l.rest) ≡ parameters_at 8 l.bytes) × (length l.params ≡ 8)
