use Rattle.std.proofs.Common.{◌≡◌, ℕ, false, get_or, take}
use Rattle.cert_note.specs.Certificate.{is_equated}
use Rattle.cert_note.proofs.reading.equated.Given as goal

abbrev pub invariant-loop-fact : goal.invariant-loop-fact
invariant-loop-fact l = (n : ℕ) → get_or l.found n false ≡ is_equated (take l.fact-index l.facts) n
