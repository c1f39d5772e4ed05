use Rattle.std.proofs.Common.{◌≡◌, ◌≤◌, List}
use Rattle.std.specs.Prelude.{IfSome}
use Rattle.cert_note.specs.Words.{Block}
use Rattle.cert_note.specs.Certificate.{after_block}
use Rattle.cert_note.specs.Reading.{block_at}
use Rattle.cert_note.proofs.Loop.{ReadsOn}
use Rattle.cert_note.proofs.reading.blocks_at.Given as goal

abbrev pub invariant-loop-number : goal.invariant-loop-number
invariant-loop-number g l = (blocks : List Block) × (ReadsOn (block_at l.front.version l.front.vlen l.front.parameters) after_block 0 l.bytes blocks l.number l.from l.rest) × (IfSome l.kept (λ kept. kept.items ≡ blocks)) × (l.number ≤ l.front.count)
