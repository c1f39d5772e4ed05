use Rattle.std.proofs.Common.{◌≡◌, ◌≤◌, ◌-◌, length}
use Rattle.cert_note.specs.Reading.{many_at}
use Rattle.cert_note.proofs.Loop.{with_front}
use Rattle.cert_note.proofs.reading.many_at.Given as goal

abbrev pub invariant-loop : goal.invariant-loop
invariant-loop g l = (with_front l.items.items (many_at (g.T.Item.one l.context) g.T.Item.next (l.count - l.counter) l.from l.rest) ≡ many_at (g.T.Item.one l.context) g.T.Item.next l.count l.first l.bytes) × (length l.items.items ≤ l.counter) × (l.count ≤ g.row.MOST)
