-- What `search` finds late, or not at all.
use Rattle.std.proofs.Common.{arith}
use Rattle.cert_maker.proofs.ReadLoops.{read_more, read_through, read_refused, read_none}
use Rattle.cert_maker.proofs.loops.read_loop.Goals as goal

pub returns-in_default-clause-value : goal.returns-in_default-clause-value
returns-in_default-clause-value g c =
    grind (arith, read_more, read_through, read_refused, read_none)

pub returns-in-Through-clause-value : goal.returns-in-Through-clause-value
returns-in-Through-clause-value g c =
    grind (arith, read_more, read_through, read_refused, read_none)

pub returns-clause-value : goal.returns-clause-value
returns-clause-value g c = grind (arith, read_more, read_through, read_refused, read_none)

pub loop-words-preserved : goal.loop-words-preserved
loop-words-preserved g c = grind (arith, read_more, read_through, read_refused, read_none)
