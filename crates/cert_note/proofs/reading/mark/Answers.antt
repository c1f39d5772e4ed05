use Rattle.std.proofs.Common.{◌∙◌, ◌==◌, false, get_or, sym, arith}
use Rattle.cert_note.proofs.Equated.{noted_some, noted_none}
use Rattle.cert_note.proofs.reading.mark.Goals as goal

pub returns-then-is_some : goal.returns-then-is_some
returns-then-is_some c = λ n. noted_some c.args.found.now c.args.fact.now n (sym c.is_some.ensures ∙ c.if-is_some.true) (omega arith)

pub returns-else-is_some : goal.returns-else-is_some
returns-else-is_some c = λ n. noted_none (get_or c.args.found.now n false) (c.args.fact.now.number == n) (sym c.is_some.ensures ∙ c.if-is_some.false)
