-- The end moves by the term's share.
use Rattle.std.proofs.Common.{arith, ◌+◌, ◌-◌, ◌^◌, sym, ap}
use Rattle.std.proofs.lemmas.Nat.{mul-le}
use Rattle.linear_facts.specs.SumLemmas.{end_up, end_down}
use Rattle.linear_facts.proofs.sums.end_with_term.Goals as goal

pub returns-then-term-clause-sum : goal.returns-then-term-clause-sum
returns-then-term-clause-sum c =
    end_up c.args.term c.args.sum _ c.from-coefficient.result c.args.up c.from.result c.args.down
    (omega (arith, c.if-term.true)) c.from-coefficient.ensures (sym c.from.ensures)
    (ap (λ n. c.args.sum + n) c.from-then-term.ensures)

pub returns-else-term-clause-sum : goal.returns-else-term-clause-sum
returns-else-term-clause-sum c =
    let share = mul-le (2 ^ 32 - c.from-coefficient.result) c.from-else-term.result (2 ^ 32) (2 ^ 32)
    (omega arith) (omega (arith, c.from-else-term.ensures, c.ranges.down)) in
    end_down c.args.term c.args.sum _ (2 ^ 32 - c.from-coefficient.result) c.args.up c.args.down c.from-else-term.result
    (omega (arith, c.if-term.false)) (ap (λ n. 2 ^ 32 - n) c.from-coefficient.ensures) (sym c.from-else-term.ensures)
    (omega (arith, c.from-else-term-2.ensures, share, c.requires.low))
