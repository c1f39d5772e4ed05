use Rattle.std.proofs.Common.{◌≡◌, sym, ◌∙◌, None, arith}
use Rattle.monitor.specs.Numbers.{spelled}
use Rattle.monitor.proofs.NumberLemmas.{parsed, too_long, with_plus}
use Rattle.monitor.proofs.numbers.number_in.Goals as goal
use Rattle.monitor.proofs.numbers.number_in.Goals.{then-word-most-via-then-word-most, then-word-most-via-else-word-most+then-starts_with}

pub returns-then-word-most : goal.returns-then-word-most
returns-then-word-most c =
    elim c.then-word-most.branch as (λ _. None ≡ spelled c.args.radix c.args.most c.args.word.now) [
      | then-word-most-via-then-word-most w ↦ sym (too_long c.args.radix c.args.most c.args.word.now (omega (arith, w.if-word-most.true)))
      | then-word-most-via-else-word-most+then-starts_with w ↦
          let tests = w.starts_with.ensures.byte (omega arith) (omega arith) (λ w o found. found) in
          sym (with_plus c.args.radix c.args.most c.args.word.now (omega arith) (sym tests ∙ w.if-starts_with.true))
    ]

pub returns : goal.returns
returns c =
    let tests = c.starts_with.ensures.byte (omega arith) (omega arith) (λ w o found. found) in
    c.ok.ensures.value ∙ parsed c.args.radix c.args.most c.args.word.now c.from_str_radix.result (omega arith)
    (sym tests ∙ c.if-starts_with.false) c.from_str_radix.ensures.value
