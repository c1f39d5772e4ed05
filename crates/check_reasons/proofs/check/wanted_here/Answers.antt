use Rattle.std.proofs.Common.{rules, ap}
use Rattle.check_reasons.specs.declared.check.Wanted.TheVariants as wanted
use Rattle.check_reasons.proofs.check.wanted_here.Goals as goal

pub returns-in-WrongVlen : goal.returns-in-WrongVlen
returns-in-WrongVlen g c = rw c.in-WrongVlen.is (ap (λ stated. wanted.Length stated c.args.vlen) (search rules))

pub returns-in-NoEntryBlock : goal.returns-in-NoEntryBlock
returns-in-NoEntryBlock g c = rw c.in-NoEntryBlock.is (ap wanted.Entry (search rules))
