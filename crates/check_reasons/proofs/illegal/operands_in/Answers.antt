use Rattle.check_reasons.proofs.RuleLemmas.{rule_named}
use Rattle.check_reasons.proofs.illegal.operands_in.Goals as goal

pub returns-clause-named : goal.returns-clause-named
returns-clause-named c =
    rw (c.rule_in.ensures, c.vector_type-known.ensures, c.needs-operands.ensures) (rule_named _ _)
