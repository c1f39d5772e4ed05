use Rattle.std.proofs.Common.{◌∙◌, sym}
use Rattle.check_reasons.proofs.RuleLemmas.{present_alone}
use Rattle.check_reasons.proofs.rules.present_rule.Goals as goal

pub returns-then-is_legal_alone-clause-meaning : goal.returns-then-is_legal_alone-clause-meaning
returns-then-is_legal_alone-clause-meaning c =
    present_alone c.args.vtype c.args.role c.args.operand (sym c.is_legal_alone.ensures ∙ c.if-is_legal_alone.true)
