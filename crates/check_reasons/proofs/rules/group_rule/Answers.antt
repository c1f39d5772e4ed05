use Rattle.std.proofs.Common.{◌∙◌, sym}
use Rattle.check_reasons.proofs.RuleLemmas.{multiple_broken, size_broken, width_broken}
use Rattle.check_reasons.proofs.rules.group_rule.Goals as goal

pub returns-then-not-is_legal_at_v0 : goal.returns-then-not-is_legal_at_v0
returns-then-not-is_legal_at_v0 c =
    rw c.eew_bits.ensures.meaning
    (width_broken c.args.vtype c.args.role c.args.first c.args.eew (sym c.is_legal_at_v0.ensures ∙ c.if-not-is_legal_at_v0.true))

pub returns-then-not-is_legal_at_v0-2 : goal.returns-then-not-is_legal_at_v0-2
returns-then-not-is_legal_at_v0-2 c =
    rw c.group_count-registers.ensures.meaning
    (size_broken c.args.vtype c.args.role c.args.first c.args.eew (sym c.is_legal_at_v0.ensures ∙ c.if-not-is_legal_at_v0.false)
    (sym c.is_legal_at_v0-else-not-is_legal_at_v0.ensures ∙ c.if-not-is_legal_at_v0-2.true))

pub returns-else-not-is_legal_at_v0-2 : goal.returns-else-not-is_legal_at_v0-2
returns-else-not-is_legal_at_v0-2 c =
    rw c.group_count-registers.ensures.meaning
    (multiple_broken c.args.vtype c.args.role c.args.first c.args.eew
    (sym c.is_legal_at_v0-else-not-is_legal_at_v0.ensures ∙ c.if-not-is_legal_at_v0-2.false) c.requires)
