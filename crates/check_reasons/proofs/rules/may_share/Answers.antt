use Rattle.std.proofs.Common.{◌∙◌}
use Rattle.check_reasons.proofs.RuleLemmas.{source_alone}
use Rattle.check_reasons.proofs.rules.may_share.Goals as goal

pub returns : goal.returns
returns c =
    c.are_operands_legal.ensures.meaning
    ∙ source_alone c.args.vtype c.args.sharing c.args.destination.now c.args.source c.requires.destination c.requires.source
