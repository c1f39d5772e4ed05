use Rattle.std.proofs.Common.{◌∙◌}
use Rattle.check_reasons.proofs.RuleLemmas.{mask_alone}
use Rattle.check_reasons.proofs.rules.keeps_mask.Goals as goal

pub returns : goal.returns
returns c =
    c.are_operands_legal.ensures.meaning
    ∙ mask_alone c.args.vtype c.args.is_masked c.args.sharing c.args.destination.now c.requires
