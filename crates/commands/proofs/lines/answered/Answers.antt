use Rattle.std.proofs.Common.{rules}
use Rattle.commands.proofs.TalkLemmas.{is_unknown}
use Rattle.commands.proofs.lines.answered.Goals as goal

pub returns-in_ok-error_line-in-Err-clause-answered : goal.returns-in_ok-error_line-in-Err-clause-answered
returns-in_ok-error_line-in-Err-clause-answered g c = search (rules, is_unknown)
