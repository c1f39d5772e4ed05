-- No breakpoint is set at first.
use Rattle.commands.proofs.mons.watch.Goals as goal

pub returns-clause-unanswered : goal.returns-clause-unanswered
returns-clause-unanswered g c = rw (← c.new-monitor.ensures.none, ← c.new-monitor.ensures.run) c.answer_lines.ensures.unanswered
