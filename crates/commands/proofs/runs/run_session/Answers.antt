use Rattle.sandbox_run.specs.Session.{open_fault}
use Rattle.commands.proofs.AcceptedLemmas.{opened}
use Rattle.commands.proofs.runs.run_session.Goals as goal

pub returns-in-Ok-clause-answer : goal.returns-in-Ok-clause-answer
returns-in-Ok-clause-answer g c =
    opened g.row.VLENB c.args.ready.now.job.agnostic c.args.ready.now.accepted c.args.args.places (open_fault g.row.VLENB c.args.ready.now.accepted c.args.args.places c.args.ready.now.job.max)
    c.in-Ok.session c.run-steps.result c.run-steps.new.self.machine c.registers-registers.result c.close.result c.ended.result c.in-Ok.ensures.refused c.in-Ok.ensures.opened.machine
    c.in-Ok.ensures.opened.steps c.in-Ok.ensures.opened.bound c.run-steps.ensures.first c.registers-registers.ensures c.close.ensures.places c.ended.ensures
