use Rattle.sandbox_run.proofs.any_session.AnySession.stands.Goals as goal

pub returns-in-V128-clause-stop : goal.returns-in-V128-clause-stop
returns-in-V128-clause-stop c = rw c.in-V128.is c.stands.ensures.stop

pub returns-in-V256-clause-stop : goal.returns-in-V256-clause-stop
returns-in-V256-clause-stop c = rw c.in-V256.is c.stands-in-V256.ensures.stop

pub returns-in-V512-clause-stop : goal.returns-in-V512-clause-stop
returns-in-V512-clause-stop c = rw c.in-V512.is c.stands-in-V512.ensures.stop
