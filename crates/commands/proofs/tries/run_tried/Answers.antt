use Rattle.std.proofs.Common.{rules, ◌≡◌, IfErr, IfOk, List, Some, subst}
use Rattle.job_file.specs.Needs.{try_job_lent}
use Rattle.machine.specs.Start.{start}
use Rattle.region_mem.specs.Parameter.{parameters_of}
use Rattle.region_mem.specs.declared.parameter.Param.{Param}
use Rattle.sandbox_run.specs.Answer.{last_pc}
use Rattle.commands.specs.Tries.{params_for}
use Rattle.endings.specs.Why.{ExplainsOpened}
use Rattle.commands.proofs.TrialLemmas.{parameters_given}
use Rattle.commands.proofs.tries.run_tried.Goals as goal

pub returns-in-V256-clause-answer : goal.returns-in-V256-clause-answer
returns-in-V256-clause-answer c = search rules

pub returns-in-V512-clause-answer : goal.returns-in-V512-clause-answer
returns-in-V512-clause-answer c = search rules

pub returns-in-V128-clause-told : goal.returns-in-V128-clause-told
returns-in-V128-clause-told c =
    let given : parameters_of (params_for (try_job_lent c.args.job.now).params c.args.args.places) ≡ Some c.in-Some.parameters = search rules in
    subst (λ (ps : List Param). IfErr c.run.result (ExplainsOpened ps c.args.args.places 0 c.args.job.now.max))
    (parameters_given _ _ given) c.run.ensures.told

pub returns-in-V256-clause-told : goal.returns-in-V256-clause-told
returns-in-V256-clause-told c =
    let given : parameters_of (params_for (try_job_lent c.args.job.now).params c.args.args.places) ≡ Some c.in-Some.parameters = search rules in
    subst (λ (ps : List Param). IfErr c.run-in-V256.result (ExplainsOpened ps c.args.args.places 0 c.args.job.now.max))
    (parameters_given _ _ given) c.run-in-V256.ensures.told

pub returns-in-V512-clause-told : goal.returns-in-V512-clause-told
returns-in-V512-clause-told c =
    let given : parameters_of (params_for (try_job_lent c.args.job.now).params c.args.args.places) ≡ Some c.in-Some.parameters = search rules in
    subst (λ (ps : List Param). IfErr c.run-in-V512.result (ExplainsOpened ps c.args.args.places 0 c.args.job.now.max))
    (parameters_given _ _ given) c.run-in-V512.ensures.told

pub returns-in-V128-clause-last : goal.returns-in-V128-clause-last
returns-in-V128-clause-last c =
    let given : parameters_of (params_for (try_job_lent c.args.job.now).params c.args.args.places) ≡ Some c.in-Some.parameters = search rules in
    rw (c.in-V128.is) (subst (λ (ps : List Param). IfOk c.run.result (λ tried. tried.last ≡ last_pc 16 (start 16 c.args.job.now.agnostic c.args.image.now ps c.args.args.places) tried.trial.steps))
    (parameters_given _ _ given) c.run.ensures.last)

pub returns-in-V256-clause-last : goal.returns-in-V256-clause-last
returns-in-V256-clause-last c =
    let given : parameters_of (params_for (try_job_lent c.args.job.now).params c.args.args.places) ≡ Some c.in-Some.parameters = search rules in
    rw (c.in-V256.is) (subst (λ (ps : List Param). IfOk c.run-in-V256.result (λ tried. tried.last ≡ last_pc 32 (start 32 c.args.job.now.agnostic c.args.image.now ps c.args.args.places) tried.trial.steps))
    (parameters_given _ _ given) c.run-in-V256.ensures.last)

pub returns-in-V512-clause-last : goal.returns-in-V512-clause-last
returns-in-V512-clause-last c =
    let given : parameters_of (params_for (try_job_lent c.args.job.now).params c.args.args.places) ≡ Some c.in-Some.parameters = search rules in
    rw (c.in-V512.is) (subst (λ (ps : List Param). IfOk c.run-in-V512.result (λ tried. tried.last ≡ last_pc 64 (start 64 c.args.job.now.agnostic c.args.image.now ps c.args.args.places) tried.trial.steps))
    (parameters_given _ _ given) c.run-in-V512.ensures.last)
