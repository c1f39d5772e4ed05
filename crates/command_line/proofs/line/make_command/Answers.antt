use Rattle.std.proofs.Common.{rules, ◌≡◌, codes}
use Rattle.clap.specs.Words.{app_of, new_app, with_rule}
use Rattle.command_line.specs.Line.{path_rule}
use Rattle.command_line.proofs.line.make_command.Goals as goal

pub returns-clause-shape : goal.returns-clause-shape
returns-clause-shape c =
    let image : app_of c.in_ok-image.image ≡ with_rule (new_app (codes "make")) (path_rule (codes "image")) = search rules in
    let job : app_of c.in_ok-job.job ≡ with_rule (with_rule (new_app (codes "make")) (path_rule (codes "image"))) (path_rule (codes "job")) = search (rules, image) in
    let out : app_of c.in_ok-out.out ≡ with_rule (with_rule (with_rule (new_app (codes "make")) (path_rule (codes "image"))) (path_rule (codes "job"))) (path_rule (codes "out")) = search (rules, job) in
    search (rules, out)
