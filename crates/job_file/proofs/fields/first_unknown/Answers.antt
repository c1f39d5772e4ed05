use Rattle.std.proofs.Common.{rules, ◌≡◌, ◌∙◌, None, Some}
use Rattle.std.specs.Map.{keys_of}
use Rattle.job_file.proofs.JobLemmas.{unknown_of, unknown_of-keys_of}
use Rattle.job_file.proofs.fields.first_unknown.Goals as goal

pub returns-then-not-is_one_of : goal.returns-then-not-is_one_of
returns-then-not-is_one_of c =
    let some : Some c.as_str-then-not-is_one_of.result.now ≡ unknown_of c.args.known.now (keys_of c.args.table.now.entries) = search rules in
    some ∙ unknown_of-keys_of c.args.known.now c.args.table.now.entries

pub returns : goal.returns
returns c =
    let none : None ≡ unknown_of c.args.known.now (keys_of c.args.table.now.entries) = search rules in
    none ∙ unknown_of-keys_of c.args.known.now c.args.table.now.entries
