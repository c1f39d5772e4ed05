use Rattle.std.proofs.Common.{◌≡◌}
use Rattle.std.specs.Map.{keys_of}
use Rattle.job_file.proofs.JobLemmas.{unknown_of}
use Rattle.job_file.proofs.fields.first_unknown.Given as goal

-- the first unknown key of those that are left is that of all
abbrev pub invariant-loop-key : goal.invariant-loop-key
invariant-loop-key l = unknown_of l.known l.key-iterator ≡ unknown_of l.known (keys_of l.table.entries)
