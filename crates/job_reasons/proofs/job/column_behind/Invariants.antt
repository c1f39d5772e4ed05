-- The column behind the bytes so far.
use Rattle.std.proofs.Common.{◌≡◌, ◌≤◌, ◌+◌, take}
use Rattle.std.specs.Prelude.{fold}
use Rattle.job_reasons.specs.Job.{next_column}
use Rattle.job_reasons.proofs.job.column_behind.Given as goal

abbrev pub invariant-loop-byte : goal.invariant-loop-byte
invariant-loop-byte l = record {
  column : l.column ≡ fold next_column 1 (take l.byte-index l.bytes);
  few : l.column ≤ l.byte-index + 1;
}
