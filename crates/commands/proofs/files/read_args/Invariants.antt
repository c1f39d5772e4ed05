use Rattle.std.proofs.Common.{◌≡◌, ℕ, ◌<◌, length, get_or}
use Rattle.job_file.specs.Needs.{run_param_lent}
use Rattle.job_file.specs.declared.values.RunParam.TheVariants as given
use Rattle.region_mem.specs.declared.arguments.Arg.TheVariants as argument
use Rattle.commands.specs.Files.{IsPassed}
use Rattle.file_store.specs.Store.{files_of}
use Rattle.commands.specs.Files.{IsFirstOf}
use Rattle.commands.specs.declared.files.TheConstants.{MOST_OF_BUFFER}
use Rattle.commands.proofs.files.read_args.Given as goal

-- the places so far have what the job passes, of each file as much as is needed, and no file was written
abbrev pub invariant-loop-place : goal.invariant-loop-place
invariant-loop-place g l = record {
  eight : length l.places ≡ 8;
  passed : (k : ℕ) → k < l.place → IsPassed (files_of (g.S.Store.held l.initial.store)) (run_param_lent (get_or l.params k given.None)) (get_or l.places k argument.None);
  first : (k : ℕ) → k < l.place → IsFirstOf (g.S.Store.known l.initial.store) MOST_OF_BUFFER (run_param_lent (get_or l.params k given.None)) (get_or l.places k argument.None);
  kept : g.S.Store.held l.store ≡ g.S.Store.held l.initial.store;
  stays : g.S.Store.known l.store ≡ g.S.Store.known l.initial.store;
}
