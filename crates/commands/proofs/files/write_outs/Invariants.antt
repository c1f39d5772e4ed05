use Rattle.std.proofs.Common.{map, take}
use Rattle.job_file.specs.Needs.{run_param_lent}
use Rattle.commands.specs.Files.{outs_of}
use Rattle.file_store.specs.Written.{Gains}
use Rattle.commands.proofs.files.write_outs.Given as goal

-- the out files of the places so far were written
abbrev pub invariant-loop-place : goal.invariant-loop-place
invariant-loop-place g l = Gains (g.S.Store.held l.initial.store) (g.S.Store.held l.store)
    (outs_of (take l.place (map run_param_lent l.params)) (take l.place l.args))
