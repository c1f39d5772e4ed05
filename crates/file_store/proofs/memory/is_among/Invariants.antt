use Rattle.std.proofs.Common.{◌≡◌, map, drop}
use Rattle.file_store.specs.Store.{is_among}
use Rattle.file_store.specs.Memory.{path_of}
use Rattle.file_store.proofs.memory.is_among.Given as goal

-- the path is none of those so far
abbrev pub invariant-loop-one : goal.invariant-loop-one
invariant-loop-one l =
    is_among l.path (map path_of (drop l.one-index l.paths)) ≡ is_among l.fn.path (map path_of l.fn.paths)
