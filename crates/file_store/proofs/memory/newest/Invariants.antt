use Rattle.std.proofs.Common.{◌≡◌, None, map, option_map, drop, List, ℕ}
use Rattle.std.specs.Borrow.{Bor}
use Rattle.file_store.specs.Store.{last_at}
use Rattle.file_store.specs.Memory.{entry_of}
use Rattle.file_store.proofs.memory.newest.Given as goal

-- what the files that are left find after what was found
abbrev pub invariant-loop-file : goal.invariant-loop-file
invariant-loop-file l =
    last_at l.path (map entry_of (drop l.file-index l.files)) (option_map (λ (bytes : Bor (List ℕ)). bytes.now) l.found)
    ≡ last_at l.fn.path (map entry_of l.fn.files) None
