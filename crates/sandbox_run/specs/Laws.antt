-- Laws of runs that stand on those of memory.
use Rattle.std.specs.Prelude.{◌≡◌, None}
use Rattle.scalar_core.specs.Hart.{exit}
use Rattle.sandbox_run.specs.Words.{ForEachStart, HasExtentsOf, Memory, fetch_of, start_memory}

-- Where a run ends there is no code: at its start and after any stores, no word is fetched from
-- there.
abbrev pub ExitIsNoCode : Type 0
ExitIsNoCode =
    ForEachStart (λ image params args. (memory : Memory) →
    HasExtentsOf memory (start_memory image params args) → fetch_of exit memory ≡ None)
