-- The addresses at which a run that goes on stops.
use Rattle.std.specs.Prelude.{ℕ, ◌==◌, Bool, List, [], ◌∷◌, ◌++◌, not, filter, length, Option, Some, None, if◌then◌else◌}
use Rattle.std.specs.List.{list_any}
use Rattle.monitor.specs.declared.commands.MonError.{MonError}
use Rattle.monitor.specs.declared.commands.MonError.TheVariants.{TooManyBreakpoints, NotThere}

abbrev pub is_set : ℕ → List ℕ → Bool
is_set address breakpoints = list_any (λ b. b == address) breakpoints

-- why one is not set, and not deleted
abbrev pub set_fault : ℕ → List ℕ → Option MonError
set_fault address breakpoints =
    if is_set address breakpoints then None
    else (if length breakpoints == 16 then Some TooManyBreakpoints else None)

abbrev pub delete_fault : ℕ → List ℕ → Option MonError
delete_fault address breakpoints = if is_set address breakpoints then None else Some NotThere

-- with one, at the end where it is new, and without it
abbrev pub with_breakpoint : ℕ → List ℕ → List ℕ
with_breakpoint address breakpoints =
    if is_set address breakpoints then breakpoints else breakpoints ++ address ∷ []

abbrev pub without_breakpoint : ℕ → List ℕ → List ℕ
without_breakpoint address breakpoints = filter (λ b. not (b == address)) breakpoints
