-- What the registers hold at the start of a run.
use Rattle.std.specs.Prelude.{ℕ, ◌-◌, ◌==◌, ◌&&◌, nat_le, nat_lt, if◌then◌else◌, map}
use Rattle.std.specs.List.{range_with_len}
use Rattle.region_mem.specs.declared.layout.TheConstants.{STACK_END}
use Rattle.scalar_core.specs.declared.entry.EntryValue.{EntryValue}
use Rattle.scalar_core.specs.declared.entry.EntryValue.TheVariants.{Number, Passed}
use Rattle.scalar_core.specs.Hart.{Hart, exit, new_hart}

-- ra (x1) holds EXIT, sp (x2) the stack's end, a0 to a7 (x10 to x17) what is passed at the eight
-- places, all else 0
unfoldable pub entry_value : ℕ → EntryValue
entry_value r =
    if r == 1 then Number exit
    else (if r == 2 then Number STACK_END
    else (if nat_le 10 r && nat_lt r 18 then Passed (r - 10)
    else Number 0))

-- the number that this is, where these are passed by place
abbrev pub number_with : (ℕ → ℕ) → EntryValue → ℕ
number_with passed (Number number) = number
number_with passed (Passed place) = passed place

-- the number of a register there
abbrev pub entry_number : (ℕ → ℕ) → ℕ → ℕ
entry_number passed r = number_with passed (entry_value r)

-- the hart at the start of a run from an address
unfoldable pub entry_hart : ℕ → (ℕ → ℕ) → Hart
entry_hart pc passed = record (new_hart pc) { x = map (entry_number passed) (range_with_len 0 32) }
