-- What a line asks for.
use Rattle.std.specs.Prelude.{ℕ, List, [], ◌∷◌, codes, Option, Some, None, Result, Ok, Err, if◌then◌else◌}
use Rattle.std.specs.Str.{bytes_eq}
use Rattle.monitor.specs.Lines.{words}
use Rattle.monitor.specs.Numbers.{address_of, aligned_of, count_of, number_of, register_of}
use Rattle.monitor.specs.declared.commands.Command.{Command}
use Rattle.monitor.specs.declared.commands.Command.TheVariants.{Break, Delete, Step, Continue, Registers, Vector, Csrs, Memory, List as Listing, Quit}
use Rattle.monitor.specs.declared.commands.MonError.{MonError}
use Rattle.monitor.specs.declared.commands.MonError.TheVariants.{Unknown, BadNumber}

-- a command of a number that may be bad
abbrev pub or_bad : (ℕ → Command) → Option ℕ → Result Command MonError
or_bad make None = Err BadNumber
or_bad make (Some n) = Ok (make n)

-- a command of two
abbrev pub two_or_bad : (ℕ → ℕ → Command) → Option ℕ → Option ℕ → Result Command MonError
two_or_bad make None count = Err BadNumber
two_or_bad make (Some address) None = Err BadNumber
two_or_bad make (Some address) (Some count) = Ok (make address count)

-- commands of one word
abbrev pub with_none : List ℕ → Result Command MonError
with_none name =
    if bytes_eq name (codes "c") then Ok Continue
    else (if bytes_eq name (codes "x") then Ok Registers
    else (if bytes_eq name (codes "csr") then Ok Csrs
    else (if bytes_eq name (codes "q") then Ok Quit else Err Unknown)))

-- commands of two
abbrev pub with_one : List ℕ → List ℕ → Result Command MonError
with_one name word =
    if bytes_eq name (codes "b") then or_bad Break (aligned_of word)
    else (if bytes_eq name (codes "d") then or_bad Delete (address_of word)
    else (if bytes_eq name (codes "s") then or_bad Step (number_of word)
    else (if bytes_eq name (codes "v") then or_bad Vector (register_of word) else Err Unknown)))

-- commands of three
abbrev pub with_two : List ℕ → List ℕ → List ℕ → Result Command MonError
with_two name first second =
    if bytes_eq name (codes "m") then two_or_bad Memory (address_of first) (count_of second)
    else (if bytes_eq name (codes "l") then two_or_bad Listing (address_of first) (count_of second)
    else Err Unknown)

-- The command that words are. An unknown one comes before a bad number.
abbrev pub command_from : List (List ℕ) → Result Command MonError
command_from [] = Err Unknown
command_from (name ∷ []) = with_none name
command_from (name ∷ word ∷ []) = with_one name word
command_from (name ∷ first ∷ second ∷ []) = with_two name first second
command_from (name ∷ first ∷ second ∷ third ∷ more) = Err Unknown

abbrev pub command_of : List ℕ → Result Command MonError
command_of line = command_from (words line)
