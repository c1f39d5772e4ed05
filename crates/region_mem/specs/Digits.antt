-- How addresses and words are told.
use Rattle.std.specs.Prelude.{ℕ, List, length, replicate, ◌++◌, ◌-◌, false}
use Rattle.std.specs.Fmt.{digits}

-- zeros before the digits, so that there are eight
abbrev pub filled : List ℕ → List ℕ
filled shown = replicate (8 - length shown) 48 ++ shown

abbrev pub digits_text : ℕ → List ℕ
digits_text number = filled (digits 16 false number)
