-- How addresses, words and bytes are told.
use Rattle.std.specs.Prelude.{ℕ, ◌-◌, List, length, replicate, codes, ◌++◌, false}
use Rattle.std.specs.Fmt.{digits}
use Rattle.region_mem.specs.Digits.{digits_text}

abbrev pub address_text : ℕ → List ℕ
address_text number = codes "0x" ++ digits_text number

-- the digits of base 16 with zeros before them, so that there are two
abbrev pub byte_text : ℕ → List ℕ
byte_text byte = replicate (2 - length (digits 16 false byte)) 48 ++ digits 16 false byte
