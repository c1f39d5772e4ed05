-- The little-endian numbers that make up a file of the ELF standard.
use Rattle.std.specs.Prelude.{ℕ, ◌<◌, List, drop, get_or}
use Rattle.std.specs.Int.{w16, w32, to_le_bytes}
use Rattle.byteorder.specs.Endian.{little_number}

-- each item of a list is a byte
abbrev pub AreBytes : List ℕ → Type 0
AreBytes bytes = (i : ℕ) → get_or bytes i 0 < 256

-- the number in the two bytes at an offset (Elf32_Half), and in the four (Elf32_Word)
unfoldable pub half_at : ℕ → List ℕ → ℕ
half_at offset file = little_number 2 (drop offset file)

unfoldable pub word_at : ℕ → List ℕ → ℕ
word_at offset file = little_number 4 (drop offset file)

-- the bytes of such a number
unfoldable pub half : ℕ → List ℕ
half n = to_le_bytes w16 n

unfoldable pub word : ℕ → List ℕ
word n = to_le_bytes w32 n
