-- What commands show of memory.
use Rattle.std.specs.Prelude.{ℕ, zero, suc, ◌+◌, ◌*◌, ◌^◌, nat_lt, Bool, true, ◌&&◌, List, ◌++◌, codes, Option, None, is_some, if◌then◌else◌}
use Rattle.region_mem.specs.Memory.{Memory, byte_of, fetch_of}
use Rattle.rv_listing.specs.Pieces.{word_text}
use Rattle.monitor.specs.Texts.{texts, byte_text, line_text}

-- The byte at an address, whatever the rights, and the word that is fetched there. No address is
-- 2^32 or more.
unfoldable pub byte_at : Memory → ℕ → Option ℕ
byte_at memory address = if nat_lt address (2 ^ 32) then byte_of address memory else None

unfoldable pub word_at : Memory → ℕ → Option ℕ
word_at memory address = if nat_lt address (2 ^ 32) then fetch_of address memory else None

-- a test holds of the first n
unfoldable pub all_first : (ℕ → Bool) → ℕ → Bool
all_first test zero = true
all_first test (suc n) = all_first test n && test n

-- n bytes, and n words, from an address on are there
unfoldable pub has_bytes : Memory → ℕ → ℕ → Bool
has_bytes memory address n = all_first (λ i. is_some (byte_at memory (address + i))) n

unfoldable pub has_words : Memory → ℕ → ℕ → Bool
has_words memory address n = all_first (λ i. is_some (word_at memory (address + 4 * i))) n

-- the bytes, and the words, a line each
unfoldable pub memory_text : Memory → ℕ → ℕ → List ℕ
memory_text memory address n =
    word_text address
    ++ (codes "=" ++ (texts (λ i. byte_text (byte_at memory (address + i))) n ++ codes "\n"))

unfoldable pub lines_text : Memory → ℕ → ℕ → List ℕ
lines_text memory address n =
    texts (λ i. line_text (address + 4 * i) (word_at memory (address + 4 * i))) n
