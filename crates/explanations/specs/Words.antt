-- The line for a word at an address, and the line for its listing.
use Rattle.std.specs.Prelude.{ℕ, ◌++◌, List, [], codes, Option, Some, None, String, string_bytes}
use Rattle.explanations.specs.Address.{address_text}

abbrev pub word_line : ℕ → Option ℕ → List ℕ
word_line pc None = codes "  at " ++ (address_text pc ++ codes ": no word\n")
word_line pc (Some word) = codes "  at " ++ (address_text pc ++ (codes ": "
    ++ (address_text word ++ codes "\n")))

abbrev pub listing_line : {A : Type 0} → Option (String A) → List ℕ
listing_line None = []
listing_line (Some text) = codes "  that is " ++ (string_bytes text ++ codes "\n")
