-- Lines, as they are typed: words with one space between.
use Rattle.std.specs.Prelude.{ℕ, ◌==◌, List, [], ◌∷◌, Option, Some, None, if◌then◌else◌}
use Rattle.std.specs.Borrow.{Bor}

-- a byte before the first word
abbrev pub before_words : ℕ → List (List ℕ) → List (List ℕ)
before_words byte [] = (byte ∷ []) ∷ []
before_words byte (word ∷ more) = (byte ∷ word) ∷ more

-- A line's words. Each space, whose code is 32, ends one, so an empty line is one empty word.
unfoldable pub words : List ℕ → List (List ℕ)
words [] = [] ∷ []
words (byte ∷ bytes) = if byte == 32 then [] ∷ words bytes else before_words byte (words bytes)

-- the words of what is left of a line
abbrev pub rest_words : Option (Bor (List ℕ)) → List (List ℕ)
rest_words None = []
rest_words (Some rest) = words rest.now
