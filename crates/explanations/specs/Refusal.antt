-- The text of an error with its reason.
use Rattle.std.specs.Prelude.{ℕ, ◌++◌, List, codes, Option, Some, None}

-- the error's text on a line of its own, and behind it the reason's lines
abbrev pub told : List ℕ → List ℕ → List ℕ
told error lines = codes "  " ++ (error ++ (codes "\n" ++ lines))

-- the same of texts that may not be known
abbrev pub refusal_text : Option (List ℕ) → Option (List ℕ) → Option (List ℕ)
refusal_text (Some error) (Some lines) = Some (told error lines)
refusal_text (Some error) None = None
refusal_text None lines = None
