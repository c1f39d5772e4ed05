-- What is printed on a stream.
use Rattle.std.specs.Prelude.{◌≡◌, ◌⊎◌, ℕ, List, Option}
use Rattle.std.specs.Io.KnownBytes.{Appends}
use Rattle.rv_listing.specs.Sinks.{AppendsSome, IsCounted}

-- what a sink has taken, where that is known, and how many of its writes have failed
pub record Stream : Type 0 where
  pub holds : Option (List ℕ)
  pub failures : ℕ

abbrev pub stream : Option (List ℕ) → ℕ → Stream
stream holds failures = record { holds = holds; failures = failures }

-- all of a text was taken
abbrev pub Prints : Stream → Stream → List ℕ → Type 0
Prints old new text = Appends old.holds new.holds text × (new.failures ≡ old.failures)

-- its beginning was taken, and then a write failed, which was counted
abbrev pub IsCut : Stream → Stream → List ℕ → Type 0
IsCut old new text = AppendsSome old.holds new.holds text × IsCounted old.failures new.failures

-- one of the two
abbrev pub IsTold : Stream → Stream → List ℕ → Type 0
IsTold old new text = Prints old new text ⊎ IsCut old new text
