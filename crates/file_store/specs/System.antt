-- What is done to files of the system, where it is known what they are.
use Rattle.std.specs.Prelude.{◌≡◌, if◌then◌else◌, ℕ, List, [], take, Option, Some, None}
use Rattle.std.specs.Str.{bytes_eq}

-- what the file at a path has, if there is one
abbrev pub Known : Type 0
Known = List ℕ → Option (List ℕ)

-- a reader has all bytes of the file at a path
abbrev pub IsOpened : Option Known → List ℕ → Option (List ℕ) → Type 0
IsOpened None path left = Unit {0}
IsOpened (Some files) path left =
    (bytes : List ℕ) × (files path ≡ Some bytes) × (left ≡ Some bytes)

-- these are the first bytes of the file at a path, at most `most`
abbrev pub IsFirst : Option Known → List ℕ → ℕ → List ℕ → Type 0
IsFirst None path most first = Unit {0}
IsFirst (Some files) path most first =
    (bytes : List ℕ) × (files path ≡ Some bytes) × (first ≡ take most bytes)

-- the file at a path has these bytes, and no other file changes
abbrev pub IsPut : Option Known → Option Known → List ℕ → List ℕ → Type 0
IsPut None new path bytes = Unit {0}
IsPut (Some old) None path bytes = ⊥
IsPut (Some old) (Some new) path bytes =
    (p : List ℕ) → new p ≡ (if bytes_eq path p then Some bytes else old p)

-- a writer has no byte yet
abbrev pub IsEmpty : Option Known → Option (List ℕ) → Type 0
IsEmpty None held = Unit {0}
IsEmpty (Some files) held = held ≡ Some []

-- the same of what a writer holds
abbrev pub IsClosed : Option Known → Option Known → List ℕ → Option (List ℕ) → Type 0
IsClosed old new path None = Unit {0}
IsClosed old new path (Some bytes) = IsPut old new path bytes
