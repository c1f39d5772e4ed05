-- Bytes chosen lane by lane ("Vector Masking").
use Rattle.std.specs.Prelude.{ℕ, ◌==◌, if◌then◌else◌, List, [], ◌∷◌}

-- in each lane the value where the flag is not 0, else the other
unfoldable pub chosen : List ℕ → List ℕ → List ℕ → List ℕ
chosen (flag ∷ active) (value ∷ values) (other ∷ others) =
    (if flag == 0 then other else value) ∷ chosen active values others
chosen active values others = []
