-- Forms that have room.
use Rattle.std.proofs.Common.{◌≡◌, ℕ, ◌≤◌, length, Option, Some, None, refl, sym}
use Rattle.std.specs.Option.{IsSome}
use Rattle.linear_facts.specs.Forms.{Linear, within}
use Rattle.linear_facts.specs.FormLemmas.{within-there}

pub some_within : (n : ℕ) (f : Linear) (o : Option Linear) → length f.terms ≤ n → o ≡ within n f → IsSome o
some_within n f (Some g) l e = refl
some_within n f None l e = absurd (within-there n f l (sym e))
