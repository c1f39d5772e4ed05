-- The numbers at the eight places, as a C caller passes them.
use Rattle.std.specs.Prelude.{ℕ, List, [], ◌∷◌}
use Rattle.rvvbox_c.specs.declared.facts.Scalars.{Scalars}

-- by place, from a0 on
abbrev pub by_place : Scalars → List ℕ
by_place s = s.a0 ∷ s.a1 ∷ s.a2 ∷ s.a3 ∷ s.a4 ∷ s.a5 ∷ s.a6 ∷ s.a7 ∷ []
