-- Rooms for the elements of an instruction.
use Rattle.std.specs.Prelude.{ℕ, ◌*◌, ◌<◌, ◌≤◌, ◌^◌}
use Rattle.std.specs.{Borrow.RattleType, Mem.type_size}

-- A room for n elements of the type fits in memory, and holds as many elements of this size as eight
-- registers of `vlenb` bytes do.
pub record IsRoom (vlenb : ℕ) (E : RattleType) (size n : ℕ) : Type 0 where
  pub fits : n * type_size E < 2 ^ 63
  pub holds : (vl : ℕ) → size * vl ≤ 8 * vlenb → vl ≤ n
