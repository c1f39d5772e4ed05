-- The whole state of a run.
use Rattle.vector_core.specs.{Words.Hart, Words.Memory, Vectors.Vectors}

-- pc and the scalar registers; the vector registers, vtype and vl; memory
pub record Machine : Type 0 where
  pub hart : Hart
  pub vectors : Vectors
  pub memory : Memory
