-- What every vector instruction works under.
use Rattle.vector_core.specs.Words.{Setup, Vtype}
pub use Rattle.vreg_groups.specs.Setup.{IsReady, IsSetup, group_at}
use Rattle.vector_core.specs.Vectors.{Vectors}

-- the type that legality decoded, vl, and what becomes of agnostic elements
abbrev pub setup_of : Vtype → Vectors → Setup
setup_of t v = record { vtype = t; vl = v.config.vl; agnostic = v.agnostic }
