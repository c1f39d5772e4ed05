-- The instructions that set vtype and vl ("Vector Configuration-Setting Instructions").
use Rattle.std.specs.Prelude.{ℕ, ◌==◌, if◌then◌else◌, Ok}
use Rattle.rv_decode.specs.declared.instructions.VSet.TheVariants.{Vsetvli, Vsetivli, Vsetvl}
use Rattle.vreg_groups.specs.VectorLength.{vset_of}
use Rattle.vreg_groups.specs.declared.vector_length.Avl.TheVariants.{Keep, Greatest, Of}
use Rattle.vector_core.specs.Words.{Avl, Hart, Memory, VSet, Vconfig, advanced, reg_of, with_reg}
use Rattle.vector_core.specs.Vectors.{Stepped, Vectors}
use Rattle.vector_core.specs.declared.configuration.Request.{Request}

-- the application vector length: x[rs1]; with rs1 = x0 the greatest, or the present vl where rd is
-- x0 too
abbrev pub avl_of : ℕ → ℕ → Hart → Avl
avl_of rd rs1 hart = if rs1 == 0 then (if rd == 0 then Keep else Greatest) else Of (reg_of rs1 hart)

-- what an instruction asks for
unfoldable pub request_of : VSet → Hart → Request
request_of (Vsetvli rd rs1 vtype) hart = record { rd = rd; avl = avl_of rd rs1 hart; vtype = vtype }
request_of (Vsetivli rd avl vtype) hart = record { rd = rd; avl = Of avl; vtype = vtype }
request_of (Vsetvl rd rs1 rs2) hart =
    record { rd = rd; avl = avl_of rd rs1 hart; vtype = reg_of rs2 hart }

-- vtype and vl, and vl in rd
abbrev pub configured : Request → Vconfig → Hart → Vectors → Memory → Stepped
configured request config hart v memory =
    Ok (advanced (with_reg request.rd config.vl hart), record v { config = config }, memory)

unfoldable pub vset_step : ℕ → VSet → Hart → Vectors → Memory → Stepped
vset_step vlenb insn hart v memory =
    let request = request_of insn hart in
    configured request (vset_of vlenb v.config request.avl request.vtype) hart v memory
