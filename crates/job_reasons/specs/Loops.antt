-- Why no certificate is made of a loop for a job's parameters, and the words for it.
use Rattle.std.specs.Prelude.{◌≡◌, ℕ, ◌+◌, ◌++◌, List, [], ◌∷◌, codes}
use Rattle.std.specs.Fmt.{decimal}
use Rattle.cert_maker.specs.declared.refusal.Misfit.{Misfit}
use Rattle.region_mem.specs.declared.parameter.Mode.{Mode}
use Rattle.region_mem.specs.declared.parameter.Mode.TheVariants as mode
use Rattle.region_mem.specs.declared.parameter.Param.{Param}
use Rattle.region_mem.specs.declared.parameter.Param.TheVariants as parameter
use Rattle.job_reasons.specs.Make.{IsWordReason, make_text}
use Rattle.job_reasons.specs.declared.loops.LoopReason.{LoopReason}

-- The reason for a loop: the word that does not fit, with its own reason, and all parameters.
pub record IsLoopReason (given : List Param) (misfit : Misfit) (told : LoopReason) : Type 0 where
  pub word : IsWordReason misfit told.word
  pub params : told.params ≡ given

-- ---- the words

-- a mode as jobs spell it
abbrev pub mode_name : Mode → List ℕ
mode_name mode.Read = codes "r"
mode_name mode.ReadWrite = codes "rw"

-- what is passed at a place; there is no line where nothing is
abbrev pub param_line : ℕ → Param → List ℕ
param_line place parameter.None = []
param_line place (parameter.Scalar lo hi) = codes "  a" ++ (decimal place
    ++ (codes ": scalar from " ++ (decimal lo ++ (codes " to " ++ (decimal hi ++ codes "\n")))))
param_line place (parameter.Buffer mode size) = codes "  a" ++ (decimal place
    ++ (codes ": buffer of " ++ (decimal size
    ++ (codes " bytes, mode " ++ (mode_name mode ++ codes "\n")))))

-- the lines of the parameters from a place on
unfoldable pub param_lines : ℕ → List Param → List ℕ
param_lines place [] = []
param_lines place (param ∷ params) = param_line place param ++ param_lines (place + 1) params

-- the lines of a reason
abbrev pub loop_text : LoopReason → List ℕ
loop_text told = make_text told.word ++ param_lines 0 told.params
