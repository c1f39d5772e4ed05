-- Why a run was not started, and the words for it.
use Rattle.std.specs.Prelude.{ℕ, ◌++◌, List, [], length, codes, Option, Some, None}
use Rattle.std.specs.Fmt.{decimal}
use Rattle.std.specs.List.{slice_get}
use Rattle.region_mem.specs.declared.arguments.Arg.{Arg}
use Rattle.region_mem.specs.declared.arguments.Arg.TheVariants as arg
use Rattle.region_mem.specs.declared.parameter.Mode.TheVariants as mode
use Rattle.region_mem.specs.declared.parameter.Param.{Param}
use Rattle.region_mem.specs.declared.parameter.Param.TheVariants as parameter
use Rattle.sandbox_run.specs.declared.outcome.OpenError.{OpenError}
use Rattle.sandbox_run.specs.declared.outcome.OpenError.TheVariants as error
use Rattle.job_reasons.specs.declared.open.Given.{Given}
use Rattle.job_reasons.specs.declared.open.Given.TheVariants as given
use Rattle.job_reasons.specs.declared.open.OpenReason.{OpenReason}
use Rattle.job_reasons.specs.declared.open.OpenReason.TheVariants as reason

-- what was passed, of a buffer how many bytes it has
abbrev pub given_of : Arg (List ℕ) → Given
given_of arg.None = given.None
given_of (arg.Scalar number) = given.Scalar number
given_of (arg.Buffer bytes) = given.Buffer (length bytes)

abbrev pub told_argument : ℕ → Option Param → Option (Arg (List ℕ)) → OpenReason
told_argument place None passed = reason.Untold
told_argument place (Some wanted) None = reason.Untold
told_argument place (Some wanted) (Some passed) = reason.Argument place wanted (given_of passed)

-- what the parameter at a place wants, and what was passed there
abbrev pub argument_at : ℕ → List Param → List (Arg (List ℕ)) → OpenReason
argument_at place params args = told_argument place (slice_get params place) (slice_get args place)

-- why a run of these arguments is not started
abbrev pub reason_of : List Param → List (Arg (List ℕ)) → ℕ → ℕ → OpenError → OpenReason
reason_of params args bound max (error.WrongKind place) = argument_at place params args
reason_of params args bound max (error.ScalarOutOfInterval place) = argument_at place params args
reason_of params args bound max (error.WrongSize place) = argument_at place params args
reason_of params args bound max error.BoundTooLarge = reason.Bound bound max
reason_of params args bound max error.WrongVlen = reason.Length
reason_of params args bound max error.NoMemory = reason.Untold

-- ---- the words

abbrev pub param_text : Param → List ℕ
param_text parameter.None = codes "nothing"
param_text (parameter.Scalar lo hi) =
    codes "a number in " ++ (decimal lo ++ (codes "..=" ++ decimal hi))
param_text (parameter.Buffer mode.Read size) =
    codes "a buffer of " ++ (decimal size ++ codes " bytes to read")
param_text (parameter.Buffer mode.ReadWrite size) =
    codes "a buffer of " ++ (decimal size ++ codes " bytes to read and write")

abbrev pub given_text : Given → List ℕ
given_text given.None = codes "nothing"
given_text (given.Scalar number) = codes "the number " ++ decimal number
given_text (given.Buffer size) = codes "a buffer of " ++ (decimal size ++ codes " bytes")

-- the lines of a reason
abbrev pub open_text : OpenReason → List ℕ
open_text reason.Untold = []
open_text (reason.Argument place wanted passed) = codes "  wanted at place " ++ (decimal place
    ++ (codes ": " ++ (param_text wanted ++ (codes "\n  passed: " ++ (given_text passed
    ++ codes "\n")))))
open_text (reason.Bound bound max) = codes "  bound of the run: " ++ (decimal bound
    ++ (codes "\n  wanted: at most " ++ (decimal max ++ codes "\n")))
open_text reason.Length = codes "  wanted: the length of vector registers of the certificate\n"
