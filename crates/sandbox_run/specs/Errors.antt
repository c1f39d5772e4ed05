-- Why a run was not started, and the words for it.
use Rattle.std.specs.Prelude.{ℕ, ◌++◌, List, codes}
use Rattle.std.specs.Fmt.{decimal}
use Rattle.region_mem.specs.declared.parameter.ArgError.TheVariants as argument_error
use Rattle.sandbox_run.specs.Words.{ArgError}
use Rattle.sandbox_run.specs.declared.outcome.OpenError.{OpenError}
use Rattle.sandbox_run.specs.declared.outcome.OpenError.TheVariants as open_error

-- the error of a run whose arguments do not match
abbrev pub open_error_of : ArgError → OpenError
open_error_of (argument_error.WrongKind place) = open_error.WrongKind place
open_error_of (argument_error.ScalarOutOfInterval place) = open_error.ScalarOutOfInterval place
open_error_of (argument_error.WrongSize place) = open_error.WrongSize place

abbrev pub error_text : OpenError → List ℕ
error_text (open_error.WrongKind place) =
    codes "the argument at place " ++ (decimal place ++ codes " is of the wrong kind")
error_text (open_error.ScalarOutOfInterval place) =
    codes "the scalar at place " ++ (decimal place ++ codes " is outside its interval")
error_text (open_error.WrongSize place) =
    codes "the buffer at place " ++ (decimal place ++ codes " is of the wrong size")
error_text open_error.BoundTooLarge = codes "the run may take too many steps"
error_text open_error.WrongVlen = codes "the image was accepted for another vector length"
error_text open_error.NoMemory = codes "out of memory"
