-- The command line: which words name which subcommand and paths, over `clap`'s own
-- account of a command.
use Rattle.std.specs.Prelude.{◌≡◌, List, [], Option, Some, None, Result, Ok, option_and_then, option_map, if◌then◌else◌, codes, Bool, true, false}
use Rattle.std.specs.declared.alloc.AllocError.{AllocError}
use Rattle.std.specs.Str.{bytes_eq}
use Rattle.command_line.specs.Words.{Check, kind_of, Kinds, Line, LineError, Make, Mon, Run, Try}
use Rattle.clap.specs.Words.{App, Row, Rule, Shape, Text, fault_of, first_of, new_app, new_rule, shape_of, subcommand_of, with_rule, with_subcommand, IsAmong}
use Rattle.clap.specs.Simple.{new_shape}
use Rattle.clap.specs.declared.builder.action.ArgAction.TheVariants.{Set, SetTrue}
use Rattle.clap.specs.declared.builder.command.Command.{Command}
use Rattle.commands.specs.declared.makes.MakePaths.{MakePaths}
use Rattle.command_line.specs.declared.line.asked.LineError.TheVariants.{Usage, NoMemory}

-- a path, an argument without a dash that has to be there
abbrev pub path_rule : Text → Rule
path_rule id = record (new_rule id) { action = Some Set; required = true; value_names = 1 }

-- a flag, which has no value
abbrev pub flag_rule : Text → Rule
flag_rule id = record (new_rule id) { long = Some id; action = Some SetTrue }

-- `--explain`
abbrev pub explain_rule : Rule
explain_rule = flag_rule (codes "explain")

-- a subcommand of this name, with one path and `--explain`
abbrev pub path_shape : Text → Text → Shape
path_shape name id = (with_rule (with_rule (new_app name) (path_rule id)) explain_rule).top

-- a subcommand of this name that tells how a run ended: a job, `--explain` and `--registers`
abbrev pub told_shape : Text → Shape
told_shape name = (with_rule (with_rule (with_rule (new_app name) (path_rule (codes "job")))
    explain_rule) (flag_rule (codes "registers"))).top

-- `rvvbox` with no subcommand yet, whose version is that of its subcommands too
abbrev pub bare_app : App
bare_app = record {
  top = record (new_shape (codes "rvvbox")) {
    subcommand_required = true;
    propagate_version = true;
    has_version = true;
  };
  subs = [];
}

-- `check IMAGE`, `run JOB`, `try JOB`, `mon JOB` and `make IMAGE JOB OUT`, each with `--explain`,
-- and `run` and `try` with `--registers`
abbrev pub check_shape : Shape
check_shape = path_shape (codes "check") (codes "image")

abbrev pub run_shape : Shape
run_shape = told_shape (codes "run")

abbrev pub try_shape : Shape
try_shape = told_shape (codes "try")

abbrev pub mon_shape : Shape
mon_shape = path_shape (codes "mon") (codes "job")

abbrev pub make_shape : Shape
make_shape = (with_rule (with_rule (with_rule (with_rule (new_app (codes "make"))
    (path_rule (codes "image"))) (path_rule (codes "job"))) (path_rule (codes "out")))
    explain_rule).top

-- `rvvbox` as `clap` sees it
abbrev pub app : App
app = with_subcommand (with_subcommand (with_subcommand (with_subcommand (with_subcommand bare_app
    check_shape) run_shape) try_shape) mon_shape) make_shape

-- `after` is `before` with one more subcommand, which was made
abbrev pub IsWith : App → Result Command AllocError → App → Type 0
IsWith before sub after =
    (made : Command) × (sub ≡ Ok made) × (after ≡ with_subcommand before (shape_of made))

-- the path that matches of a subcommand hold under an id, where the subcommand has this name
abbrev pub path_of : Text → Text → Option (Text × List Row) → Option Text
path_of name id entered =
    option_and_then (λ p. if bytes_eq p.0 name then first_of id p.1 else None) entered

-- the text is `true`, as that of a flag that was used
abbrev pub is_true : Option Text → Bool
is_true None = false
is_true (Some text) = bytes_eq text (codes "true")

-- whether matches of a subcommand hold a flag that was used under an id, where the
-- subcommand has this name
abbrev pub flag_of : Text → Text → Option (Text × List Row) → Bool
flag_of name id entered = is_true (path_of name id entered)

-- the paths that matches hold, where the subcommand is `make`: of the image, of the job, and of
-- the file that is written
abbrev pub make_paths_of : Option (Text × List Row) → Option (Text × Text × Text)
make_paths_of entered =
    option_and_then (λ image. option_and_then (λ job. option_map (λ out. (image, job, out))
    (path_of (codes "make") (codes "out") entered)) (path_of (codes "make") (codes "job") entered))
    (path_of (codes "make") (codes "image") entered)

abbrev pub texts_of : MakePaths → Text × Text × Text
texts_of paths = (paths.image.now, paths.job.now, paths.out.now)

-- `clap` takes the words, and its matches give the subcommand of this name this path
abbrev pub IsPathOf : List Text → Text → Text → Text → Type 0
IsPathOf words name id path =
    (fault_of app words ≡ []) × (path_of name id (subcommand_of app words) ≡ Some path)

-- and whether a flag is among its words
abbrev pub IsFlagged : List Text → Text → Text → Bool → Type 0
IsFlagged words name flag asked = asked ≡ flag_of name flag (subcommand_of app words)

abbrev pub IsExplained : List Text → Text → Bool → Type 0
IsExplained words name explain = IsFlagged words name (codes "explain") explain

-- the job of a subcommand that tells how a run ended, and whether it is to explain, and to show
-- the registers
abbrev pub IsToldOf : List Text → Text → Text → Bool → Bool → Type 0
IsToldOf words name job explain registers =
    IsPathOf words name (codes "job") job × IsExplained words name explain
    × IsFlagged words name (codes "registers") registers

-- the same of the paths of `make`
abbrev pub AreMakePathsOf : List Text → MakePaths → Type 0
AreMakePathsOf words paths =
    (fault_of app words ≡ []) × (make_paths_of (subcommand_of app words) ≡ Some (texts_of paths))

-- the subcommand, its paths and its flags
abbrev pub IsLineOf : List Text → Line → Type 0
IsLineOf words (Check image explain) =
    IsPathOf words (codes "check") (codes "image") image.now
    × IsExplained words (codes "check") explain
IsLineOf words (Run job explain registers) =
    IsToldOf words (codes "run") job.now explain registers
IsLineOf words (Try job explain registers) =
    IsToldOf words (codes "try") job.now explain registers
IsLineOf words (Mon job explain) =
    IsPathOf words (codes "mon") (codes "job") job.now × IsExplained words (codes "mon") explain
IsLineOf words (Make paths explain) =
    AreMakePathsOf words paths × IsExplained words (codes "make") explain

-- matches ask for what words do that `clap` takes and to which it gives them
abbrev pub IsTaken : Option (Text × List Row) → Option Line → Type 0
IsTaken entered asked = (words : List Text) → fault_of app words ≡ []
    → entered ≡ subcommand_of app words
    → (line : Line) × (asked ≡ Some line) × IsLineOf words line

-- a fault of usage is one of those that `clap` finds, of the kind that the error shows
abbrev pub IsFaultIn : Kinds → LineError → Type 0
IsFaultIn kinds (Usage e) = IsAmong (kind_of e) kinds
IsFaultIn kinds NoMemory = Unit {0}

abbrev pub IsFaultOf : List Text → LineError → Type 0
IsFaultOf words e = IsFaultIn (fault_of app words) e
