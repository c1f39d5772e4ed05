-- What `mon` answers to the lines of its input.
use Rattle.std.specs.Prelude.{◌≡◌, ◌⊎◌, ◌++◌, codes, ℕ, List, [], ◌∷◌, Option, Result, Ok, Err}
use Rattle.std.specs.Io.KnownBytes.{Consumes, IsAtEnd}
use Rattle.std.specs.Str.{IsUtf8}
use Rattle.monitor.specs.Commands.{Carries, flow_of, order_of, text_of}
use Rattle.monitor.specs.declared.commands.Command.{Command}
use Rattle.monitor.specs.declared.commands.Flow.{Flow}
use Rattle.monitor.specs.declared.commands.Flow.TheVariants as flow
use Rattle.monitor.specs.declared.commands.MonError.{MonError}
use Rattle.monitor.specs.declared.commands.MonError.TheVariants as error
use Rattle.sandbox_run.specs.Session.{SessionView}
use Rattle.endings.specs.Streams.{IsCut, Prints, Stream}
use Rattle.commands.specs.Changes.{Exchange}
use Rattle.commands.specs.Words.{Stop}
use Rattle.endings.specs.declared.stop.Stop.TheVariants as stop

-- a run, and the addresses at which it stops
pub record Watch : Type 0 where
  pub breakpoints : List ℕ
  pub session : SessionView

abbrev pub watch : List ℕ → SessionView → Watch
watch breakpoints session = record { breakpoints = breakpoints; session = session }

-- ---- one line

-- the name of a command's error
abbrev pub error_name : MonError → List ℕ
error_name error.Unknown = codes "Unknown"
error_name error.BadNumber = codes "BadNumber"
error_name error.TooManyBreakpoints = codes "TooManyBreakpoints"
error_name error.NotThere = codes "NotThere"
error_name error.NoBytes = codes "NoBytes"
error_name error.Write = codes "Write"

abbrev pub error_line : MonError → List ℕ
error_line error = codes "error: " ++ (error_name error ++ codes "\n")

-- what is printed of a line: what its command tells of the run as it then stands, or its error
abbrev pub answer_of : ℕ → Result Command MonError → SessionView → List ℕ
answer_of vlenb (Ok command) new = text_of vlenb command new
answer_of vlenb (Err error) new = error_line error

-- whether lines go on after it
abbrev pub flow_after : Result Command MonError → Flow
flow_after (Ok command) = flow_of command
flow_after (Err error) = flow.Go

-- what a line asks for: it is no command where it is not UTF-8
abbrev pub IsOrder : List ℕ → Watch → Result Command MonError → Type 0
IsOrder line w order = (IsUtf8 line × (order ≡ order_of line w.breakpoints w.session))
    ⊎ ((¬ (IsUtf8 line)) × (order ≡ Err error.Unknown))

-- what is done of it: nothing, where it is refused
abbrev pub IsDone : ℕ → Result Command MonError → Watch → Watch → Type 0
IsDone vlenb (Ok command) old new =
    Carries vlenb command old.breakpoints new.breakpoints old.session new.session
IsDone vlenb (Err fault) old new =
    (new.breakpoints ≡ old.breakpoints) × (new.session ≡ old.session)

-- a line is done, its answer is this text, and lines go on or do not
pub record IsAnswered (vlenb : ℕ) (line : List ℕ) (old new : Watch) (text : List ℕ) (f : Flow)
    : Type 0 where
  pub order : Result Command MonError
  pub asks : IsOrder line old order
  pub done : IsDone vlenb order old new
  pub told : text ≡ answer_of vlenb order new.session
  pub goes : f ≡ flow_after order

-- ---- lines

-- no line feed
unfoldable pub IsLine : List ℕ → Type 0
IsLine [] = Unit {0}
IsLine (byte ∷ bytes) = (¬ (byte ≡ 10)) × IsLine bytes

unfoldable pub AreLines : List (List ℕ) → Type 0
AreLines [] = Unit {0}
AreLines (line ∷ lines) = IsLine line × AreLines lines

-- lines, each with its end
unfoldable pub joined : List (List ℕ) → List ℕ
joined [] = []
joined (line ∷ lines) = line ++ (10 ∷ joined lines)

-- each is answered, after which lines go on; these are the answers
unfoldable pub AreAnswered : ℕ → List (List ℕ) → Watch → Watch → List ℕ → Type 0
AreAnswered vlenb [] old new text = (new ≡ old) × (text ≡ [])
AreAnswered vlenb (line ∷ lines) old new text = (mid : Watch) × (first : List ℕ) × (rest : List ℕ)
    × IsAnswered vlenb line old mid first flow.Go × AreAnswered vlenb lines mid new rest
    × (text ≡ first ++ rest)

-- after these bytes: all lines that they end are answered, and the beginning of one is left
pub record Stands (vlenb : ℕ) (bytes left : List ℕ) (old new : Watch) (text : List ℕ)
    : Type 0 where
  pub lines : List (List ℕ)
  pub whole : bytes ≡ joined lines ++ left
  pub each : AreLines lines
  pub begun : IsLine left
  pub answered : AreAnswered vlenb lines old new text

-- one of the lines that these bytes end asks for no more, and those up to it are answered
pub record Quits (vlenb : ℕ) (bytes : List ℕ) (old new : Watch) (text : List ℕ) : Type 0 where
  pub before : List ℕ
  pub last : List ℕ
  pub later : List ℕ
  pub mid : Watch
  pub some : List ℕ
  pub answer : List ℕ
  pub whole : bytes ≡ before ++ (10 ∷ later)
  pub stands : Stands vlenb before last old mid some
  pub answered : IsAnswered vlenb last mid new answer flow.Quit
  pub told : text ≡ some ++ answer

-- bytes behind the beginning of a line, up to a line that asks for no more: what is left of them
abbrev pub GoesOver : ℕ → List ℕ → List ℕ → Stream → Stream → Watch → Watch → Flow → Type 0
GoesOver vlenb bytes left had has old new flow.Go =
    (text : List ℕ) × Prints had has text × Stands vlenb bytes left old new text
GoesOver vlenb bytes left had has old new flow.Quit =
    (text : List ℕ) × Prints had has text × Quits vlenb bytes old new text

-- the last line needs no end: what is left at the end is one, if it is anything
abbrev pub IsLast : ℕ → List ℕ → Watch → Watch → List ℕ → Type 0
IsLast vlenb [] old new text = (new ≡ old) × (text ≡ [])
IsLast vlenb left old new text = (f : Flow) × IsAnswered vlenb left old new text f

-- all lines are answered
pub record IsAll (vlenb : ℕ) (bytes : List ℕ) (old new : Watch) (text : List ℕ) : Type 0 where
  pub left : List ℕ
  pub mid : Watch
  pub some : List ℕ
  pub answer : List ℕ
  pub stands : Stands vlenb bytes left old mid some
  pub last : IsLast vlenb left mid new answer
  pub told : text ≡ some ++ answer

-- the lines of an input are answered, up to one that asks for no more, or to the end: `before` and
-- `after` are what is left of the input, and `had` and `has` what standard output has
pub record Talks (vlenb : ℕ) (before after : Option (List ℕ)) (had has : Stream)
    (old new : Watch) : Type 0 where
  pub bytes : List ℕ
  pub read : Consumes before after bytes
  pub text : List ℕ
  pub told : Prints had has text
  pub lines : Quits vlenb bytes old new text ⊎ (IsAll vlenb bytes old new text × IsAtEnd after)

-- the same of a run that was opened, without a breakpoint, and how it is left
abbrev pub AreTold : ℕ → Exchange → SessionView → SessionView → Type 0
AreTold vlenb e opened left = (breakpoints : List ℕ)
    × Talks vlenb e.before.rest e.after.rest e.had e.has (watch [] opened) (watch breakpoints left)

-- ---- lines that are not answered

-- why a line is not answered, where `later` is what was read behind it: memory ran out, and nothing
-- was printed of it; or it has its end, and of its answer no more than the beginning was printed,
-- before a write failed. `now` and `has` are standard output before and after
abbrev pub IsCutOff : ℕ → List ℕ → List ℕ → Stream → Stream → Watch → Stop → Type 0
IsCutOff vlenb line later now has w stop.Memory = has ≡ now
IsCutOff vlenb line later now has w stop.Output = (rest : List ℕ) × (later ≡ 10 ∷ rest)
    × (new : Watch) × (answer : List ℕ) × (f : Flow) × IsAnswered vlenb line w new answer f
    × IsCut now has answer
IsCutOff vlenb line later now has w other = ⊥

-- all lines that these bytes end are answered, their answers are all that was printed, and of what
-- is behind them, of standard output and of the run as they then stand `is` holds
pub record IsLeft (vlenb : ℕ) (bytes : List ℕ) (had : Stream) (old : Watch)
    (is : List ℕ → Stream → Watch → Type 0) : Type 0 where
  pub left : List ℕ
  pub mid : Watch
  pub text : List ℕ
  pub stands : Stands vlenb bytes left old mid text
  pub now : Stream
  pub told : Prints had now text
  pub there : is left now mid

-- the first lines of these bytes are answered, and then one is not
abbrev pub IsBroken : ℕ → List ℕ → Stream → Stream → Watch → Stop → Type 0
IsBroken vlenb bytes had has old reason = (before : List ℕ) × (later : List ℕ)
    × (bytes ≡ before ++ later) × IsLeft vlenb before had old
    (λ line now mid. IsCutOff vlenb line later now has mid reason)

-- the last line, which needs no end, is not answered
abbrev pub IsLastBroken : ℕ → List ℕ → Stream → Stream → Watch → Stop → Type 0
IsLastBroken vlenb bytes had has old reason = IsLeft vlenb bytes had old
    (λ line now mid. IsCutOff vlenb line (10 ∷ []) now has mid reason)
