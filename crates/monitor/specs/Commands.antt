-- What commands do and tell.
use Rattle.std.specs.Prelude.{◌≡◌, ℕ, ◌*◌, List, [], codes, Option, Some, None, Result, Ok, Err, MatchResult, if◌then◌else◌}
use Rattle.std.specs.Io.KnownBytes.{Appends}
use Rattle.rv_listing.specs.Sinks.{AppendsSome, IsCounted}
use Rattle.vreg_groups.specs.Elements.{bytes_from}
use Rattle.machine.specs.Run.{has_ended}
use Rattle.machine.specs.Registers.{registers_of}
use Rattle.sandbox_run.specs.Session.{SessionView}
use Rattle.monitor.specs.Breakpoints.{delete_fault, set_fault, with_breakpoint, without_breakpoint}
use Rattle.monitor.specs.Moves.{GoesOn, Steps}
use Rattle.monitor.specs.Parse.{command_of}
use Rattle.monitor.specs.Texts.{break_text, csrs_text, gone_text, registers_text, stop_text, vector_text}
use Rattle.monitor.specs.Views.{has_bytes, has_words, lines_text, memory_text}
use Rattle.monitor.specs.declared.commands.Command.{Command}
use Rattle.monitor.specs.declared.commands.Command.TheVariants as asked
use Rattle.monitor.specs.declared.commands.Flow.{Flow}
use Rattle.monitor.specs.declared.commands.Flow.TheVariants as flow
use Rattle.monitor.specs.declared.commands.MonError.{MonError}
use Rattle.monitor.specs.declared.commands.MonError.TheVariants as error

-- why the state refuses a command: sixteen breakpoints are set and this is none of them, there is
-- none to delete, or a byte or a word that is to be shown is not there
abbrev pub fault_in : Command → List ℕ → SessionView → Option MonError
fault_in (asked.Break a) bs s = set_fault a bs
fault_in (asked.Delete a) bs s = delete_fault a bs
fault_in (asked.Step n) bs s = None
fault_in asked.Continue bs s = None
fault_in asked.Registers bs s = None
fault_in (asked.Vector r) bs s = None
fault_in asked.Csrs bs s = None
fault_in (asked.Memory a n) bs s =
    if has_bytes s.machine.memory a n then None else Some error.NoBytes
fault_in (asked.List a n) bs s =
    if has_words s.machine.memory a n then None else Some error.NoBytes
fault_in asked.Quit bs s = None

-- the breakpoints after a command
abbrev pub set_after : Command → List ℕ → List ℕ
set_after (asked.Break a) bs = with_breakpoint a bs
set_after (asked.Delete a) bs = without_breakpoint a bs
set_after (asked.Step n) bs = bs
set_after asked.Continue bs = bs
set_after asked.Registers bs = bs
set_after (asked.Vector r) bs = bs
set_after asked.Csrs bs = bs
set_after (asked.Memory a n) bs = bs
set_after (asked.List a n) bs = bs
set_after asked.Quit bs = bs

-- the run after a command
abbrev pub Moves : ℕ → Command → List ℕ → SessionView → SessionView → Type 0
Moves vlenb (asked.Break a) bs old new = new ≡ old
Moves vlenb (asked.Delete a) bs old new = new ≡ old
Moves vlenb (asked.Step n) bs old new = Steps vlenb n old new
Moves vlenb asked.Continue bs old new = GoesOn vlenb bs old new
Moves vlenb asked.Registers bs old new = new ≡ old
Moves vlenb (asked.Vector r) bs old new = new ≡ old
Moves vlenb asked.Csrs bs old new = new ≡ old
Moves vlenb (asked.Memory a n) bs old new = new ≡ old
Moves vlenb (asked.List a n) bs old new = new ≡ old
Moves vlenb asked.Quit bs old new = new ≡ old

-- the breakpoints and the run after a command
abbrev pub Carries : ℕ → Command → List ℕ → List ℕ → SessionView → SessionView → Type 0
Carries vlenb command bs after old new =
    Moves vlenb command bs old new × (after ≡ set_after command bs)

-- what a command tells of the run as it then stands
abbrev pub text_of : ℕ → Command → SessionView → List ℕ
text_of vlenb (asked.Break a) s = break_text a
text_of vlenb (asked.Delete a) s = gone_text a
text_of vlenb (asked.Step n) s = stop_text (has_ended s.machine) s.machine.hart.pc s.steps
text_of vlenb asked.Continue s = stop_text (has_ended s.machine) s.machine.hart.pc s.steps
text_of vlenb asked.Registers s = registers_text s.machine.hart.x
text_of vlenb (asked.Vector r) s =
    vector_text r (bytes_from (r * vlenb) vlenb s.machine.vectors.registers)
text_of vlenb asked.Csrs s = csrs_text (registers_of s.machine) vlenb
text_of vlenb (asked.Memory a n) s = memory_text s.machine.memory a n
text_of vlenb (asked.List a n) s = lines_text s.machine.memory a n
text_of vlenb asked.Quit s = []

abbrev pub flow_of : Command → Flow
flow_of (asked.Break a) = flow.Go
flow_of (asked.Delete a) = flow.Go
flow_of (asked.Step n) = flow.Go
flow_of asked.Continue = flow.Go
flow_of asked.Registers = flow.Go
flow_of (asked.Vector r) = flow.Go
flow_of asked.Csrs = flow.Go
flow_of (asked.Memory a n) = flow.Go
flow_of (asked.List a n) = flow.Go
flow_of asked.Quit = flow.Quit

-- a command, unless the state refuses it
abbrev pub unless : Command → Option MonError → Result Command MonError
unless command None = Ok command
unless command (Some fault) = Err fault

abbrev pub admitted : List ℕ → SessionView → Result Command MonError → Result Command MonError
admitted bs s (Ok command) = unless command (fault_in command bs s)
admitted bs s (Err fault) = Err fault

-- What is done of a line, or why nothing is: it is no command, or the state refuses it.
unfoldable pub order_of : List ℕ → List ℕ → SessionView → Result Command MonError
order_of line bs s = admitted bs s (command_of line)

-- what comes of a line that is not done, for a reason: all stays as it was
abbrev pub IsRefused : {W : Type 0} → Result Flow MonError → SessionView → SessionView → List ℕ
    → List ℕ → W → W → MonError → Type 0
IsRefused result was is held holds told tells fault =
    (result ≡ Err fault) × (is ≡ was) × (holds ≡ held) × (tells ≡ told)

-- what a command that is carried out answers and tells: all, or, after a failure that was counted,
-- the beginning
abbrev pub Answers :
    ℕ → Result Flow MonError → Command → SessionView → Option (List ℕ) → Option (List ℕ)
    → ℕ → ℕ → Type 0
Answers vlenb result command s old new before now = MatchResult result
    (λ f. (f ≡ flow_of command) × Appends old new (text_of vlenb command s) × (now ≡ before))
    (λ e. (e ≡ error.Write) × AppendsSome old new (text_of vlenb command s) × IsCounted before now)

-- why a line was not done, or not told, in words
abbrev pub error_text : MonError → List ℕ
error_text error.Unknown = codes "unknown command"
error_text error.BadNumber = codes "no number that the command takes"
error_text error.TooManyBreakpoints = codes "sixteen breakpoints are set"
error_text error.NotThere = codes "no breakpoint there"
error_text error.NoBytes = codes "no bytes there"
error_text error.Write = codes "the text could not be written"
