-- What the words say of how the program ends, and of what it does.
use Rattle.std.specs.Prelude.{◌≡◌, ◌≤◌, ◌+◌, ◌⊎◌, codes, Bool, ℕ, List, Option, not, true, false, []}
use Rattle.std.specs.List.{list_any}
use Rattle.std.specs.declared.io.ErrorKind.{ErrorKind as IoErrorKind}
use Rattle.std.specs.declared.io.ErrorKind.TheVariants.{OutOfMemory}
use Rattle.command_line.specs.Words.{Check, Kinds, Line, Make, Mon, Run, Try}
use Rattle.clap.specs.Words.{Text, fault_of}
use Rattle.commands.specs.Checks.{Checks, StopsCheck}
use Rattle.endings.specs.Ending.{Ends}
use Rattle.commands.specs.Files.{OfTable, StopsOfTable}
use Rattle.file_store.specs.Store.{Files}
use Rattle.commands.specs.Makes.{Makes, StopsMake}
use Rattle.commands.specs.Mons.{BeforeAll, Mons, StopsMon}
use Rattle.commands.specs.Runs.{Runs, StopsRun}
use Rattle.endings.specs.Streams.{IsTold, Stream}
use Rattle.commands.specs.Changes.{Exchange, IsQuiet, Wrote, change}
use Rattle.file_store.specs.Sources.{Input}
use Rattle.commands.specs.Tries.{StopsTry, Tries}
use Rattle.endings.specs.Texts.{stop_text}
use Rattle.file_store.specs.Written.{Gains, Held}
use Rattle.endings.specs.declared.did.Did.{Did}
use Rattle.endings.specs.declared.stop.Status.{Status}
use Rattle.endings.specs.declared.halt.Halt.{Halt}
use Rattle.endings.specs.declared.halt.Halt.TheVariants as halt
use Rattle.endings.specs.declared.stop.Stop.TheVariants as stop
use Rattle.file_store.specs.declared.store.TheConstants.{MOST_READS}
use Rattle.command_line.specs.Asked.{is_help}
use Rattle.command_line.specs.Line.{IsLineOf, app}
use Rattle.endings.specs.declared.stop.Status.TheVariants as status

-- a status, where `clap` finds these faults in the words, one at least; `cut` says that standard
-- output took no more than the beginning of what was asked for
abbrev pub IsRefusal : Kinds → Type 0 → Status → Type 0
IsRefusal kinds cut status.Usage = list_any (λ kind. not (is_help kind)) kinds ≡ true
IsRefusal kinds cut status.Done = list_any is_help kinds ≡ true
IsRefusal kinds cut status.File = (list_any is_help kinds ≡ true) × cut
IsRefusal kinds cut status.Memory = Unit {0}
IsRefusal kinds cut other = ⊥

-- a status, where `clap` finds these faults in the words: where it finds none, any
abbrev pub IsStatusFor : Kinds → Type 0 → Status → Type 0
IsStatusFor [] cut s = Unit {0}
IsStatusFor kinds cut s = IsRefusal kinds cut s

-- where `clap` finds a fault in the words, no file is read or written, and the input is not read:
-- `old` and `new` are the counts of reads of files
abbrev pub IsUntouched : Kinds → Option Held → Option Held → Option Input → Option Input → Exchange
    → Type 0
IsUntouched [] was has old new e = Unit {0}
IsUntouched kinds was has old new e = (has ≡ was) × (new ≡ old) × (e.after ≡ e.before)

-- and where that is the answer, or memory ran out, nothing is printed on standard output
abbrev pub IsSilent : Kinds → Exchange → Status → Type 0
IsSilent [] e s = Unit {0}
IsSilent kinds e status.Usage = e.has ≡ e.had
IsSilent kinds e status.Memory = e.has ≡ e.had
IsSilent kinds e other = Unit {0}

-- what standard error has: of want of memory that it is so, and of help and the version nothing
abbrev pub IsRefusalTold : Kinds → Stream → Stream → Status → Type 0
IsRefusalTold [] told tells s = Unit {0}
IsRefusalTold kinds told tells status.Memory = IsTold told tells (stop_text stop.Memory)
IsRefusalTold kinds told tells status.Done = tells ≡ told
IsRefusalTold kinds told tells other = Unit {0}

-- the input is read for `mon` alone, and not more often than this
abbrev pub IsHeard : Line → Exchange → Type 0
IsHeard (Check image explain) e = e.after ≡ e.before
IsHeard (Run job explain registers) e = e.after ≡ e.before
IsHeard (Try job explain registers) e = e.after ≡ e.before
IsHeard (Mon job explain) e = e.after.reads ≤ e.before.reads + MOST_READS
IsHeard (Make paths explain) e = e.after ≡ e.before

-- what a command line's subcommand does with its paths: `e` is what is read and printed, and `was`
-- and `has` are the files before and after
abbrev pub Does : Files → Line → Exchange → Option Held → Option Held → Did → Type 0
Does files (Check image explain) e was has = Checks files image.now (change was has e.had e.has)
Does files (Run job explain registers) e was has =
    OfTable files job.now (λ table. Runs files registers table (change was has e.had e.has))
Does files (Try job explain registers) e was has =
    OfTable files job.now (λ table. Tries files registers table (change was has e.had e.has))
Does files (Mon job explain) e was has =
    OfTable files job.now (λ table. Mons files table e was has)
Does files (Make paths explain) e was has = OfTable files paths.job.now
    (λ table. Makes files paths.image.now paths.out.now table (change was has e.had e.has))

-- why it stops
abbrev pub Stops : Files → Line → Exchange → Option Held → Option Held → Halt → Type 0
Stops files (Check image explain) e was has =
    StopsCheck files (change was has e.had e.has) image.now
Stops files (Run job explain registers) e was has =
    let c = change was has e.had e.has in
    StopsOfTable files (Wrote c) job.now (StopsRun files registers c)
Stops files (Try job explain registers) e was has =
    let c = change was has e.had e.has in
    StopsOfTable files (Wrote c) job.now (StopsTry files registers c)
Stops files (Mon job explain) e was has =
    StopsOfTable files (BeforeAll e (Gains was has)) job.now
    (StopsMon MOST_READS files e (Gains was has))
Stops files (Make paths explain) e was has =
    let c = change was has e.had e.has in
    StopsOfTable files (Wrote c) paths.job.now
    (StopsMake files c paths.image.now paths.out.now)

-- whether it is to explain
abbrev pub explains : Line → Bool
explains (Check image explain) = explain
explains (Run job explain registers) = explain
explains (Try job explain registers) = explain
explains (Mon job explain) = explain
explains (Make paths explain) = explain

-- words in which `clap` finds no fault end as the subcommand does that they name, or memory runs
-- out before anything is read or printed. `e` is what is read and printed, `was` and `has` are the
-- files before and after, and `told` and `tells` what standard error has
abbrev pub IsAsAsked : Files → List Text → Exchange → Option Held → Option Held
    → Stream → Stream → Status → Type 0
IsAsAsked files words e was has told tells s = fault_of app words ≡ []
    → Ends false (λ done. ⊥) (λ why. (why ≡ halt.Plain stop.Memory) × (has ≡ was) × IsQuiet e) told tells s
    ⊎ ((line : Line) × IsLineOf words line × IsHeard line e
    × Ends (explains line) (Does files line e was has) (Stops files line e was has) told tells s)

-- words that the system does not give: memory ran out, or they are not UTF-8
abbrev pub status_without_words : IoErrorKind → Status
status_without_words OutOfMemory = status.Memory
status_without_words _ = status.Usage

-- and the text for them, by the status
abbrev pub text_without_words : Status → List ℕ
text_without_words status.Memory = stop_text stop.Memory
text_without_words _ = codes "error: the words are not UTF-8\n"
