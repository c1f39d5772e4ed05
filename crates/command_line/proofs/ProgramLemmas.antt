-- What words lead to: the status of a fault, or what their subcommand does.
use Rattle.std.proofs.Common.{◌≡◌, ◌⊎◌, List, Option, Err, Bool, true, false, not, ◌||◌, [], ◌∷◌, ◌++◌, refl, sym, subst, inl, inr}
use Rattle.std.proofs.lemmas.List.{append-nil}
use Rattle.std.specs.List.{list_any}
use Rattle.clap.specs.Kinds.{Kinds, IsAmong}
use Rattle.clap.specs.Words.{fault_of, kind_of}
use Rattle.clap.specs.declared.error.kind.ErrorKind.{ErrorKind}
use Rattle.command_line.specs.Asked.{is_help, is_request, status_of_line}
use Rattle.endings.specs.Ending.{Ends}
use Rattle.command_line.specs.Program.{Does, IsAsAsked, IsHeard, IsRefusal, IsRefusalTold, IsSilent, IsStatusFor, IsUntouched, Stops, explains}
use Rattle.command_line.specs.Line.{IsFaultIn, IsFaultOf, IsLineOf, app}
use Rattle.file_store.specs.Store.{Files}
use Rattle.endings.specs.Streams.{IsTold, Stream}
use Rattle.commands.specs.Changes.{Exchange}
use Rattle.file_store.specs.Sources.{Input}
use Rattle.command_line.specs.declared.line.asked.Line.{Line}
use Rattle.command_line.specs.declared.line.asked.Line.TheVariants as ask
use Rattle.clap.specs.Words.{Text}
use Rattle.command_line.specs.declared.line.asked.LineError.{LineError}
use Rattle.command_line.specs.declared.line.asked.LineError.TheVariants as line_error
use Rattle.endings.specs.Texts.{stop_text}
use Rattle.file_store.specs.Written.{Held}
use Rattle.endings.specs.declared.halt.Halt.TheVariants as halt
use Rattle.endings.specs.declared.stop.Stop.TheVariants as stop
use Rattle.endings.specs.declared.stop.Status.{Status}
use Rattle.endings.specs.declared.stop.Status.TheVariants as status

or_left : (a b : Bool) → a ≡ true → a || b ≡ true
or_left true b is = refl
or_left false b is = cc

or_right : (a b : Bool) → b ≡ true → a || b ≡ true
or_right true b is = refl
or_right false b is = is

among_any : (test : ErrorKind → Bool) (k : ErrorKind) (kinds : Kinds) → IsAmong k kinds → test k ≡ true → list_any test kinds ≡ true
among_any test k [] among is = absurd among
among_any test k (x ∷ xs) (inl same) is = or_left (test x) (list_any test xs) (subst (λ (y : ErrorKind). test y ≡ true) same is)
among_any test k (x ∷ xs) (inr later) is = or_right (test x) (list_any test xs) (among_any test k xs later is)

-- how help or the version is answered
abbrev Answers : Type 0 → Status → Type 0
Answers cut s = (s ≡ status.Done) ⊎ (((s ≡ status.File) × cut) ⊎ (s ≡ status.Memory))

usage_for : (k : ErrorKind) (kinds : Kinds) (cut : Type 0) (s : Status) → IsAmong k kinds
    → (is_help k ≡ false → (s ≡ status.Usage) ⊎ (s ≡ status.Memory)) → (is_help k ≡ true → Answers cut s) → IsRefusal kinds cut s
usage_for k kinds cut s among told answered = go (is_help k) refl
  where
    go : (b : Bool) → is_help k ≡ b → IsRefusal kinds cut s
    go true is = elim (answered is) as (λ _. IsRefusal kinds cut s) [
      | inl done ↦ subst (λ (t : Status). IsRefusal kinds cut t) (sym done) (among_any is_help k kinds among is)
      | inr (inl file) ↦ subst (λ (t : Status). IsRefusal kinds cut t) (sym file.0) (among_any is_help k kinds among is, file.1)
      | inr (inr memory) ↦ subst (λ (t : Status). IsRefusal kinds cut t) (sym memory) tt
    ]
    go false is_not = elim (told is_not) as (λ _. IsRefusal kinds cut s) [
      | inl usage ↦ subst (λ (t : Status). IsRefusal kinds cut t) (sym usage) (among_any (λ x. not (is_help x)) k kinds among (rw is_not refl))
      | inr memory ↦ subst (λ (t : Status). IsRefusal kinds cut t) (sym memory) tt
    ]

-- the status of a fault is one of two, and that of want of memory is this
memory_for : (kinds : Kinds) (cut : Type 0) (s : Status) → (s ≡ status.Memory) ⊎ (s ≡ status.Memory) → IsRefusal kinds cut s
memory_for kinds cut s (inl is) = subst (λ (t : Status). IsRefusal kinds cut t) (sym is) tt
memory_for kinds cut s (inr is) = subst (λ (t : Status). IsRefusal kinds cut t) (sym is) tt

-- the status for a refusal of the words fits `clap`'s faults
pub told_for : (kinds : Kinds) (error : LineError) (cut : Type 0) (s : Status) → IsFaultIn kinds error
    → (is_request error ≡ false → (s ≡ status_of_line error) ⊎ (s ≡ status.Memory))
    → (is_request error ≡ true → Answers cut s) → IsStatusFor kinds cut s
told_for [] error cut s fits told answered = tt
told_for (k ∷ ks) (line_error.Usage error) cut s among told answered = usage_for (kind_of error) (k ∷ ks) cut s among told answered
told_for (k ∷ ks) line_error.NoMemory cut s fits told answered = memory_for (k ∷ ks) cut s (told refl)

-- words that ask for something have no fault
faultless : (words : List Text) (line : Line) → IsLineOf words line → fault_of app words ≡ []
faultless words (ask.Check image explain) is = is.0.0
faultless words (ask.Run job explain registers) is = is.0.0
faultless words (ask.Try job explain registers) is = is.0.0
faultless words (ask.Mon job explain) is = is.0.0
faultless words (ask.Make paths explain) is = is.0.0

-- so any status fits them
pub fits_any : (words : List Text) (line : Line) (cut : Type 0) (s : Status) → IsLineOf words line → IsStatusFor (fault_of app words) cut s
fits_any words line cut s is = subst (λ (kinds : Kinds). IsStatusFor kinds cut s) (sym (faultless words line is)) tt

-- files that stay as they are
pub untouched : (kinds : Kinds) (held : Option Held) (input : Option Input) (e : Exchange)
    → e.after ≡ e.before → IsUntouched kinds held held input input e
untouched [] held input e unread = tt
untouched (k ∷ ks) held input e unread = (refl, refl, unread)

pub touched : (words : List Text) (line : Line) (was has : Option Held) (old new : Option Input) (e : Exchange)
    → IsLineOf words line → IsUntouched (fault_of app words) was has old new e
touched words line was has old new e is = subst (λ (kinds : Kinds). IsUntouched kinds was has old new e) (sym (faultless words line is)) tt

-- nothing that is printed
silent : (kinds : Kinds) (e : Exchange) (s : Status) → e.has ≡ e.had → IsSilent kinds e s
silent [] e s is = tt
silent (k ∷ ks) e status.Usage is = is
silent (k ∷ ks) e status.Done is = tt
silent (k ∷ ks) e status.Refused is = tt
silent (k ∷ ks) e status.File is = tt
silent (k ∷ ks) e status.Memory is = is
silent (k ∷ ks) e status.Stopped is = tt

-- a fault is printed on standard error alone
pub silent_for : (kinds : Kinds) (error : LineError) (e : Exchange) (cut : Type 0) (s : Status)
    → (is_request error ≡ false → e.has ≡ e.had) → (s ≡ status.Memory → e.has ≡ e.had)
    → (is_request error ≡ true → Answers cut s) → IsSilent kinds e s
silent_for [] error e cut s quiet kept answered = tt
silent_for (k ∷ ks) error e cut s quiet kept answered = go (is_request error) refl
  where
    go : (b : Bool) → is_request error ≡ b → IsSilent (k ∷ ks) e s
    go false is = silent (k ∷ ks) e s (quiet is)
    go true is = elim (answered is) as (λ _. IsSilent (k ∷ ks) e s) [
      | inl done ↦ subst (λ (t : Status). IsSilent (k ∷ ks) e t) (sym done) tt
      | inr (inl file) ↦ subst (λ (t : Status). IsSilent (k ∷ ks) e t) (sym file.0) tt
      | inr (inr memory) ↦ subst (λ (t : Status). IsSilent (k ∷ ks) e t) (sym memory) (kept memory)
    ]

pub silent_any : (words : List Text) (line : Line) (e : Exchange) (s : Status) → IsLineOf words line → IsSilent (fault_of app words) e s
silent_any words line e s is = subst (λ (kinds : Kinds). IsSilent kinds e s) (sym (faultless words line is)) tt

-- what standard error has of refused words
pub refusal_for : (kinds : Kinds) (told tells : Stream) (s : Status) → (s ≡ status.Memory → IsTold told tells (stop_text stop.Memory))
    → (s ≡ status.Done → tells ≡ told) → IsRefusalTold kinds told tells s
refusal_for [] told tells s memory done = tt
refusal_for (k ∷ ks) told tells status.Memory memory done = memory refl
refusal_for (k ∷ ks) told tells status.Done memory done = done refl
refusal_for (k ∷ ks) told tells status.Usage memory done = tt
refusal_for (k ∷ ks) told tells status.Refused memory done = tt
refusal_for (k ∷ ks) told tells status.File memory done = tt
refusal_for (k ∷ ks) told tells status.Stopped memory done = tt

pub refusal_any : (words : List Text) (line : Line) (told tells : Stream) (s : Status) → IsLineOf words line → IsRefusalTold (fault_of app words) told tells s
refusal_any words line told tells s is = subst (λ (kinds : Kinds). IsRefusalTold kinds told tells s) (sym (faultless words line is)) tt

-- what a subcommand that the words name does, or a fault of theirs
pub asked_for : (files : Files) (words : List Text) (line : Line) (e : Exchange) (was has : Option Held) (told tells : Stream) (s : Status)
    → IsLineOf words line → IsHeard line e → Ends (explains line) (Does files line e was has) (Stops files line e was has) told tells s
    → IsAsAsked files words e was has told tells s
asked_for files words line e was has told tells s is heard ends none = inr (line, is, heard, ends)

-- the status where memory ran out
memory_is : (s : Status) → (s ≡ status.Memory) ⊎ (s ≡ status.Memory) → s ≡ status.Memory
memory_is s (inl is) = is
memory_is s (inr is) = is

pub asked_nothing : (files : Files) (words : List Text) (error : LineError) (e : Exchange) (was has : Option Held) (told tells : Stream) (s : Status)
    → has ≡ was → e.after ≡ e.before → IsFaultOf words error → (is_request error ≡ false → (s ≡ status_of_line error) ⊎ (s ≡ status.Memory))
    → (error ≡ line_error.NoMemory → e.has ≡ e.had) → (s ≡ status.Memory → IsTold told tells (stop_text stop.Memory))
    → IsAsAsked files words e was has told tells s
asked_nothing files words (line_error.Usage error) e was has told tells s kept unread fits status quiet memory none =
    absurd (subst (λ (kinds : Kinds). IsAmong (kind_of error) kinds) none fits)
asked_nothing files words line_error.NoMemory e was has told tells s kept unread fits came quiet memory none =
    let is : s ≡ status.Memory = memory_is s (came refl) in
    let line : IsTold told tells (stop_text stop.Memory ++ []) = rw (append-nil) (memory is) in
    inl (record { came = Err (halt.Plain stop.Memory); comes = (refl, kept, (unread, quiet refl)); status = is; told = ([], inr refl, line) })
