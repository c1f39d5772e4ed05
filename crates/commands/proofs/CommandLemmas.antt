-- How a subcommand ends, from what was done and what was told.
use Rattle.std.proofs.Common.{◌≡◌, ◌∙◌, ◌⊎◌, ◌+◌, ◌<◌, Bool, false, true, ℕ, length, set, get_or, get_or-set_other, get_or-set_same, arith, List, [], Option, Some, option_map, Result, Ok, Err, IfOk, IfErr, OnOk, MatchResult, ap, refl, sym, subst, inl, inr}
use Rattle.std.proofs.lemmas.Bool.{cases_lt}
use Rattle.std.specs.Borrow.{Bor}
use Rattle.std.specs.Result.{IsErrAnd}
use Rattle.std.proofs.lemmas.Result.{MatchResult-weaker}
use Rattle.block_checker.specs.Accepted.{AcceptedView}
use Rattle.job_file.specs.Job.{Text}
use Rattle.job_file.specs.Needs.{RunJob, run_param_lent}
use Rattle.job_reasons.specs.declared.job.Command.{Command}
use Rattle.job_file.specs.declared.values.MakeJob.{MakeJob}
use Rattle.job_file.specs.declared.values.RunParam.{RunParam}
use Rattle.job_file.specs.declared.values.RunParam.TheVariants as given
use Rattle.region_mem.specs.declared.arguments.Arg.TheVariants as argument
use Rattle.toml.specs.Data.{Members}
use Rattle.toml.specs.Parse.{parse_document}
use Rattle.endings.specs.Accepted.{IsOrWant}
use Rattle.endings.specs.Ending.{Ends, Tells, plain, status_after, status_of}
use Rattle.commands.specs.Files.{ArePassed, IsImageAt, IsImageOfFirst, IsNoImageAt, IsNoTable, IsNoTableAt, IsReadSoFar, IsTableAt, IsTableOfFirst, IsUnpassed, IsUnwritten, image_in}
use Rattle.file_store.specs.Store.{Files, files_of}
use Rattle.endings.specs.Halt.{bare, stop_of}
use Rattle.commands.specs.Makes.{◌>>=◌, made_for, made_of}
use Rattle.commands.specs.Starts.{IsStarted, IsUnstarted, StopsStarting}
use Rattle.commands.specs.Steps.{IsUnasked}
use Rattle.endings.specs.Streams.{Stream}
use Rattle.commands.specs.Changes.{Change, Wrote, change}
use Rattle.commands.specs.Files.{IsFirstOf}
use Rattle.file_store.specs.System.{IsFirst, Known}
use Rattle.commands.specs.Trial.{IsFinished, OrMemory, StopsAtTrial, StopsFinishing}
use Rattle.endings.specs.Why.{ExplainsImage}
use Rattle.commands.specs.Words.{Argument, Halt, ImageView}
use Rattle.file_store.specs.Written.{Gains, Held, Written}
use Rattle.endings.specs.declared.did.Did.{Did}
use Rattle.endings.specs.declared.stands.Stand.{Stand}
use Rattle.endings.specs.declared.stop.Status.{Status}
use Rattle.endings.specs.declared.stop.Status.TheVariants as status
use Rattle.endings.specs.declared.stop.Stop.{Stop}
use Rattle.endings.specs.declared.stop.Stop.TheVariants as stop
use Rattle.commands.specs.declared.trial.Trial.{Trial}

-- ---- how a subcommand ends

-- an ending with what was done, and its explanation, is one of a subcommand that does or stops so
pub ends_as : {explains : Bool} {old new : Stream} {s : Status} {does : Did → Type 0} {stops : Halt → Type 0}
    (came : Result Did Halt) → s ≡ status_after (plain came) → Tells explains came old new
    → MatchResult came does stops → Ends explains does stops old new s
ends_as came says tells comes = record { came = came; comes = comes; status = says; told = tells }

-- the same, where what was done is known in other words
pub ends_by : {explains : Bool} {old new : Stream} {s : Status} {does : Did → Type 0} {stops : Halt → Type 0}
    (came : Result Did Halt) (did : Did → Type 0) (stopped : Halt → Type 0) → s ≡ status_after (plain came)
    → Tells explains came old new → MatchResult came did stopped
    → ((done : Did) → did done → does done) → ((why : Halt) → stopped why → stops why) → Ends explains does stops old new s
ends_by came did stopped says tells comes so why = ends_as came says tells (MatchResult-weaker came comes so why)

-- the statuses of what was done
abbrev pub is_done : Status → Bool
is_done status.Done = true
is_done status.Stopped = true
is_done other = false

pub undone : (reason : Stop) → is_done (status_of reason) ≡ false
undone (stop.Job error) = refl
undone (stop.File path) = refl
undone (stop.Image error) = refl
undone stop.NoCertificate = refl
undone (stop.Certificate error) = refl
undone (stop.Check error) = refl
undone (stop.Make error) = refl
undone (stop.Open error) = refl
undone stop.Memory = refl
undone stop.Output = refl

-- what holds of what was done holds where the status is one of these
pub did_so : {fact : Type 0} (came : Result Did Halt) (s : Status) → s ≡ status_after (plain came) → OnOk came fact
    → (s ≡ status.Done) ⊎ (s ≡ status.Stopped) → fact
did_so (Ok did) s same is ended = is
did_so (Err why) s same is ended =
    let done : is_done s ≡ true = elim ended [ inl at ↦ ap is_done at | inr at ↦ ap is_done at ] in
    absurd (let both : true ≡ false = sym done ∙ (ap is_done same ∙ undone (stop_of why)) in cc)

-- ---- a reason to stop that a `?` hands on

pub handed_on : {A : Type 0} (does : A → Type 0) (stops : Halt → Type 0) (r : Result A Halt) (why : Halt)
    → IsErrAnd r (λ told. told ≡ why) → stops why → MatchResult r does stops
handed_on does stops (Ok a) why is it = absurd is
handed_on does stops (Err told) why is it = subst stops (sym is) it

-- the same for the reason alone
pub handed_plain : {A : Type 0} (does : A → Type 0) (stops : Stop → Type 0) (r : Result A Halt) (why : Halt)
    → IsErrAnd r (λ told. told ≡ why) → stops (stop_of why) → MatchResult (bare r) does stops
handed_plain does stops (Ok a) why is it = absurd is
handed_plain does stops (Err told) why is it = subst (λ (h : Halt). stops (stop_of h)) (sym is) it

-- ---- what is defined, where the answer is no reason to stop

pub or_ok : {A : Type 0} (defined : Result A Stop) (a : A) → OrMemory defined (Ok a) → defined ≡ Ok a
or_ok (Err reason) a is = sym is
or_ok (Ok b) a is = ap Ok (sym is)

pub want_ok : {A : Type 0} (defined : Result A Stop) (a : A) → IsOrWant defined (Ok a) → defined ≡ Ok a
want_ok defined a (inl is) = sym is
want_ok defined a (inr is) = cc

-- what is made of the image that a file spells is made of the file
pub made_whole : (job : MakeJob) (file : List ℕ) (image : ImageView) (bytes : List ℕ) → image_in file ≡ Ok image → made_for job file image ≡ Ok bytes
    → made_of job file ≡ Ok bytes
made_whole job file image bytes spells made = ap (λ (r : Result ImageView Stop). r >>= made_for job file) spells ∙ made

-- ---- what is read

pub table_read : {T : Type 0} (view : T → Members) (files : Files) (path : Text) (had text : List ℕ) (result : Result T Halt)
    → text ≡ had → files.holds path had → MatchResult result (λ table. parse_document text ≡ Some (view table)) (IsNoTable text)
    → MatchResult result (λ table. IsTableAt files path (view table)) (IsNoTableAt files path)
table_read view files path had text (Ok table) same there is = (text, subst (files.holds path) (sym same) there, is)
table_read view files path had text (Err why) same there is = inr (text, subst (files.holds path) (sym same) there, is)

-- the same of the first bytes
pub table_first : {T : Type 0} (view : T → Members) (known : Option Known) (path : Text) (most : ℕ) (had text : List ℕ) (result : Result T Halt)
    → text ≡ had → IsFirst known path most had → MatchResult result (λ table. parse_document text ≡ Some (view table)) (IsNoTable text)
    → IfOk result (λ table. IsTableOfFirst known path most (view table))
table_first view known path most had text (Ok table) same first is = (text, subst (IsFirst known path most) (sym same) first, is)
table_first view known path most had text (Err why) same first is = tt

pub image_read : (files : Files) (path : Text) (had file : List ℕ) (result : Result ImageView Halt)
    → file ≡ had → files.holds path had → OrMemory (image_in file) (bare result) → IfErr result (ExplainsImage file)
    → MatchResult result (IsImageAt files path) (IsNoImageAt files path)
image_read files path had file (Ok image) same there is told =
    (file, subst (files.holds path) (sym same) there, or_ok (image_in file) image is)
image_read files path had file (Err why) same there is told = inr (file, subst (files.holds path) (sym same) there, (is, told))

-- the same of the first bytes
pub image_first : (known : Option Known) (path : Text) (most : ℕ) (had file : List ℕ) (result : Result ImageView Halt)
    → file ≡ had → IsReadSoFar known path most had → OrMemory (image_in file) (bare result) → IfOk result (IsImageOfFirst known path most)
image_first known path most had file (Ok image) same read is =
    record { bytes = had; read = read; spells = or_ok (image_in had) image (subst (λ (f : List ℕ). OrMemory (image_in f) (Ok image)) same is) }
image_first known path most had file (Err why) same read is = tt

-- ---- what a table asks for: `o` is what the program has of it

pub unasked : {J K : Type 0} (view : J → K) (o : Option J) (asked : Option K) (reason : Stop) → option_map view o ≡ asked
    → IsUnasked o reason → IsUnasked asked reason
unasked view o asked reason is (none, why) = (sym is ∙ ap (option_map view) none, why)

pub unasked_self : {J : Type 0} (o asked : Option J) (reason : Stop) → o ≡ asked → IsUnasked o reason → IsUnasked asked reason
unasked_self o asked reason is (none, why) = (sym is ∙ none, why)

pub asked_for : {J K : Type 0} (view : J → K) (o : Option J) (asked : Option K) (job : J) → option_map view o ≡ asked
    → o ≡ Some job → asked ≡ Some (view job)
asked_for view o asked job is some = sym is ∙ ap (option_map view) some

-- ---- what is known of a store, after what only read it

pub first_now : (a b : Option Known) (most : ℕ) (param : RunParam Text) (arg : Argument) → b ≡ a → IsFirstOf b most param arg → IsFirstOf a most param arg
first_now a b most param arg same is = subst (λ (k : Option Known). IsFirstOf k most param arg) same is

-- of one place more the first bytes are passed
pub first_more : (known : Option Known) (most : ℕ) (params : List (RunParam (Bor Text))) (places : List Argument) (place : ℕ) (arg : Argument) → place < length places
    → ((j : ℕ) → j < place → IsFirstOf known most (run_param_lent (get_or params j given.None)) (get_or places j argument.None))
    → IsFirstOf known most (run_param_lent (get_or params place given.None)) arg
    → (k : ℕ) → k < place + 1 → IsFirstOf known most (run_param_lent (get_or params k given.None)) (get_or (set places place arg) k argument.None)
first_more known most params places place arg within before here k below = elim (cases_lt k place) [
  | inl less ↦
      let same = get_or-set_other places place k arg argument.None (λ (is : k ≡ place). omega (arith, less, is)) in
      subst (λ (a : Argument). IsFirstOf known most (run_param_lent (get_or params k given.None)) a) (sym same) (before k less)
  | inr last ↦
      let is : k ≡ place = omega (arith, below, last) in
      let same = get_or-set_same places place arg argument.None within in
      subst (λ (j : ℕ). IsFirstOf known most (run_param_lent (get_or params j given.None)) (get_or (set places place arg) j argument.None)) (sym is)
      (subst (λ (a : Argument). IsFirstOf known most (run_param_lent (get_or params place given.None)) a) (sym same) here)
]

pub passed_after : (a b : Option Held) (given params : List (RunParam Text)) (args : List Argument) → b ≡ a → given ≡ params
    → ArePassed (files_of b) given args → ArePassed (files_of a) params args
passed_after a b given params args same is passed =
    subst (λ (h : Option Held). ArePassed (files_of h) params args) same (subst (λ (ps : List (RunParam Text)). ArePassed (files_of b) ps args) is passed)

pub unpassed_after : (a b : Option Held) (given params : List (RunParam Text)) (reason : Stop) → b ≡ a → given ≡ params
    → IsUnpassed (files_of b) given reason → IsUnpassed (files_of a) params reason
unpassed_after a b given params reason same is why =
    subst (λ (h : Option Held). IsUnpassed (files_of h) params reason) same (subst (λ (ps : List (RunParam Text)). IsUnpassed (files_of b) ps reason) is why)

pub unwritten_after : (a b c : Option Held) (params : List (RunParam Text)) (args : List Argument) (reason : Stop) → b ≡ a
    → IsUnwritten (files_of b) (Gains b c) params args reason → IsUnwritten (files_of a) (Gains a c) params args reason
unwritten_after a b c params args reason same why = subst (λ (h : Option Held). IsUnwritten (files_of h) (Gains h c) params args reason) same why

-- ---- what `run` and `mon` begin with

-- what is not started stops so, whatever would follow
pub unstarted : (command : Command) (files : Files) (wrote : Written → Type 0) (later : RunJob Text → AcceptedView → List Argument → Halt → Type 0)
    (table : Members) (why : Halt) → IsUnstarted command files table why → wrote [] → StopsStarting command files wrote later table why
unstarted command files wrote later table why (inl (is, _)) none = inl (is, none)
unstarted command files wrote later table why (inr (job, asked, inl (is, _))) none = inr (job, asked, inl (is, none))
unstarted command files wrote later table why (inr (job, asked, inr (image, there, inl (is, _)))) none =
    inr (job, asked, inr (image, there, inl (is, none)))
unstarted command files wrote later table why (inr (job, asked, inr (image, there, inr (accepted, passes, inl (is, _))))) none =
    inr (job, asked, inr (image, there, inr (accepted, passes, inl (is, none))))
unstarted command files wrote later table why (inr (job, asked, inr (image, there, inr (accepted, passes, inr (args, passed, never))))) none = absurd never

-- what is started stops for what follows
pub stops_started : (command : Command) (files : Files) (wrote : Written → Type 0) (later : RunJob Text → AcceptedView → List Argument → Halt → Type 0)
    (table : Members) (job : RunJob Text) (accepted : AcceptedView) (args : List Argument) (why : Halt)
    → IsStarted files table job accepted args → later job accepted args why → StopsStarting command files wrote later table why
stops_started command files wrote later table job accepted args why s is =
    inr (job, s.asked, inr (s.image, s.there, inr (accepted, s.passes, inr (args, s.passed, is))))

-- ---- how `run` and `try` end

-- memory runs out after a run came to a trial
pub unshown : (defined : Result Trial Stop) (trial : Trial) (reason : Stop) → OrMemory defined (Ok trial) → reason ≡ stop.Memory → OrMemory defined (Err reason)
unshown (Err told) trial reason comes is = cc
unshown (Ok known) trial reason comes is = is

-- what was not written before anything was printed
pub unprinted : (files : Files) (c : Change) (params : List (RunParam Text)) (args : List Argument) (reason : Stop) → c.new ≡ c.old
    → IsUnwritten files (Gains c.was c.has) params args reason → IsUnwritten files (Wrote c) params args reason
unprinted files c params args reason same why = record {
  place = why.place;
  path = why.path;
  bytes = why.bytes;
  out = why.out;
  before = (why.before, same);
  why = why.why;
}

-- a run that came to a trial is written and told, or why not, of the files as they were before they were read: `given` is what
-- the job passes, as the program has it
pub finished : (old new : Stream) (first then has : Option Held) (given params : List (RunParam Text)) (asked : Bool) (trial : Trial)
    (stand : Option Stand) (result : Result Did Halt) (does : Did → Type 0) (stops : Halt → Type 0) → given ≡ params → then ≡ first
    → MatchResult result (IsFinished (change then has old new) asked given trial stand) (StopsFinishing (files_of then) (change then has old new) asked given trial)
    → ((did : Did) → IsFinished (change first has old new) asked params trial stand did → does did)
    → ((why : Halt) → StopsFinishing (files_of first) (change first has old new) asked params trial why → stops why)
    → MatchResult result does stops
finished old new first then has given params asked trial stand result does stops same none comes do_so stop_so =
    let now = subst (λ (h : Option Held). MatchResult result (IsFinished (change h has old new) asked given trial stand)
    (StopsFinishing (files_of h) (change h has old new) asked given trial)) none comes in
    let all = subst (λ (ps : List (RunParam Text)). MatchResult result (IsFinished (change first has old new) asked ps trial stand)
    (StopsFinishing (files_of first) (change first has old new) asked ps trial)) same now in
    MatchResult-weaker result all do_so stop_so

-- what is not told stops the run that came to it
pub stops_finished : (files : Files) (c : Change) (asked : Bool) (params : List (RunParam Text)) (defined : Result Trial Stop)
    (explains : Halt → Type 0) (trial : Trial) (why : Halt) → OrMemory defined (Ok trial) → (stop_of why ≡ stop.Memory → explains why)
    → StopsFinishing files c asked params trial why → StopsAtTrial files c asked params defined explains why
stops_finished files c asked params defined explains trial why comes explained (inl (memory, wrote)) =
    inl ((unshown defined trial (stop_of why) comes memory, explained memory), wrote)
stops_finished files c asked params defined explains trial why comes explained (inr un) = inr (trial, or_ok defined trial comes, un)
