-- How subcommands end over files that are known.
use Rattle.std.proofs.Common.{◌≡◌, ◌⊎◌, ◌∙◌, ◌++◌, inl, inr, map, Bool, true, false, ℕ, List, [], Option, None, Some, Result, Ok, Err, MatchResult, get_or, refl, sym, ap}
use Rattle.std.proofs.lemmas.List.{append-nil}
use Rattle.job_file.specs.Job.{Text}
use Rattle.job_file.specs.declared.values.RunParam.{RunParam}
use Rattle.job_file.specs.declared.values.RunParam.TheVariants as given
use Rattle.region_mem.specs.declared.arguments.Arg.TheVariants as argument
use Rattle.commands.specs.Words.{Argument, Halt, Members}
use Rattle.commands.specs.Checks.{Checks, StopsCheck}
use Rattle.commands.specs.Corollary.{AreGiven, IsBoundOf, IsGiven, IsMadeOf, IsRunOf, IsTrialOf, IsWatchOf}
use Rattle.endings.specs.Did.{did_of, status_with}
use Rattle.endings.specs.Ending.{Ends, plain, status_after, status_of_end}
use Rattle.commands.specs.Files.{ArePassed, IsPassed, OfTable, StopsOfTable}
use Rattle.file_store.specs.Store.{bytes_at, files_of}
use Rattle.endings.specs.Halt.{stop_of}
use Rattle.commands.specs.Makes.{Makes, StopsMake}
use Rattle.commands.specs.Mons.{Mons}
use Rattle.commands.specs.Runs.{Runs, StopsRun}
use Rattle.commands.specs.Tries.{StopsTry, Tries, passed_by}
use Rattle.endings.specs.Streams.{Stream, stream}
use Rattle.commands.specs.Changes.{Change, Exchange, Wrote, change}
use Rattle.file_store.specs.Written.{Gains, Held}
use Rattle.endings.specs.declared.did.Did.{Did}
use Rattle.commands.proofs.CommandLemmas.{is_done, undone}
use Rattle.endings.specs.declared.stands.Stand.{Stand}
use Rattle.endings.specs.declared.stop.Status.{Status}
use Rattle.endings.specs.declared.stop.Status.TheVariants as status
use Rattle.endings.specs.declared.stands.End.{End}
use Rattle.endings.specs.declared.stands.End.TheVariants as end

-- A subcommand that ends with one of these does what it does.
done_of : {explains : Bool} {does : Did → Type 0} {stops : Halt → Type 0} {told tells : Stream} {s : Status}
    → Ends explains does stops told tells s → is_done s ≡ true → (did : Did) × (s ≡ status_with did) × does did
done_of {explains} {does} {stops} {told} {tells} {s} e is = by_came e.came e.comes e.status
  where
    by_came : (r : Result Did Halt) → MatchResult r does stops → s ≡ status_after (plain r)
        → (did : Did) × (s ≡ status_with did) × does did
    by_came (Ok did) c same = (did, same, c)
    by_came (Err why) c same = absurd (let both : true ≡ false = sym is ∙ (ap is_done same ∙ undone (stop_of why)) in cc)

-- the status of what was done is that of how the run ended
ended_so : (e : End) (stand : Option Stand) → status_with (did_of e stand) ≡ status_of_end e
ended_so end.Ended stand = refl
ended_so (end.Trapped fault) (Some stand) = refl
ended_so (end.Trapped fault) None = refl
ended_so end.OutOfSteps (Some stand) = refl
ended_so end.OutOfSteps None = refl

some : {A : Type 0} (a b : A) → Some a ≡ Some b → a ≡ b
some a b is = cc

-- what gains nothing is as it was
kept : (was has : Held) → Gains (Some was) (Some has) [] → has ≡ was
kept was has is = some has was (is ∙ ap (λ (files : List (List ℕ × List ℕ)). Some (record { files = files; unread = was.unread; unwritten = was.unwritten })) (append-nil was.files))

-- what is left, of files and of standard output that are known
abbrev known : Held → Held → List ℕ → List ℕ → ℕ → ℕ → Change
known was has old new before now = change (Some was) (Some has) (stream (Some old) before) (stream (Some new) now)

pub check_done : {explains : Bool} (was has : Held) (path : Text) (old new : List ℕ) (before now : ℕ) (told tells : Stream) (s : Status)
    → Ends explains (Checks (files_of (Some was)) path (known was has old new before now))
    (StopsCheck (files_of (Some was)) (known was has old new before now) path) told tells s
    → s ≡ status.Done
    → (file : List ℕ) × (bytes_at was path ≡ Some file) × (line : List ℕ) × IsBoundOf file line × (new ≡ old ++ line)
check_done was has path old new before now told tells s e is =
    let (did, same, c) = done_of e (ap is_done is) in
    (c.there.0, c.there.1, _, record { image = c.image; spells = c.there.2; accepted = c.accepted; passes = c.passes; budget = c.budget; entry = c.entry; told = refl }, c.told.0)

pub check_kept : {explains : Bool} (was has : Held) (path : Text) (old new : List ℕ) (before now : ℕ) (told tells : Stream) (s : Status)
    → Ends explains (Checks (files_of (Some was)) path (known was has old new before now))
    (StopsCheck (files_of (Some was)) (known was has old new before now) path) told tells s → has ≡ was
check_kept was has path old new before now told tells s e = go e.came e.comes
  where
    go : (done : Result Did Halt) → MatchResult done (Checks (files_of (Some was)) path (known was has old new before now))
        (StopsCheck (files_of (Some was)) (known was has old new before now) path) → has ≡ was
    go (Ok did) c = kept was has c.wrote
    go (Err told) (inl (why, wrote)) = kept was has wrote.0
    go (Err told) (inr (image, there, inl (why, wrote))) = kept was has wrote.0
    go (Err told) (inr (image, there, inr (accepted, passes, (budget, entry, same, cut)))) = kept was has cut.0

given_at : (was : Held) (param : RunParam Text) (arg : Argument) → IsPassed (files_of (Some was)) param arg → IsGiven was param arg
given_at was given.None arg is = is
given_at was (given.Scalar value) arg is = is
given_at was (given.Buffer file out) arg is = is

are_given : (was : Held) (params : List (RunParam Text)) (args : List Argument) → ArePassed (files_of (Some was)) params args → AreGiven was params args
are_given was params args (eight, passed) = λ k below. given_at was (get_or params k given.None) (get_or args k argument.None) (passed k below)

abbrev DoesRun : Bool → Held → Text → Change → Did → Type 0
DoesRun registers was path c = OfTable (files_of (Some was)) path (λ table. Runs (files_of (Some was)) registers table c)

abbrev StopsSo : Held → Text → Change → (Change → Members → Halt → Type 0) → Halt → Type 0
StopsSo was path c stops = StopsOfTable (files_of (Some was)) (Wrote c) path (stops c)

pub run_done : {explains : Bool} (registers : Bool) (was has : Held) (path : Text) (old new : List ℕ) (before now : ℕ) (told tells : Stream) (s : Status)
    → Ends explains (DoesRun registers was path (known was has old new before now)) (StopsSo was path (known was has old new before now) (StopsRun (files_of (Some was)) registers)) told tells s
    → s ≡ status.Done → IsRunOf registers was has path old new
run_done registers was has path old new before now told tells s e is =
    let (did, same, does) = done_of e (ap is_done is) in
    let (table, spells, r) = does in
    record {
      table = table;
      spells = spells;
      job = r.job;
      asked = r.started.asked;
      image = r.started.image;
      there = r.started.there;
      accepted = r.accepted;
      passes = r.started.passes;
      args = r.args;
      passed = are_given was r.job.params r.args r.started.passed;
      trial = r.trial;
      comes = r.comes;
      printed = r.finished.told.0;
      files = some _ _ r.finished.wrote;
    }

abbrev DoesTry : Bool → Held → Text → Change → Did → Type 0
DoesTry registers was path c = OfTable (files_of (Some was)) path (λ table. Tries (files_of (Some was)) registers table c)

pub try_done : {explains : Bool} (registers : Bool) (was has : Held) (path : Text) (old new : List ℕ) (before now : ℕ) (told tells : Stream) (s : Status)
    → Ends explains (DoesTry registers was path (known was has old new before now)) (StopsSo was path (known was has old new before now) (StopsTry (files_of (Some was)) registers)) told tells s
    → (s ≡ status.Done) ⊎ (s ≡ status.Stopped) → IsTrialOf registers was has path old new s
try_done registers was has path old new before now told tells s e is =
    let ended : is_done s ≡ true = elim is [ inl done ↦ ap is_done done | inr stopped ↦ ap is_done stopped ] in
    let (did, same, does) = done_of e ended in
    let (table, spells, r) = does in
    record {
      table = table;
      spells = spells;
      job = r.job;
      asked = r.asked;
      image = r.image;
      there = r.there;
      args = r.args;
      passed = are_given was (map passed_by r.job.params) r.args r.passed;
      trial = r.trial;
      comes = r.comes;
      printed = r.finished.told.0;
      files = some _ _ r.finished.wrote;
      status = same ∙ (ap status_with r.finished.done ∙ ended_so r.trial.end r.stand);
    }

abbrev DoesMake : Held → Text → Text → Text → Change → Did → Type 0
DoesMake was path job_path out c =
    OfTable (files_of (Some was)) job_path (λ table. Makes (files_of (Some was)) path out table c)

pub make_done : {explains : Bool} (was has : Held) (path job_path out : Text) (old new : List ℕ) (before now : ℕ) (told tells : Stream) (s : Status)
    → Ends explains (DoesMake was path job_path out (known was has old new before now)) (StopsSo was job_path (known was has old new before now) (λ c. StopsMake (files_of (Some was)) c path out)) told tells s
    → s ≡ status.Done → IsMadeOf was has path job_path out old new
make_done was has path job_path out old new before now told tells s e is =
    let (did, same, does) = done_of e (ap is_done is) in
    let (table, spells, r) = does in
    record {
      table = table;
      spells = spells;
      job = r.job;
      asked = r.asked;
      file = r.file;
      there = r.there;
      bytes = r.bytes;
      made = r.made;
      accepted = r.accepted;
      passes = r.passes;
      budget = r.budget;
      entry = r.entry;
      printed = r.told.0;
      files = some _ _ r.wrote;
    }

pub mon_done : {explains : Bool} {stops : Halt → Type 0} (was has : Held) (path : Text) (e : Exchange) (told tells : Stream) (s : Status)
    → Ends explains (OfTable (files_of (Some was)) path (λ table. Mons (files_of (Some was)) table e (Some was) (Some has))) stops told tells s
    → s ≡ status.Done → IsWatchOf was has path e
mon_done {explains} {stops} was has path e told tells s ends is =
    let (did, same, does) = done_of ends (ap is_done is) in
    let (table, spells, r) = does in
    record {
      table = table;
      spells = spells;
      job = r.job;
      asked = r.started.asked;
      image = r.started.image;
      there = r.started.there;
      accepted = r.accepted;
      passes = r.started.passes;
      args = r.args;
      passed = are_given was r.job.params r.args r.started.passed;
      kept = r.kept;
      stopped = r.stopped;
      files = some _ _ r.wrote;
    }
