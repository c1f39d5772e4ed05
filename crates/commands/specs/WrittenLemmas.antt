-- Files that are written one after another.
use Rattle.std.proofs.Common.{◌≡◌, ◌∙◌, ◌<◌, ◌≤◌, ℕ, zero, suc, List, [], ◌∷◌, ◌++◌, length, map, take, get_or, Option, Some, None, Ok, Err, refl, sym, ap, subst, append_assoc, arith}
use Rattle.std.proofs.lemmas.List.{append-nil, length-map, take_all}
use Rattle.std.specs.Borrow.{Bor}
use Rattle.std.specs.List.{cons_option}
use Rattle.job_file.specs.Job.{Text}
use Rattle.job_file.specs.Needs.{run_param_lent}
use Rattle.commands.specs.Files.{IsOfParam, IsPassed, IsOutWritten, IsUnpassed, IsUnwritten, out_file, outs_of}
use Rattle.file_store.specs.Store.{files_of, Files}
use Rattle.endings.specs.Ending.{IsOfFile}
use Rattle.commands.specs.Words.{Argument}
use Rattle.file_store.specs.Written.{Gains, Held, Written, gained}
use Rattle.job_file.specs.declared.values.RunParam.{RunParam}
use Rattle.job_file.specs.declared.values.RunParam.TheVariants as given
use Rattle.region_mem.specs.declared.arguments.Arg.TheVariants as argument
use Rattle.endings.specs.declared.stop.Stop.{Stop}

-- ---- what a store has

gained_none : (o : Option Held) → gained o [] ≡ o
gained_none None = refl
gained_none (Some had) = ap (λ (files : Written). Some (record { files = files; unread = had.unread; unwritten = had.unwritten })) (append-nil had.files)

gained_more : (o : Option Held) (xs ys : Written) → gained (gained o xs) ys ≡ gained o (xs ++ ys)
gained_more None xs ys = refl
gained_more (Some had) xs ys = ap (λ (files : Written). Some (record { files = files; unread = had.unread; unwritten = had.unwritten })) (append_assoc had.files xs ys)

-- what is as it was gains nothing
pub nothing : (a b : Option Held) → b ≡ a → Gains a b []
nothing a b same = same ∙ sym (gained_none a)

pub gains_none : (o : Option Held) → Gains o o []
gains_none o = sym (gained_none o)

pub gains_more : (a b c : Option Held) (xs ys : Written) → Gains a b xs → Gains b c ys → Gains a c (xs ++ ys)
gains_more a b c xs ys first second = second ∙ ap (λ (o : Option Held). gained o ys) first ∙ gained_more a xs ys

-- what is gained after what is as it was
pub gains_after : (a b c : Option Held) (xs : Written) → b ≡ a → Gains b c xs → Gains a c xs
gains_after a b c xs same is = subst (λ (o : Option Held). Gains o c xs) same is

-- what can't be written of what is as it was
pub unwritten_now : (a b : Option Held) (path : Text) (reason : Stop) → b ≡ a → IsOfFile (files_of b).unwritten path reason → IsOfFile (files_of a).unwritten path reason
unwritten_now a b path reason same is = subst (λ (o : Option Held). IsOfFile (files_of o).unwritten path reason) same is

-- what can't be written is the same after more was
unwritten_before : (old mid : Option Held) (xs : Written) (path : Text) (reason : Stop) → Gains old mid xs
    → IsOfFile (files_of mid).unwritten path reason → IsOfFile (files_of old).unwritten path reason
unwritten_before old mid xs path reason gains is = go old (subst (λ (o : Option Held). IsOfFile (files_of o).unwritten path reason) gains is)
  where
    go : (o : Option Held) → IsOfFile (files_of (gained o xs)).unwritten path reason → IsOfFile (files_of o).unwritten path reason
    go None is = is
    go (Some had) is = is

-- ---- one more place

cons-append : (o : Option (Text × List ℕ)) (xs ys : Written) → cons_option o (xs ++ ys) ≡ cons_option o xs ++ ys
cons-append None xs ys = refl
cons-append (Some x) xs ys = refl

outs-step : (params : List (RunParam (Bor Text))) (args : List Argument) (k : ℕ) → k < length params → k < length args
    → outs_of (take (suc k) (map run_param_lent params)) (take (suc k) args)
    ≡ outs_of (take k (map run_param_lent params)) (take k args)
    ++ cons_option (out_file (run_param_lent (get_or params k given.None), get_or args k argument.None)) []
outs-step [] args k some same = absurd (omega (arith, some))
outs-step (p ∷ ps) [] k some same = absurd (omega (arith, same))
outs-step (p ∷ ps) (a ∷ rest) zero some same = refl
outs-step (p ∷ ps) (a ∷ rest) (suc k) some same =
    let o = out_file (run_param_lent p, a) in
    let later = outs-step ps rest k (omega (arith, some)) (omega (arith, same)) in
    ap (cons_option o) later ∙ cons-append o (outs_of (take k (map run_param_lent ps)) (take k rest)) _

of_one : (files : Files) (mid new : Option Held) (o : Option (Text × List ℕ)) → IsOutWritten files mid new o (Ok tt) → Gains mid new (cons_option o [])
of_one files mid new None is = nothing mid new is
of_one files mid new (Some file) is = is

-- an element that is there, whatever stands for one that is not
at_default : (args : List Argument) (k : ℕ) (one other : Argument) → k < length args → get_or args k one ≡ get_or args k other
at_default [] k one other some = absurd (omega (arith, some))
at_default (a ∷ rest) zero one other some = refl
at_default (a ∷ rest) (suc k) one other some = at_default rest k one other (omega (arith, some))

-- the out file of a place is written after those of the places before
pub outs_more : (files : Files) (old mid new : Option Held) (params : List (RunParam (Bor Text))) (args : List Argument) (k : ℕ) → k < length params → k < length args
    → Gains old mid (outs_of (take k (map run_param_lent params)) (take k args))
    → (arg : Argument) → IsOutWritten files mid new (out_file (run_param_lent (get_or params k given.None), get_or args k arg)) (Ok tt)
    → Gains old new (outs_of (take (suc k) (map run_param_lent params)) (take (suc k) args))
outs_more files old mid new params args k some same before arg is =
    rw (outs-step params args k some same, at_default args k argument.None arg same) (gains_more old mid new _ _ before (of_one files mid new _ is))

pub get_or-lent : (params : List (RunParam (Bor Text))) (k : ℕ) → get_or (map run_param_lent params) k given.None ≡ run_param_lent (get_or params k given.None)
get_or-lent [] k = refl
get_or-lent (p ∷ ps) zero = refl
get_or-lent (p ∷ ps) (suc k) = get_or-lent ps k

-- the out file of a place that is not written
pub outs_fail : (old mid new : Option Held) (params : List (RunParam (Bor Text))) (args : List Argument) (k : ℕ) (reason : Stop) → k < length args
    → Gains old mid (outs_of (take k (map run_param_lent params)) (take k args))
    → (arg : Argument) → IsOutWritten (files_of mid) mid new (out_file (run_param_lent (get_or params k given.None), get_or args k arg)) (Err reason)
    → IsUnwritten (files_of old) (Gains old new) (map run_param_lent params) args reason
outs_fail old mid new params args k reason same before arg is =
    go (out_file (run_param_lent (get_or params k given.None), get_or args k arg)) refl is
  where
    go : (o : Option (Text × List ℕ)) → out_file (run_param_lent (get_or params k given.None), get_or args k arg) ≡ o
        → IsOutWritten (files_of mid) mid new o (Err reason) → IsUnwritten (files_of old) (Gains old new) (map run_param_lent params) args reason
    go None at is = absurd is
    go (Some file) at is = record {
      place = k;
      path = file.0;
      bytes = file.1;
      out = rw (get_or-lent, at_default args k argument.None arg same) at;
      before = is.0 ∙ before;
      why = unwritten_before old mid _ file.0 reason before is.1;
    }

-- the out files of all places
pub outs_all : (old new : Option Held) (params : List (RunParam (Bor Text))) (args : List Argument) (k : ℕ) → length params ≤ k → length args ≤ k
    → Gains old new (outs_of (take k (map run_param_lent params)) (take k args)) → Gains old new (outs_of (map run_param_lent params) args)
outs_all old new params args k few fewer is =
    let lent : length (map run_param_lent params) ≤ k = simp length-map few in
    subst (λ (ps : List (RunParam Text)). Gains old new (outs_of ps args)) (take_all k (map run_param_lent params) lent)
    (subst (λ (bs : List Argument). Gains old new (outs_of (take k (map run_param_lent params)) bs)) (take_all k args fewer) is)

-- what a place passes is not read, and what those before it pass is
pub unpassed : (a b : Option Held) (params : List (RunParam (Bor Text))) (k : ℕ) (reason : Stop) → b ≡ a
    → IsOfParam (files_of b) (run_param_lent (get_or params k given.None)) reason → (places : List Argument)
    → ((j : ℕ) → j < k → IsPassed (files_of a) (run_param_lent (get_or params j given.None)) (get_or places j argument.None))
    → IsUnpassed (files_of a) (map run_param_lent params) reason
unpassed a b params k reason same is places passed =
    let here = subst (λ (h : Option Held). IsOfParam (files_of h) (run_param_lent (get_or params k given.None)) reason) same is in
    (k, rw (get_or-lent params k) here, λ j below. (get_or places j argument.None, rw (get_or-lent params j) (passed j below)))

-- what is read of the same files
pub passed_now : (a b : Option Held) (param : RunParam Text) (arg : Argument) → b ≡ a → IsPassed (files_of b) param arg → IsPassed (files_of a) param arg
passed_now a b param arg same is = subst (λ (h : Option Held). IsPassed (files_of h) param arg) same is
