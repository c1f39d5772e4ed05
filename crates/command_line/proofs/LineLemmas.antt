-- What `clap` takes has a subcommand with its paths.
use Rattle.std.proofs.Common.{◌≡◌, ◌∙◌, refl, ap, subst, sym, Bool, true, false, cond, not, ◌&&◌, ◌||◌, List, [], ◌∷◌, Option, Some, None, IfOk, IfSome, IsSome, Result, Ok, Err, ℕ, is_some, option_and_then, option_map, codes}
use Rattle.std.specs.Prelude.{find, fold, unwrap_or, slice_get}
use Rattle.std.specs.Option.{option_map_or}
use Rattle.std.specs.Str.{bytes_eq}
use Rattle.std.proofs.lemmas.Slice.Eq.{bytes_eq-Decides}
use Rattle.clap.specs.Words.{App, Row, Rule, Shape, Text, app_of, fault_of, first_of, new_rule, shape_of, is_simple, is_simple_and_free, subcommand_of, subcommand_rows, subcommand_rows_of, subcommand_name_of, with_subcommand}
use Rattle.std.specs.Box.{box_value}
use Rattle.std.specs.declared.alloc.AllocError.{AllocError}
use Rattle.clap.specs.Facts.{explicit_source}
use Rattle.clap.specs.Kinds.{HasKind, Kinds, check_kinds, or_else}
use Rattle.clap.specs.Faults.{check_fault, defaults_fault, entered_fault, level_fault, other_fault, settle_fault, step_fault, turn_fault, walk_fault, word_fault}
use Rattle.clap.specs.Simple.{argument_words, built, entered, label_of, names_of, rows_at}
use Rattle.clap.specs.Takes.{is_given}
use Rattle.clap.specs.Lexer.{long_of, short_of}
use Rattle.clap.specs.Walk.{Held, Names, Outcome, Step, Waiting, Walk, after_flag, after_step, answers_to, arg_by_index, done, idle, long_or_other, next, nothing_held, option, plain, plain_word, positional, refused, rows_after, settled, short_or_plain, stop_after, subcommand, subcommand_met, subcommand_or_other, to_positional, trailing, value, waits, walk, walk_from, walked, walked_from, word_met}
use Rattle.clap.proofs.OnLiterals.{clap_on_literals}
use Rattle.clap.specs.declared.builder.command.Command.{Command}
use Rattle.clap.specs.declared.error.Error.{Error}
use Rattle.clap.specs.declared.error.kind.ErrorKind.{ErrorKind}
use Rattle.clap.specs.declared.parser.matches.ArgMatches.{ArgMatches}
use Rattle.clap.specs.declared.parser.matches.ArgMatches.TheViews.{out-ArgMatches, out-SubCommand}
use Rattle.command_line.specs.Line.{AreMakePathsOf, IsExplained, IsFlagged, IsLineOf, IsPathOf, IsToldOf, IsWith, app, bare_app, check_shape, flag_of, make_paths_of, make_shape, mon_shape, path_of, path_shape, run_shape, texts_of, told_shape, try_shape}
use Rattle.command_line.specs.declared.line.asked.Line.{Line}
use Rattle.commands.specs.declared.makes.MakePaths.{MakePaths}
use Rattle.command_line.proofs.FilledRows.{AllAsk, AllFill, found_value, flagging, level_filled, setting}

-- the program's command is one whose matches and faults `clap` states
pub app_is_plain : is_simple_and_free app ≡ true
unfolding clap_on_literals
app_is_plain = refl

app_is_simple : is_simple app ≡ true
app_is_simple = refl

-- a command with one more subcommand, where both are known in other words
pub with_more : (before known : App) (sub : Result Command AllocError) (shape : Shape) (a : App) → IsWith before sub a → before ≡ known
    → IfOk sub (λ made. shape_of made ≡ shape) → a ≡ with_subcommand known shape
with_more before known sub shape a (made, is, with) first second =
    let shaped : shape_of made ≡ shape = subst (λ s. IfOk s (λ made. shape_of made ≡ shape)) is second in
    with ∙ ap (λ x. with_subcommand x (shape_of made)) first ∙ ap (with_subcommand known) shaped

-- the same of a command that may not be made
pub if_with : (result : Result Command AllocError) (before known : App) (sub : Result Command AllocError) (shape : Shape)
    → IfOk result (λ c. IsWith before sub (app_of c)) → before ≡ known → IfOk sub (λ made. shape_of made ≡ shape)
    → IfOk result (λ c. app_of c ≡ with_subcommand known shape)
if_with (Ok c) before known sub shape is first second = with_more before known sub shape (app_of c) is first second
if_with (Err e) before known sub shape is first second = tt

-- ---- a path of the subcommand that was entered

pub name_of_rows : (m : ArgMatches) → subcommand_name_of m ≡ option_map (λ p. p.0) (subcommand_rows_of m)
name_of_rows m = elim (out-ArgMatches m).subcommand as (λ o. option_map (λ b. (out-SubCommand (box_value b)).name.now) o ≡ option_map (λ p. p.0) (subcommand_rows o)) [ None ↦ refl | Some b ↦ refl ]

pub path_of-entered : (name id : Text) (rows : List Row) (entered : Option (Text × List Row))
    → option_map (λ p. p.0) entered ≡ Some name → option_map (λ p. p.1) entered ≡ Some rows
    → path_of name id entered ≡ first_of id rows
path_of-entered name id rows None named held = cc
path_of-entered name id rows (Some p) named held =
    let same : bytes_eq p.0 name ≡ true = (bytes_eq-Decides p.0 name).1 (cc) in
    let rows_are : p.1 ≡ rows = cc in
    rw (same, rows_are)

-- ---- the parts of a fault

or_else_parts : (a b : Kinds) → or_else a b ≡ [] → (a ≡ []) × (b ≡ [])
or_else_parts [] b e = (refl, e)
or_else_parts (k ∷ ks) b e = cc

-- ---- a subcommand with one path

abbrev program : App
program = built app

-- a command without a subcommand is refused
has_entered : (rows : List Row) (b : Bool) → check_fault program.top rows b ≡ [] → b ≡ true
has_entered rows true none = refl
has_entered rows false none = cc

row_found : (id : Text) (rows : List Row) → is_given id rows ≡ true → is_some (find (λ r. bytes_eq r.id id) rows) ≡ true
row_found id rows given = go (find (λ r. bytes_eq r.id id) rows) given
  where
    go : (o : Option Row) → option_map_or (λ (r : Row). explicit_source r.source) o false ≡ true → is_some o ≡ true
    go None e = cc
    go (Some r) e = refl

-- a level of a parse without a fault has none in what it enters, nor in what it asks for
level_parts : (s : Shape) (names : Names) (words : List Text) (has_subcommand : Bool) (below : Kinds)
    → level_fault s names nothing_held words has_subcommand below ≡ []
    → (below ≡ []) × (check_fault s (rows_after s.rules names words) has_subcommand ≡ [])
level_parts s names words has_subcommand below none =
    let end = (walk s.rules names nothing_held words).held in
    let after_walk = (or_else_parts (walk_fault s names (walk_from nothing_held) words) _ none).1 in
    let (none_below, after_below) = or_else_parts below _ after_walk in
    let after_settle = (or_else_parts (settle_fault s.rules s.args_override_self end) _ after_below).1 in
    (none_below, (or_else_parts (defaults_fault (settled s.rules end).rows s.rules) _ after_settle).1)

-- ---- a walk whose words have no fault asks for no help

-- it does not stop at the subcommand `help`
abbrev pub IsNoHelp : Option (Text × List Text) → Type 0
IsNoHelp None = Unit {0}
IsNoHelp (Some p) = bytes_eq p.0 (codes "help") ≡ false

abbrev IsNoHelpStep : Step → Type 0
IsNoHelpStep (next waiting) = Unit {0}
IsNoHelpStep (trailing position) = Unit {0}
IsNoHelpStep (subcommand name) = bytes_eq name (codes "help") ≡ false
IsNoHelpStep value = Unit {0}

no_help : (k : ErrorKind) (ks : Kinds) (b d : Bool) → d ≡ false → cond (b && not d) (k ∷ ks) [] ≡ [] → b ≡ false
no_help k ks false d enabled none = refl
no_help k ks true true enabled none = cc
no_help k ks true false enabled none = cc

module _ (s : Shape) (names : Names) (enabled : s.disable_help_subcommand ≡ false) where
  stopped_at : (word : Text) (w : Walk) (h : Held) (step : Step) → IsNoHelpStep step → IsNoHelp w.stopped → IsNoHelp (after_step s.rules word w h step).stopped
  stopped_at word w h (next waiting) none is = is
  stopped_at word w h (trailing position) none is = is
  stopped_at word w h (subcommand name) none is = none
  stopped_at word w h value none is = go (arg_by_index s.rules w.position)
    where
      go : (o : Option Rule) → IsNoHelp (to_positional s.rules o word w h).stopped
      go None = is
      go (Some a) = tt

  plain_step : (waiting : Waiting) (word : Text) (h : Held) → IsNoHelpStep (plain_word s.rules waiting word h).1
  plain_step idle word h = tt
  plain_step (option id) word h = tt
  plain_step positional word h = tt

  flag_step : (waiting : Waiting) (word : Text) (h : Held) (o : Outcome) → IsNoHelpStep (after_flag s.rules waiting word h o).1
  flag_step waiting word h done = tt
  flag_step waiting word h (waits id) = tt
  flag_step waiting word h plain = plain_step waiting word h
  flag_step waiting word h refused = plain_step waiting word h

  short_step : (waiting : Waiting) (word : Text) (o : Option Text) (h : Held) → IsNoHelpStep (short_or_plain s.rules waiting word o h).1
  short_step waiting word None h = plain_step waiting word h
  short_step waiting word (Some flags) h = flag_step waiting word _ _

  long_step : (waiting : Waiting) (word : Text) (o : Option (Text × Option Text)) (h : Held) → IsNoHelpStep (long_or_other s.rules waiting word o h).1
  long_step waiting word None h = short_step waiting word (short_of word) h
  long_step waiting word (Some p) h = flag_step waiting word _ _

  named_step : (o : Option Text) (waiting : Waiting) (position : ℕ) (word : Text) (h : Held) → other_fault s o word h ≡ []
      → IsNoHelpStep (subcommand_or_other s.rules o waiting position word h).1
  named_step (Some name) waiting position word h none = no_help _ _ (bytes_eq name (codes "help")) s.disable_help_subcommand enabled none
  named_step None waiting position word h none = go (bytes_eq word (45 ∷ 45 ∷ []))
    where
      go : (b : Bool) → IsNoHelpStep (cond b (h, trailing position) (long_or_other s.rules waiting word (long_of word) h)).1
      go true = tt
      go false = long_step waiting word (long_of word) h

  met_step : (is_trailing : Bool) (waiting : Waiting) (position : ℕ) (word : Text) (h : Held) → word_fault s names is_trailing waiting word h ≡ []
      → IsNoHelpStep (word_met s.rules names is_trailing waiting position word h).1
  met_step true waiting position word h none = tt
  met_step false waiting position word h none = named_step (subcommand_met names waiting word) waiting position word h none

  walked_on : (o : Option (Text × List Text)) (w : Walk) (word : Text) → IsNoHelp o → IsNoHelp w.stopped
      → cond (is_some o) [] (or_else (word_fault s names w.is_trailing w.waiting word w.held) (step_fault s w.position (word_met s.rules names w.is_trailing w.waiting w.position word w.held).0 (word_met s.rules names w.is_trailing w.waiting w.position word w.held).1)) ≡ []
      → IsNoHelp (walked_from s.rules names o w word).stopped
  walked_on None w word known is none =
      let met = word_met s.rules names w.is_trailing w.waiting w.position word w.held in
      let named = (or_else_parts (word_fault s names w.is_trailing w.waiting word w.held) _ none).0 in
      stopped_at word w met.0 met.1 (met_step w.is_trailing w.waiting w.position word w.held named) is
  walked_on (Some p) w word known is none = known

  walked_step : (w : Walk) (word : Text) → turn_fault s names w word ≡ [] → IsNoHelp w.stopped → IsNoHelp (walked s.rules names w word).stopped
  unfolding walked
  walked_step w word none is = walked_on w.stopped w word is is none

  walk_asks_no_help : (words : List Text) (w : Walk) → walk_fault s names w words ≡ [] → IsNoHelp w.stopped → IsNoHelp (fold (walked s.rules names) w words).stopped
  unfolding walk_fault
  walk_asks_no_help [] w none is = is
  walk_asks_no_help (word ∷ rest) w none is =
      let (turn, later) = or_else_parts (turn_fault s names w word) (walk_fault s names (walked s.rules names w word) rest) none in
      walk_asks_no_help rest (walked s.rules names w word) later (walked_step w word turn is)

-- ---- a subcommand as `clap` builds it: its own arguments, then `--help` and `--version`

abbrev built_of : Shape → Shape
built_of s = unwrap_or (slice_get (built (with_subcommand bare_app s)).subs 0) bare_app.top

abbrev rule_of_built : Shape → ℕ → Rule
rule_of_built s place = unwrap_or (slice_get (built_of s).rules place) (new_rule [])

-- a path that is required is given
path_given : (b : Bool) → check_kinds false false ((not b) || false) ≡ [] → b ≡ true
path_given true none = refl
path_given false none = cc

-- a level without a fault has the path that is required of it
path_there : (s : Shape) (id : Text) → AllFill s.rules → AllAsk s.rules → ((rows : List Row) → check_fault s rows false ≡ [] → is_given id rows ≡ true)
    → (words : List Text) → level_fault s [] nothing_held words false [] ≡ [] → IsSome (first_of id (rows_after s.rules [] words))
path_there s id fills asks given words none =
    let rows = rows_after s.rules [] words in
    found_value _ rows (level_filled s.rules fills asks words) (row_found id rows (given rows (level_parts s [] words false [] none).1))

-- one path, and `--explain`
module _ (name id : Text) where
  abbrev path_rule_at : ℕ → Rule
  path_rule_at = rule_of_built (path_shape name id)

  path_fills : AllFill (built_of (path_shape name id)).rules
  path_fills =
      (setting (path_rule_at 0), (setting (path_rule_at 1), (λ values rows h f. f, (λ values rows h f. f, tt))))

  path_asks : AllAsk (built_of (path_shape name id)).rules
  path_asks =
      (λ none. cc, (λ none. (refl, λ rows f. flagging (path_rule_at 1) (codes "true") rows f), (λ none. (refl, λ rows f. f), (λ none. (refl, λ rows f. f), tt))))

  one_path : (words : List Text) → level_fault (built_of (path_shape name id)) [] nothing_held words false [] ≡ []
      → IsSome (first_of id (rows_after (built_of (path_shape name id)).rules [] words))
  one_path = path_there (built_of (path_shape name id)) id path_fills path_asks (λ rows none. path_given (is_given id rows) none)

-- a job, `--explain` and `--registers`
module _ (name : Text) where
  abbrev told_rule_at : ℕ → Rule
  told_rule_at = rule_of_built (told_shape name)

  told_fills : AllFill (built_of (told_shape name)).rules
  told_fills =
      (setting (told_rule_at 0), (setting (told_rule_at 1), (setting (told_rule_at 2), (λ values rows h f. f, (λ values rows h f. f, tt)))))

  told_asks : AllAsk (built_of (told_shape name)).rules
  told_asks =
      (λ none. cc, (λ none. (refl, λ rows f. flagging (told_rule_at 1) (codes "true") rows f), (λ none. (refl, λ rows f. flagging (told_rule_at 2) (codes "true") rows f), (λ none. (refl, λ rows f. f), (λ none. (refl, λ rows f. f), tt)))))

  told_path : (words : List Text) → level_fault (built_of (told_shape name)) [] nothing_held words false [] ≡ []
      → IsSome (first_of (codes "job") (rows_after (built_of (told_shape name)).rules [] words))
  told_path = path_there (built_of (told_shape name)) (codes "job") told_fills told_asks (λ rows none. path_given (is_given (codes "job") rows) none)

-- ---- the subcommand with three paths, and `--explain`

abbrev make_built : Shape
make_built = built_of make_shape

abbrev make_rule : ℕ → Rule
make_rule = rule_of_built make_shape

make_fills : AllFill make_built.rules
make_fills =
    (setting (make_rule 0), (setting (make_rule 1), (setting (make_rule 2), (setting (make_rule 3), (λ values rows h f. f, (λ values rows h f. f, tt))))))

make_asks : AllAsk make_built.rules
make_asks =
    (λ none. cc, (λ none. cc, (λ none. cc, (λ none. (refl, λ rows f. flagging (make_rule 3) (codes "true") rows f), (λ none. (refl, λ rows f. f), (λ none. (refl, λ rows f. f), tt))))))

-- each path is required
paths_given : (a b c : Bool) → check_kinds false false ((not a) || ((not b) || ((not c) || false))) ≡ []
    → (a ≡ true) × (b ≡ true) × (c ≡ true)
paths_given true true true none = (refl, refl, refl)
paths_given false b c none = cc
paths_given true false c none = cc
paths_given true true false none = cc

three_there : (a b c : Option Text) → IsSome a → IsSome b → IsSome c
    → IsSome {T = Text × Text × Text} (option_and_then (λ x. option_and_then (λ y. option_map (λ z. (x, y, z)) c) b) a)
three_there None b c one two three = cc
three_there (Some x) None c one two three = cc
three_there (Some x) (Some y) None one two three = cc
three_there (Some x) (Some y) (Some z) one two three = refl

paths_there : (words : List Text) → level_fault make_built [] nothing_held words false [] ≡ []
    → IsSome (make_paths_of (Some (codes "make", rows_after make_built.rules [] words)))
paths_there words none =
    let rows = rows_after make_built.rules [] words in
    let asked = (level_parts make_built [] words false [] none).1 in
    let (image, job, out) = paths_given (is_given (codes "image") rows) (is_given (codes "job") rows) (is_given (codes "out") rows) asked in
    let filled = level_filled make_built.rules make_fills make_asks words in
    three_there (first_of (codes "image") rows) (first_of (codes "job") rows) (first_of (codes "out") rows)
    (found_value _ rows filled (row_found (codes "image") rows image)) (found_value _ rows filled (row_found (codes "job") rows job))
    (found_value _ rows filled (row_found (codes "out") rows out))

-- ---- what was entered

-- the subcommand that was entered has its paths
abbrev pub HasPath : Option (Text × List Row) → Type 0
HasPath entered =
    path_of (codes "check") (codes "image") entered ≡ None → path_of (codes "run") (codes "job") entered ≡ None
    → path_of (codes "try") (codes "job") entered ≡ None → path_of (codes "mon") (codes "job") entered ≡ None → IsSome (make_paths_of entered)

pub no_path : {A : Type 0} (o : Option A) → IsSome o → o ≡ None → ⊥
no_path o some none = cc

abbrev help_built : Shape
help_built = unwrap_or (slice_get program.subs 5) bare_app.top

-- the subcommand that a word names: it answers to `check`, to `run`, to `try`, to `mon`, to `make` or to `help`
abbrev answering : Bool → Bool → Bool → Bool → Bool → Bool → Option Shape
answering a b c d e f =
    cond a (Some (built_of check_shape)) (cond b (Some (built_of run_shape)) (cond c (Some (built_of try_shape)) (cond d (Some (built_of mon_shape))
    (cond e (Some make_built) (cond f (Some help_built) None)))))

or_false : (b : Bool) → b || false ≡ true → b ≡ true
or_false true is = refl
or_false false is = is

-- another name is not answered to by `help`
other_than_help : (name : Text) → bytes_eq name (codes "help") ≡ false → answers_to name (label_of help_built) ≡ true → ⊥
other_than_help name other answers =
    let same = (bytes_eq-Decides (codes "help") name).0 (or_false (bytes_eq (codes "help") name) answers) in
    let is : bytes_eq name (codes "help") ≡ true = (bytes_eq-Decides name (codes "help")).1 (sym same) in
    cc

entered_path : (stop : Option (Text × List Text)) → IsNoHelp stop → is_some (entered program stop) ≡ true → entered_fault program stop ≡ []
    → HasPath (entered program stop)
entered_path None other some none = cc
entered_path (Some p) other some none =
    go (answers_to p.0 (label_of (built_of check_shape))) (answers_to p.0 (label_of (built_of run_shape))) (answers_to p.0 (label_of (built_of try_shape)))
    (answers_to p.0 (label_of (built_of mon_shape))) (answers_to p.0 (label_of make_built)) (answers_to p.0 (label_of help_built)) (other_than_help p.0 other) some none
  where
    go : (a b c d e f : Bool) → (f ≡ true → ⊥) → is_some (option_map (λ s. rows_at s p.1) (answering a b c d e f)) ≡ true
        → option_map_or (λ s. level_fault s [] nothing_held p.1 false []) (answering a b c d e f) [] ≡ []
        → HasPath (option_map (λ s. rows_at s p.1) (answering a b c d e f))
    go true b c d e f help some none = λ no_image no_job no_try no_mon. absurd (no_path _ (one_path (codes "check") (codes "image") p.1 none) no_image)
    go false true c d e f help some none = λ no_image no_job no_try no_mon. absurd (no_path _ (told_path (codes "run") p.1 none) no_job)
    go false false true d e f help some none = λ no_image no_job no_try no_mon. absurd (no_path _ (told_path (codes "try") p.1 none) no_try)
    go false false false true e f help some none = λ no_image no_job no_try no_mon. absurd (no_path _ (one_path (codes "mon") (codes "job") p.1 none) no_mon)
    go false false false false true f help some none = λ no_image no_job no_try no_mon. paths_there p.1 none
    go false false false false false true help some none = absurd (help refl)
    go false false false false false false help some none = cc

-- what `clap` takes names a subcommand and its paths
pub path_named : (words : List Text) → fault_of app words ≡ [] → HasPath (subcommand_of app words)
path_named words none =
    let top = program.top in
    let names = names_of program in
    let rest = argument_words app words in
    let stop = stop_after top.rules names rest in
    let has = is_some (entered program stop) in
    let (below, asked) = level_parts top names rest has (entered_fault program stop) none in
    let walks = (or_else_parts (walk_fault top names (walk_from nothing_held) rest) _ none).0 in
    let other = walk_asks_no_help top names refl rest (walk_from nothing_held) walks tt in
    entered_path stop other (has_entered (rows_after top.rules names rest) has asked) below

-- ---- the program's command, in the words of a parse's clauses

pub no_fault : (a : App) (words : List Text) → a ≡ app → (is_simple_and_free a ≡ true → fault_of a words ≡ []) → fault_of app words ≡ []
no_fault a words is none = ap (λ x. fault_of x words) (sym is) ∙ none (ap is_simple_and_free is ∙ app_is_plain)

-- an error is of want of memory, or of a kind that `clap` finds
pub has_kind : (a : App) (words : List Text) (e : Error) → a ≡ app
    → (is_simple_and_free a ≡ true → HasKind (fault_of a words) e) → HasKind (fault_of app words) e
has_kind a words e is has =
    subst (λ (x : App). HasKind (fault_of x words) e) is (has (ap is_simple_and_free is ∙ app_is_plain))

pub same_entered : (a : App) (words : List Text) (X : Type 0) (entered : Option (Text × List Row)) → a ≡ app
    → (is_simple a ≡ true → X × (entered ≡ subcommand_of a words)) → entered ≡ subcommand_of app words
same_entered a words X entered is same =
    let simple : is_simple a ≡ true = ap is_simple is ∙ app_is_simple in
    (same simple).1 ∙ ap (λ x. subcommand_of x words) is

-- a path of the subcommand that was entered
is_path : (words : List Text) (name id path : Text) (entered : Option (Text × List Row)) → fault_of app words ≡ []
    → entered ≡ subcommand_of app words → Some path ≡ path_of name id entered → IsPathOf words name id path
is_path words name id path entered none same at = (none, ap (path_of name id) (sym same) ∙ sym at)

-- whether a flag is among its words
pub is_flagged : (words : List Text) (name flag : Text) (asked : Bool) (entered : Option (Text × List Row))
    → entered ≡ subcommand_of app words → asked ≡ flag_of name flag entered → IsFlagged words name flag asked
is_flagged words name flag asked entered same at = at ∙ ap (flag_of name flag) same

-- a line of one path
pub path_line : (words : List Text) (name id path : Text) (explain : Bool) (entered : Option (Text × List Row)) → fault_of app words ≡ []
    → entered ≡ subcommand_of app words → Some path ≡ path_of name id entered → explain ≡ flag_of name (codes "explain") entered
    → IsPathOf words name id path × IsExplained words name explain
path_line words name id path explain entered none same at asked =
    (is_path words name id path entered none same at, is_flagged words name (codes "explain") explain entered same asked)

-- the same of a subcommand that tells how a run ended
pub told_line : (words : List Text) (name path : Text) (explain registers : Bool) (entered : Option (Text × List Row)) → fault_of app words ≡ []
    → entered ≡ subcommand_of app words → Some path ≡ path_of name (codes "job") entered → explain ≡ flag_of name (codes "explain") entered
    → registers ≡ flag_of name (codes "registers") entered → IsToldOf words name path explain registers
told_line words name path explain registers entered none same at asked shows = (
  is_path words name (codes "job") path entered none same at,
  is_flagged words name (codes "explain") explain entered same asked,
  is_flagged words name (codes "registers") registers entered same shows,
)

-- the line that is asked for
pub line_taken : (words : List Text) (line : Line) → (l : Line) × (Some line ≡ Some l) × IsLineOf words l → IsLineOf words line
line_taken words line (l, is, of) = subst (λ o. IfSome o (IsLineOf words)) (sym is) of

pub none_taken : (words : List Text) → (l : Line) × (None ≡ Some l) × IsLineOf words l → ⊥
none_taken words (l, is, of) = cc

-- a path that was not found
pub no_path_of : (words : List Text) (name id : Text) (entered : Option (Text × List Row)) → entered ≡ subcommand_of app words
    → None ≡ path_of name id entered → path_of name id (subcommand_of app words) ≡ None
no_path_of words name id entered same at = ap (path_of name id) (sym same) ∙ sym at

-- the paths of `make`
pub are_make_paths : (words : List Text) (paths : MakePaths) (entered : Option (Text × List Row)) → fault_of app words ≡ []
    → entered ≡ subcommand_of app words → Some (texts_of paths) ≡ make_paths_of entered → AreMakePathsOf words paths
are_make_paths words paths entered none same at = (none, ap make_paths_of (sym same) ∙ sym at)

-- paths of `make` that were not found
pub no_make_paths : (words : List Text) (entered : Option (Text × List Row)) → entered ≡ subcommand_of app words
    → None ≡ make_paths_of entered → make_paths_of (subcommand_of app words) ≡ None
no_make_paths words entered same at = ap make_paths_of (sym same) ∙ sym at
