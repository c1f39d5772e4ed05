-- Each row of a parse has a value, for a command whose only flags are requests such as `--help`, or have no value.
use Rattle.std.proofs.Common.{◌≡◌, ℕ, zero, suc, Bool, true, false, cond, not, ◌&&◌, List, [], ◌∷◌, ◌++◌, length, drop, Option, Some, None, IsSome, is_some, refl}
use Rattle.std.specs.Prelude.{find, fold, slice_get, option_and_then, encode_utf8}
use Rattle.std.specs.Str.{bytes_eq, chars}
use Rattle.clap.specs.Lexer.{long_of, short_of}
use Rattle.clap.specs.Walk.{Held, Names, Outcome, Row, Rule, Step, Text, Waiting, Walk, after_flag, after_step, arg_by_id, arg_by_index, arg_by_long, arg_by_short, at_row, bundle_met, bundle_step, default_rows, done, flag_met, has_long, has_row, has_short, idle, is_pending, takes_several, long_met, long_or_other, more_values, next, nothing_held, option, option_word, plain, plain_word, positional, positional_held, pushed, reacted, reading_by, refused, rows_after, settled, settled_rows, short_met, short_or_plain, subcommand, subcommand_met, subcommand_or_other, takes_values, to_positional, trailing, used, used_by_id, value, values_or_missing, waits, walk, walk_from, walked, walked_from, with_default, with_values, without, word_met}
use Rattle.clap.specs.declared.builder.value_parser.Reading.{Reading}
use Rattle.clap.specs.declared.parser.matches.ValueSource.{ValueSource}
use Rattle.clap.specs.declared.parser.matches.ValueSource.TheVariants.{CommandLine}

-- there is a first text
abbrev pub HasText : List Text → Type 0
HasText [] = ⊥
HasText (t ∷ ts) = Unit {0}

-- each row has a value
abbrev pub Filled : List Row → Type 0
Filled [] = Unit {0}
Filled (r ∷ rs) = HasText r.values × Filled rs

abbrev pub PendingFilled : Option (Text × List Text) → Type 0
PendingFilled None = Unit {0}
PendingFilled (Some p) = HasText p.1

abbrev pub Good : Held → Type 0
Good h = Filled h.rows × PendingFilled h.pending

text_first : (ts : List Text) → HasText ts → IsSome (slice_get ts 0)
text_first [] h = absurd h
text_first (t ∷ ts) h = refl

-- a row that is found shows a value
pub found_value : (p : Row → Bool) (rows : List Row) → Filled rows → is_some (find p rows) ≡ true
    → IsSome (option_and_then (λ (r : Row). slice_get r.values 0) (find p rows))
found_value p [] filled found = cc
found_value p (r ∷ rs) filled found = go (p r) (found_value p rs filled.1) found
  where
    go : (b : Bool) → (is_some (find p rs) ≡ true → IsSome (option_and_then (λ (r : Row). slice_get r.values 0) (find p rs)))
        → is_some (cond b (Some r) (find p rs)) ≡ true
        → IsSome (option_and_then (λ (r : Row). slice_get r.values 0) (cond b (Some r) (find p rs)))
    go true more e = text_first r.values filled.0
    go false more e = more e

Filled-append : (a b : List Row) → Filled a → Filled b → Filled (a ++ b)
Filled-append [] b f g = g
Filled-append (r ∷ rs) b f g = (f.0, Filled-append rs b f.1 g)

HasText-append : (a b : List Text) → HasText a → HasText (a ++ b)
HasText-append [] b h = absurd h
HasText-append (t ∷ ts) b h = h

HasText-last : (a : List Text) (t : Text) → HasText (a ++ t ∷ [])
HasText-last [] t = tt
HasText-last (x ∷ xs) t = tt

Filled-at_row : (id : Text) (change : Row → List Row) (missing rows : List Row) → ((r : Row) → HasText r.values → Filled (change r))
    → Filled missing → Filled rows → Filled (at_row id change missing rows)
Filled-at_row id change missing [] changed m f = m
Filled-at_row id change missing (r ∷ rs) changed m f = go (bytes_eq r.id id) (Filled-at_row id change missing rs changed m f.1)
  where
    go : (b : Bool) → Filled (at_row id change missing rs) → Filled (cond b (change r ++ rs) (r ∷ at_row id change missing rs))
    go true more = Filled-append (change r) rs (changed r f.0) f.1
    go false more = (f.0, more)

pub Filled-with_values : (id : Text) (how : Reading) (s : ValueSource) (values : List Text) (rows : List Row) → HasText values
    → Filled rows → Filled (with_values id how s values rows)
Filled-with_values id how s values rows h f =
    Filled-at_row id (more_values s values) _ rows (λ r g. (HasText-append r.values values g, tt)) (h, tt) f

pub Filled-without : (id : Text) (rows : List Row) → Filled rows → Filled (without id rows)
Filled-without id rows f = Filled-at_row id (λ _. []) [] rows (λ r g. tt) tt f

Filled-with_default : (rows : List Row) (a : Rule) → Filled rows → Filled (with_default rows a)
Filled-with_default rows a f = go (has_row a.id rows) a.defaults
  where
    given : (ds : List Text) → Filled (default_rows a.id (reading_by a) ds rows)
    given [] = f
    given (d ∷ ds) = Filled-with_values a.id (reading_by a) _ (d ∷ ds) rows tt f

    go : (b : Bool) (ds : List Text) → Filled (cond b rows (default_rows a.id (reading_by a) ds rows))
    go true ds = f
    go false ds = given ds

Filled-defaults : (c : List Rule) (rows : List Row) → Filled rows → Filled (fold with_default rows c)
Filled-defaults [] rows f = f
Filled-defaults (a ∷ rest) rows f = Filled-defaults rest (with_default rows a) (Filled-with_default rows a f)

-- an argument that a dash names takes no value, and leaves the rows filled
abbrev pub IsRequest : Option Rule → Type 0
IsRequest None = Unit {0}
IsRequest (Some a) = (takes_values a ≡ false) × ((rows : List Row) → Filled rows → Filled (used a [] rows))

Good-pushed : (id word : Text) (h : Held) → Filled h.rows → Good (pushed id word h)
Good-pushed id word h f = (f, HasText-last _ word)

-- a use of the rule with some values leaves the rows filled
abbrev pub Fills : Rule → Type 0
Fills a = (values : List Text) (rows : List Row) → HasText values → Filled rows → Filled (used a values rows)

abbrev pub AllFill : List Rule → Type 0
AllFill [] = Unit {0}
AllFill (a ∷ rest) = Fills a × AllFill rest

found_fills : (test : Rule → Bool) (rules : List Rule) → AllFill rules → (values : List Text) (rows : List Row) → HasText values → Filled rows
    → Filled (used_by_id (find test rules) values rows)
found_fills test [] all values rows h f = f
found_fills test (a ∷ rest) all values rows h f = go (test a) (found_fills test rest all.1 values rows h f)
  where
    go : (b : Bool) → Filled (used_by_id (find test rest) values rows) → Filled (used_by_id (cond b (Some a) (find test rest)) values rows)
    go true later = all.0 values rows h f
    go false later = later

-- the rule is a request, unless it is a positional
abbrev pub AllAsk : List Rule → Type 0
AllAsk [] = Unit {0}
AllAsk (a ∷ rest) = (is_some a.index ≡ false → IsRequest (Some a)) × AllAsk rest

found_asks : (test : Rule → Bool) (rules : List Rule) → AllAsk rules → IsRequest (find (λ a. not (is_some a.index) && test a) rules)
found_asks test [] all = tt
found_asks test (a ∷ rest) all = go (is_some a.index) (test a) refl (found_asks test rest all.1)
  where
    go : (i t : Bool) → is_some a.index ≡ i → IsRequest (find (λ a. not (is_some a.index) && test a) rest)
        → IsRequest (cond (not i && t) (Some a) (find (λ a. not (is_some a.index) && test a) rest))
    go true t is later = later
    go false true is later = all.0 is
    go false false is later = later

-- what fills: an argument that is set
has_values : (a : Rule) (values : List Text) → HasText values → HasText (values_or_missing a values)
has_values a [] h = absurd h
has_values a (v ∷ vs) h = tt

pub setting : (a : Rule) (values : List Text) (rows : List Row) → HasText values → Filled rows
    → Filled (with_values a.id (reading_by a) CommandLine (values_or_missing a values) (without a.id rows))
setting a values rows h f =
    Filled-with_values a.id (reading_by a) CommandLine (values_or_missing a values) (without a.id rows) (has_values a values h) (Filled-without a.id rows f)

-- a flag that is used without a value
pub flagging : (a : Rule) (text : Text) (rows : List Row) → Filled rows
    → Filled (with_values a.id (reading_by a) CommandLine (text ∷ []) (without a.id rows))
flagging a text rows f = Filled-with_values a.id (reading_by a) CommandLine (text ∷ []) (without a.id rows) tt (Filled-without a.id rows f)

module _ (c : List Rule)
    (use_fills : (id : Text) (values : List Text) (rows : List Row) → HasText values → Filled rows → Filled (used_by_id (arg_by_id c id) values rows))
    (long_request : (name : Text) → IsRequest (arg_by_long c name))
    (short_request : (x : ℕ) → IsRequest (arg_by_short c x)) where
  settled_filled : (h : Held) → Good h → Filled (settled c h).rows
  settled_filled h g = go h.pending g.1
    where
      go : (p : Option (Text × List Text)) → PendingFilled p → Filled (settled_rows c p h.rows)
      go None q = g.0
      go (Some p) q = use_fills p.0 p.1 h.rows q g.0

  flag_good : (a : Rule) (v : Option Text) (h : Held) → IsRequest (Some a) → Good h → Good (flag_met c a v h).0
  flag_good a None h r g = (r.1 _ (settled_filled h g), tt)
  flag_good a (Some v) h r g = g

  long_good : (found : Option Rule) (v : Option Text) (h : Held) → IsRequest found → Good h → Good (long_met c found v h).0
  long_good None v h r g = g
  long_good (Some a) v h r g = rw r.0 (flag_good a v h r g)

  option_word_good : (found : Option Rule) (id word : Text) (h : Held) → Good h → Good (option_word found id word h).0
  option_word_good None id word h g = g
  option_word_good (Some a) id word h g = Good-pushed id word h g.0

  plain_word_good : (waiting : Waiting) (word : Text) (h : Held) → Good h → Good (plain_word c waiting word h).0
  plain_word_good idle word h g = g
  plain_word_good (option id) word h g = option_word_good (arg_by_id c id) id word h g
  plain_word_good positional word h g = g

  after_flag_good : (waiting : Waiting) (word : Text) (h : Held) (o : Outcome) → Good h → Good (after_flag c waiting word h o).0
  after_flag_good waiting word h done g = g
  after_flag_good waiting word h (waits id) g = g
  after_flag_good waiting word h plain g = plain_word_good waiting word h g
  after_flag_good waiting word h refused g = plain_word_good waiting word h g

  short_good : (found : Option Rule) (rest : Text) (h : Held) (go_on : Held → Held × Outcome) → IsRequest found
      → ((h : Held) → Good h → Good (go_on h).0) → Good h → Good (short_met c found rest h go_on).0
  short_good None rest h go_on r next_good g = g
  short_good (Some a) rest h go_on r next_good g = rw r.0 (next_good (reacted c a [] h) (r.1 _ (settled_filled h g), tt))

  bundle_step_good : (o : Option ℕ) (flags : Text) (skip : ℕ) (so_far : Outcome) (h : Held) (go_on : Text → ℕ → Outcome → Held → Held × Outcome)
      → ((flags : Text) (skip : ℕ) (so_far : Outcome) (h : Held) → Good h → Good (go_on flags skip so_far h).0)
      → Good h → Good (bundle_step c o flags skip so_far h go_on).0
  bundle_step_good None flags skip so_far h go_on good g = g
  bundle_step_good (Some x) flags zero so_far h go_on good g =
      let rest = drop (length (encode_utf8 x)) flags in
      short_good (arg_by_short c x) rest h (go_on rest 0 done) (short_request x) (good rest 0 done) g
  bundle_step_good (Some x) flags (suc skip) so_far h go_on good g = good (drop (length (encode_utf8 x)) flags) skip so_far h g

  bundle_good : (k : ℕ) (flags : Text) (skip : ℕ) (so_far : Outcome) (h : Held) → Good h → Good (bundle_met c k flags skip so_far h).0
  unfolding bundle_met
  bundle_good zero flags skip so_far h g = g
  bundle_good (suc k) flags skip so_far h g = bundle_step_good (slice_get (chars flags) 0) flags skip so_far h (bundle_met c k) (bundle_good k) g

  short_or_plain_good : (waiting : Waiting) (word : Text) (o : Option Text) (h : Held) → Good h → Good (short_or_plain c waiting word o h).0
  short_or_plain_good waiting word None h g = plain_word_good waiting word h g
  short_or_plain_good waiting word (Some flags) h g =
      after_flag_good waiting word _ _ (bundle_good (length flags) flags h.skip plain (record h { skip = 0 }) g)

  long_or_other_good : (waiting : Waiting) (word : Text) (o : Option (Text × Option Text)) (h : Held) → Good h → Good (long_or_other c waiting word o h).0
  long_or_other_good waiting word None h g = short_or_plain_good waiting word (short_of word) h g
  long_or_other_good waiting word (Some p) h g =
      after_flag_good waiting word _ _ (long_good (arg_by_long c p.0) p.1 h (long_request p.0) g)

  other_good : (o : Option Text) (waiting : Waiting) (position : ℕ) (word : Text) (h : Held) → Good h → Good (subcommand_or_other c o waiting position word h).0
  other_good (Some name) waiting position word h g = g
  other_good None waiting position word h g = go (bytes_eq word (45 ∷ 45 ∷ []))
    where
      go : (b : Bool) → Good (cond b (h, trailing position) (long_or_other c waiting word (long_of word) h)).0
      go true = g
      go false = long_or_other_good waiting word (long_of word) h g

  word_good : (names : Names) (is_trailing : Bool) (waiting : Waiting) (position : ℕ) (word : Text) (h : Held) → Good h
      → Good (word_met c names is_trailing waiting position word h).0
  word_good names true waiting position word h g = g
  word_good names false waiting position word h g = other_good (subcommand_met names waiting word) waiting position word h g

  positional_good : (a : Rule) (word : Text) (h : Held) → Good h → Good (positional_held c a word h)
  positional_good a word h g =
      let several = is_pending a h.pending && takes_several a in
      Good-pushed a.id word (cond several h (settled c h)) (go several)
    where
      go : (b : Bool) → Filled (cond b h (settled c h)).rows
      go true = g.0
      go false = settled_filled h g

  to_positional_good : (found : Option Rule) (word : Text) (w : Walk) (h : Held) → Good h → Good (to_positional c found word w h).held
  to_positional_good None word w h g = g
  to_positional_good (Some a) word w h g = positional_good a word h g

  after_step_good : (word : Text) (w : Walk) (h : Held) (s : Step) → Good h → Good (after_step c word w h s).held
  after_step_good word w h (next waiting) g = g
  after_step_good word w h (trailing position) g = g
  after_step_good word w h (subcommand name) g = g
  after_step_good word w h value g = to_positional_good (arg_by_index c w.position) word w h g

  walked_good : (names : Names) (w : Walk) (word : Text) → Good w.held → Good (walked c names w word).held
  unfolding walked
  walked_good names w word g = go w.stopped
    where
      go : (o : Option (Text × List Text)) → Good (walked_from c names o w word).held
      go None = after_step_good word w _ _ (word_good names w.is_trailing w.waiting w.position word w.held g)
      go (Some p) = g

  walk_good : (names : Names) (words : List Text) (w : Walk) → Good w.held → Good (fold (walked c names) w words).held
  walk_good names [] w g = g
  walk_good names (x ∷ xs) w g = walk_good names xs (walked c names w x) (walked_good names w x g)

  -- the rows after all the words
  rows_filled : (names : Names) (words : List Text) → Filled (rows_after c names words)
  rows_filled names words =
      let h = (walk c names nothing_held words).held in
      Filled-defaults c (settled c h).rows (settled_filled h (walk_good names words (walk_from nothing_held) (tt, tt)))

-- the rows of a level whose rules fill, and whose flags have no value
pub level_filled : (c : List Rule) → AllFill c → AllAsk c → (words : List Text) → Filled (rows_after c [] words)
level_filled c fills asks words =
    rows_filled c (λ id values rows. found_fills (λ a. bytes_eq a.id id) c fills values rows)
    (λ name. found_asks (λ a. has_long a name) c asks) (λ x. found_asks (λ a. has_short a x) c asks) [] words
