-- Lines, one after another.
use Rattle.std.proofs.Common.{◌≡◌, ◌∙◌, ◌++◌, ◌+◌, ◌<◌, inl, inr, ℕ, List, [], ◌∷◌, length, take, drop, get_or, Option, Some, None, Result, Ok, Err, refl, sym, ap, subst, append_assoc, add-one}
use Rattle.std.proofs.Math.Seq.{take-suc}
use Rattle.std.proofs.lemmas.List.{append-nil, take-append-drop}
use Rattle.std.specs.Io.KnownBytes.{Consumes, IsAtEnd, Keeps, ReadConsumes}
use Rattle.std.specs.Str.{IsUtf8}
use Rattle.monitor.specs.Commands.{order_of}
use Rattle.monitor.specs.declared.commands.Flow.{Flow}
use Rattle.monitor.specs.declared.commands.Flow.TheVariants as flow
use Rattle.monitor.specs.declared.commands.MonError.TheVariants as error
use Rattle.rv_listing.specs.SinkLemmas.{appends_both, keeps_appends, kept_same}
use Rattle.endings.specs.Streams.{Prints, Stream}
use Rattle.commands.specs.Talks.{AreAnswered, AreLines, GoesOver, IsAnswered, IsDone, IsLine, Quits, Stands, Talks, Watch, answer_of, error_line, flow_after, joined}

joined-more : (xs ys : List (List ℕ)) → joined (xs ++ ys) ≡ joined xs ++ joined ys
unfolding joined
joined-more [] ys = refl
joined-more (x ∷ xs) ys =
    ap (λ (l : List ℕ). x ++ (10 ∷ l)) (joined-more xs ys) ∙ sym (append_assoc x (10 ∷ joined xs) (joined ys))

lines-more : (xs ys : List (List ℕ)) → AreLines xs → AreLines ys → AreLines (xs ++ ys)
unfolding AreLines
lines-more [] ys some more = more
lines-more (x ∷ xs) ys (one, some) more = (one, lines-more xs ys some more)

answered-more : (vlenb : ℕ) (xs ys : List (List ℕ)) (old mid new : Watch) (some more : List ℕ) → AreAnswered vlenb xs old mid some
    → AreAnswered vlenb ys mid new more → AreAnswered vlenb (xs ++ ys) old new (some ++ more)
unfolding AreAnswered
answered-more vlenb [] ys old mid new some more (same, none) are =
    subst (λ (w : Watch). AreAnswered vlenb ys w new (some ++ more)) same
    (subst (λ (t : List ℕ). AreAnswered vlenb ys mid new (t ++ more)) (sym none) are)
answered-more vlenb (x ∷ xs) ys old mid new some more (w, first, rest, one, then, is) are =
    (w, first, rest ++ more, one, answered-more vlenb xs ys w mid new rest more then are, ap (λ (t : List ℕ). t ++ more) is ∙ append_assoc first rest more)

-- what stands after lines, which are answered
pub stands-after : (vlenb : ℕ) (lines : List (List ℕ)) (bytes last : List ℕ) (old mid new : Watch) (some more : List ℕ) → AreLines lines
    → AreAnswered vlenb lines old mid some → Stands vlenb bytes last mid new more → Stands vlenb (joined lines ++ bytes) last old new (some ++ more)
stands-after vlenb lines bytes last old mid new some more each are t = record {
  lines = lines ++ t.lines;
  whole = ap (λ (l : List ℕ). joined lines ++ l) t.whole
      ∙ sym (append_assoc (joined lines) (joined t.lines) last) ∙ ap (λ (l : List ℕ). l ++ last) (sym (joined-more lines t.lines));
  each = lines-more lines t.lines each t.each;
  begun = t.begun;
  answered = answered-more vlenb lines t.lines old mid new some more are t.answered;
}

-- more bytes behind those that were read
pub behind : (vlenb : ℕ) (read left bytes : List ℕ) (old mid : Watch) (some : List ℕ) (s : Stands vlenb read left old mid some)
    → read ++ bytes ≡ joined s.lines ++ (left ++ bytes)
behind vlenb read left bytes old mid some s = ap (λ (l : List ℕ). l ++ bytes) s.whole ∙ append_assoc (joined s.lines) left bytes

pub stands-more : (vlenb : ℕ) (read left bytes last : List ℕ) (old mid new : Watch) (some more : List ℕ) → Stands vlenb read left old mid some
    → Stands vlenb (left ++ bytes) last mid new more → Stands vlenb (read ++ bytes) last old new (some ++ more)
stands-more vlenb read left bytes last old mid new some more s t =
    subst (λ (l : List ℕ). Stands vlenb l last old new (some ++ more)) (sym (behind vlenb read left bytes old mid some s))
    (stands-after vlenb s.lines (left ++ bytes) last old mid new some more s.each s.answered t)

-- nothing was read yet
pub stands-none : (vlenb : ℕ) (left : List ℕ) (w : Watch) → IsLine left → Stands vlenb left left w w []
unfolding joined AreLines AreAnswered
stands-none vlenb left w line = record { lines = []; whole = refl; each = tt; begun = line; answered = (refl, refl) }

line-more : (bytes : List ℕ) (byte : ℕ) → IsLine bytes → (byte ≡ 10 → ⊥) → IsLine (bytes ++ (byte ∷ []))
unfolding IsLine
line-more [] byte is other = (other, tt)
line-more (b ∷ bytes) byte (one, is) other = (one, line-more bytes byte is other)

-- the end of a line, which is answered
pub stands-line : (vlenb : ℕ) (read left : List ℕ) (byte : ℕ) (old mid new : Watch) (some answer : List ℕ) → Stands vlenb read left old mid some → byte ≡ 10
    → IsAnswered vlenb left mid new answer flow.Go → Stands vlenb (read ++ (byte ∷ [])) [] old new (some ++ answer)
unfolding joined AreLines AreAnswered IsLine
stands-line vlenb read left byte old mid new some answer s feed a =
    stands-more vlenb read left (byte ∷ []) [] old mid new some answer s (record {
      lines = left ∷ [];
      whole = ap (λ (b : ℕ). left ++ (b ∷ [])) feed ∙ sym (append-nil _);
      each = (s.begun, tt);
      begun = tt;
      answered = (new, answer, [], a, (refl, refl), sym (append-nil answer));
    })

-- a line that asks for no more
pub quits-line : (vlenb : ℕ) (read left : List ℕ) (byte : ℕ) (later bytes : List ℕ) (old mid new : Watch) (some answer : List ℕ) → Stands vlenb read left old mid some → byte ≡ 10
    → IsAnswered vlenb left mid new answer flow.Quit → bytes ≡ read ++ (byte ∷ later) → Quits vlenb bytes old new (some ++ answer)
quits-line vlenb read left byte later bytes old mid new some answer s feed a is =
    record { before = read; last = left; later = later; mid = mid; some = some; answer = answer; whole = is ∙ ap (λ (b : ℕ). read ++ (b ∷ later)) feed; stands = s; answered = a; told = refl }

-- the same behind what was read before
pub quits-more : (vlenb : ℕ) (read left bytes : List ℕ) (old mid new : Watch) (some more : List ℕ) → Stands vlenb read left old mid some
    → Quits vlenb (left ++ bytes) mid new more → Quits vlenb (read ++ bytes) old new (some ++ more)
quits-more vlenb read left bytes old mid new some more s q = record {
  before = joined s.lines ++ q.before;
  last = q.last;
  later = q.later;
  mid = q.mid;
  some = some ++ q.some;
  answer = q.answer;
  whole = behind vlenb read left bytes old mid some s ∙ ap (λ (l : List ℕ). joined s.lines ++ l) q.whole
      ∙ sym (append_assoc (joined s.lines) q.before (10 ∷ q.later));
  stands = stands-after vlenb s.lines q.before q.last old mid q.mid some q.some s.each s.answered q.stands;
  answered = q.answered;
  told = ap (λ (t : List ℕ). some ++ t) q.told ∙ sym (append_assoc some q.some q.answer);
}

-- ---- what is read and printed

pub prints-none : (s : Stream) → Prints s s []
prints-none s = (keeps_appends s.holds s.holds (kept_same s.holds), refl)

pub prints-more : (a b c : Stream) (xs ys : List ℕ) → Prints a b xs → Prints b c ys → Prints a c (xs ++ ys)
prints-more a b c xs ys first second = (appends_both a.holds b.holds c.holds xs ys first.0 second.0, second.1 ∙ first.1)

pub consumes-more : (a b c : Option (List ℕ)) (xs ys : List ℕ) → Consumes a b xs → Consumes b c ys → Consumes a c (xs ++ ys)
consumes-more None b c xs ys first second = tt
consumes-more (Some had) None c xs ys first second = absurd first
consumes-more (Some had) (Some more) None xs ys first second = absurd second
consumes-more (Some had) (Some more) (Some has) xs ys first second = first ∙ ap (λ (l : List ℕ). xs ++ l) second ∙ sym (append_assoc xs ys has)

pub consumes-none : (o : Option (List ℕ)) → Consumes o o []
consumes-none None = tt
consumes-none (Some xs) = refl

-- ---- a line

pub is_answered : (vlenb : ℕ) (line text : List ℕ) (old new : Watch) (answer : List ℕ) (f : Flow) → text ≡ line → IsUtf8 line
    → IsDone vlenb (order_of text old.breakpoints old.session) old new
    → f ≡ flow_after (order_of text old.breakpoints old.session) → answer ≡ answer_of vlenb (order_of text old.breakpoints old.session) new.session
    → IsAnswered vlenb line old new answer f
is_answered vlenb line text old new answer f same utf8 done goes told = record {
  order = order_of text old.breakpoints old.session;
  asks = inl (utf8, ap (λ (l : List ℕ). order_of l old.breakpoints old.session) same);
  done = done;
  told = told;
  goes = goes;
}

pub is_unknown : (vlenb : ℕ) (line : List ℕ) (w : Watch) (answer : List ℕ) → (IsUtf8 line → ⊥) → answer ≡ error_line error.Unknown
    → IsAnswered vlenb line w w answer flow.Go
is_unknown vlenb line w answer none told = record { order = Err error.Unknown; asks = inr (none, refl); done = (refl, refl); told = told; goes = refl }

-- ---- bytes, which may end lines

pub goes-none : (vlenb : ℕ) (line : List ℕ) (o : Stream) (w : Watch) → IsLine line → GoesOver vlenb (line ++ []) line o o w w flow.Go
goes-none vlenb line o w is =
    ([], prints-none o, subst (λ (l : List ℕ). Stands vlenb l line w w []) (sym (append-nil line)) (stands-none vlenb line w is))

pub goes-byte : (vlenb : ℕ) (line last : List ℕ) (byte : ℕ) (o : Stream) (w : Watch) → last ≡ line ++ (byte ∷ []) → (byte ≡ 10 → ⊥) → IsLine line
    → GoesOver vlenb (line ++ (byte ∷ [])) last o o w w flow.Go
goes-byte vlenb line last byte o w same other is =
    ([], prints-none o, subst (λ (l : List ℕ). Stands vlenb (line ++ (byte ∷ [])) l w w []) (sym same) (stands-none vlenb (line ++ (byte ∷ [])) w (line-more line byte is other)))

pub goes-line : (vlenb : ℕ) (line : List ℕ) (byte : ℕ) (had has : Stream) (old new : Watch) (f : Flow) → byte ≡ 10
    → (text : List ℕ) × Prints had has text × IsAnswered vlenb line old new text f → IsLine line
    → GoesOver vlenb (line ++ (byte ∷ [])) [] had has old new f
goes-line vlenb line byte had has old new flow.Go feed (text, told, a) is =
    (text, told, stands-line vlenb line line byte old old new [] text (stands-none vlenb line old is) feed a)
goes-line vlenb line byte had has old new flow.Quit feed (text, told, a) is =
    (text, told, quits-line vlenb line line byte [] (line ++ (byte ∷ [])) old old new [] text (stands-none vlenb line old is) feed a refl)

pub goes-more : (vlenb : ℕ) (read left more last : List ℕ) (had mid has : Stream) (old w new : Watch) (f : Flow)
    → GoesOver vlenb read left had mid old w flow.Go → (IsLine left → GoesOver vlenb (left ++ more) last mid has w new f)
    → GoesOver vlenb (read ++ more) last had has old new f
goes-more vlenb read left more last had mid has old w new flow.Go (text, told, s) next =
    let n = next s.begun in
    (text ++ n.0, prints-more had mid has text n.0 told n.1, stands-more vlenb read left more last old w new text n.0 s n.2)
goes-more vlenb read left more last had mid has old w new flow.Quit (text, told, s) next =
    let n = next s.begun in
    (text ++ n.0, prints-more had mid has text n.0 told n.1, quits-more vlenb read left more old w new text n.0 s n.2)

pub goes-step : (vlenb : ℕ) (begun bytes : List ℕ) (k d : ℕ) (left last : List ℕ) (had mid has : Stream) (old w new : Watch) (f g : Flow) → g ≡ f → k < length bytes
    → GoesOver vlenb (begun ++ take k bytes) left had mid old w flow.Go → (IsLine left → GoesOver vlenb (left ++ (get_or bytes k d ∷ [])) last mid has w new g)
    → GoesOver vlenb (begun ++ take (k + 1) bytes) last had has old new f
goes-step vlenb begun bytes k d left last had mid has old w new f g same below some next =
    let all : (begun ++ take k bytes) ++ (get_or bytes k d ∷ []) ≡ begun ++ take (k + 1) bytes =
    append_assoc begun (take k bytes) (get_or bytes k d ∷ []) ∙ ap (λ (l : List ℕ). begun ++ l) (sym (rw add-one (take-suc bytes k d below))) in
    subst (λ (l : List ℕ). GoesOver vlenb l last had has old new f) all
    (goes-more vlenb (begun ++ take k bytes) left (get_or bytes k d ∷ []) last had mid has old w new f some
    (λ line. subst (λ (h : Flow). GoesOver vlenb (left ++ (get_or bytes k d ∷ [])) last mid has w new h) same (next line)))

pub goes-begin : (vlenb : ℕ) (o : Stream) (w : Watch) → GoesOver vlenb [] [] o o w w flow.Go
unfolding IsLine
goes-begin vlenb o w = ([], prints-none o, stands-none vlenb [] w tt)

-- what comes behind a line that asks for no more is not looked at
pub goes-later : (vlenb : ℕ) (begun bytes : List ℕ) (k : ℕ) (last : List ℕ) (had has : Stream) (old new : Watch)
    → GoesOver vlenb (begun ++ take k bytes) last had has old new flow.Quit → GoesOver vlenb (begun ++ bytes) last had has old new flow.Quit
goes-later vlenb begun bytes k last had has old new (text, told, q) =
    let all : begun ++ bytes ≡ (begun ++ take k bytes) ++ drop k bytes =
    ap (λ (l : List ℕ). begun ++ l) (sym (take-append-drop k bytes)) ∙ sym (append_assoc begun (take k bytes) (drop k bytes)) in (
      text,
      told,
      record {
        before = q.before;
        last = q.last;
        later = q.later ++ drop k bytes;
        mid = q.mid;
        some = q.some;
        answer = q.answer;
        whole = all ∙ ap (λ (l : List ℕ). l ++ drop k bytes) q.whole ∙ append_assoc q.before (10 ∷ q.later) (drop k bytes);
        stands = q.stands;
        answered = q.answered;
        told = q.told;
      },
    )

-- ---- the input

pub talks-quit : (vlenb : ℕ) (before mid after : Option (List ℕ)) (had now has : Stream) (read left more last : List ℕ) (old w new : Watch) (g : Flow) → g ≡ flow.Quit
    → Consumes before mid read → GoesOver vlenb read left had now old w flow.Go → Consumes mid after more
    → (IsLine left → GoesOver vlenb (left ++ more) last now has w new g) → Talks vlenb before after had has old new
talks-quit vlenb before mid after had now has read left more last old w new g same first some second next =
    let q = goes-more vlenb read left more last had now has old w new flow.Quit some
    (λ line. subst (λ (h : Flow). GoesOver vlenb (left ++ more) last now has w new h) same (next line)) in
    record { bytes = read ++ more; read = consumes-more before mid after read more first second; text = q.0; told = q.1; lines = inl q.2 }

pub talks-last : (vlenb : ℕ) (before after : Option (List ℕ)) (had now has : Stream) (read left : List ℕ) (old w new : Watch) (f : Flow)
    → Consumes before after read → IsAtEnd after → (left ≡ [] → ⊥) → GoesOver vlenb read left had now old w flow.Go
    → (text : List ℕ) × Prints now has text × IsAnswered vlenb left w new text f → Talks vlenb before after had has old new
talks-last vlenb before after had now has read [] old w new f first end some s a = absurd (some refl)
talks-last vlenb before after had now has read (byte ∷ left) old w new f first end some (text, told, s) (answer, tells, a) = record {
  bytes = read;
  read = first;
  text = text ++ answer;
  told = prints-more had now has text answer told tells;
  lines = inr (record { left = byte ∷ left; mid = w; some = text; answer = answer; stands = s; last = (f, a); told = refl }, end);
}

-- ---- a read

pub read-end : {E : Type 0} (a b c : Option (List ℕ)) (xs buf : List ℕ) (r : Result ℕ E) (n : ℕ) → r ≡ Ok n → n ≡ 0 → Consumes a b xs → ReadConsumes b c r buf → Consumes a c xs
read-end a b c xs buf (Err e) n is zero some more = cc
read-end a b c xs buf (Ok m) n is zero some more =
    let none : m ≡ 0 = cc in
    let last = subst (λ (k : ℕ). Consumes b c (take k buf)) none more.0 in
    subst (λ (l : List ℕ). Consumes a c l) (append-nil xs) (consumes-more a b c xs [] some last)

pub at-end : {E : Type 0} (b c : Option (List ℕ)) (buf : List ℕ) (r : Result ℕ E) (n : ℕ) → r ≡ Ok n → n ≡ 0 → 0 < length buf → ReadConsumes b c r buf → IsAtEnd c
at-end b c buf (Err e) n is zero some more = cc
at-end b c buf (Ok m) n is zero some more = more.1 (cc) some

-- what was read and answered, and then more
pub reads-on : (vlenb : ℕ) (a b c : Option (List ℕ)) (read left more last : List ℕ) (had mid has : Stream) (old w new : Watch) (g : Flow) → g ≡ flow.Go
    → Consumes a b read → GoesOver vlenb read left had mid old w flow.Go → Consumes b c more
    → (IsLine left → GoesOver vlenb (left ++ more) last mid has w new g)
    → (all : List ℕ) × Consumes a c all × GoesOver vlenb all last had has old new flow.Go
reads-on vlenb a b c read left more last had mid has old w new g same first some second next = (
  read ++ more,
  consumes-more a b c read more first second,
  goes-more vlenb read left more last had mid has old w new flow.Go some
      (λ line. subst (λ (h : Flow). GoesOver vlenb (left ++ more) last mid has w new h) same (next line)),
)

pub consumes-kept : (a b c : Option (List ℕ)) (xs : List ℕ) → Consumes a b xs → Keeps b c → Consumes a c xs
consumes-kept None b c xs p q = tt
consumes-kept (Some x) None c xs p q = absurd p
consumes-kept (Some x) (Some y) None xs p q = absurd q
consumes-kept (Some x) (Some y) (Some z) xs p q = p ∙ ap (λ (l : List ℕ). xs ++ l) (sym q)
