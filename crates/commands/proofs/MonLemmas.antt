-- Where a run is left by `mon`, and why lines are not answered.
use Rattle.std.proofs.Common.{◌≡◌, ◌∙◌, ◌++◌, ◌+◌, ◌<◌, inl, inr, ℕ, List, [], ◌∷◌, length, take, drop, get_or, Option, Some, None, IfSome, refl, sym, ap, subst, append_assoc, add-one}
use Rattle.std.proofs.Math.Seq.{take-suc}
use Rattle.std.proofs.lemmas.List.{take-append-drop}
use Rattle.std.specs.Io.KnownBytes.{Consumes, IsAtEnd}
use Rattle.block_checker.specs.Accepted.{AcceptedView}
use Rattle.region_mem.specs.Memory.{args_of}
use Rattle.region_mem.specs.Parameter.{Argument}
use Rattle.sandbox_run.specs.Session.{IsOpened, SessionView, open_fault}
use Rattle.sandbox_run.specs.Stops.{IsStop}
use Rattle.sandbox_run.specs.declared.outcome.OpenError.{OpenError}
use Rattle.machine.specs.Machine.{Machine}
use Rattle.vreg_groups.specs.declared.policies.Agnostic.{Agnostic}
use Rattle.monitor.specs.declared.commands.Flow.TheVariants as flow
use Rattle.commands.specs.Mons.{IsOfInput, IsStopped, IsUnanswered}
use Rattle.endings.specs.Streams.{Stream}
use Rattle.commands.specs.Changes.{Exchange}
use Rattle.file_store.specs.Sources.{IsUnread}
use Rattle.commands.specs.Talks.{AreTold, GoesOver, IsBroken, IsCutOff, IsLine, Watch, joined}
use Rattle.endings.specs.declared.stop.Stop.{Stop}
use Rattle.endings.specs.declared.stop.Stop.TheVariants as stop
use Rattle.commands.proofs.TalkLemmas.{behind, consumes-more, prints-more, prints-none, stands-after, stands-none}

pub stopped : (vlenb : ℕ) (agnostic : Agnostic) (max : ℕ) (a : AcceptedView) (args : List Argument) (fault : Option OpenError) (e : Exchange) (opened session : SessionView) (kept : List Argument)
    → open_fault vlenb a args max ≡ fault → IfSome fault (λ told. ⊥)
    → IsOpened vlenb agnostic a args max opened → AreTold vlenb e opened session → e.after.failures ≡ e.before.failures
    → session.first ≡ opened.first → IsStop vlenb session.first session.steps session.machine
    → kept ≡ args_of session.machine.memory → IsStopped vlenb agnostic max a args e kept
stopped vlenb agnostic max a args (Some told) e opened session kept is none begins talks heard stays stop comes = absurd none
stopped vlenb agnostic max a args None e opened session kept is none begins talks heard stays stop comes = record {
  opens = is;
  opened = opened;
  begins = begins;
  left = session;
  talks = talks;
  heard = heard;
  stop = subst (λ (m : Machine). IsStop vlenb m session.steps session.machine) (stays ∙ begins.first ∙ begins.machine) stop;
  comes = comes;
}

-- ---- why lines are not answered

-- a run that is opened can be
pub unrefused : (fault : Option OpenError) → IfSome fault (λ told. ⊥) → fault ≡ None
unrefused (Some told) none = absurd none
unrefused None none = refl

-- lines before which nothing was read
pub broken-here : (vlenb : ℕ) (line later : List ℕ) (had has : Stream) (w : Watch) (reason : Stop) → IsLine line → IsCutOff vlenb line later had has w reason
    → IsBroken vlenb (line ++ later) had has w reason
broken-here vlenb line later had has w reason is cut =
    (line, later, refl, record { left = line; mid = w; text = []; stands = stands-none vlenb line w is; now = had; told = prints-none had; there = cut })

-- the end of a line, at which it breaks off
pub broken-line : (vlenb : ℕ) (line text : List ℕ) (byte : ℕ) (had has : Stream) (w : Watch) (reason : Stop) → text ≡ line → byte ≡ 10 → IsLine line
    → IsCutOff vlenb text (10 ∷ []) had has w reason → IsBroken vlenb (line ++ (byte ∷ [])) had has w reason
broken-line vlenb line text byte had has w reason same feed is cut =
    subst (λ (b : ℕ). IsBroken vlenb (line ++ (b ∷ [])) had has w reason) (sym feed)
    (broken-here vlenb line (10 ∷ []) had has w reason is (subst (λ (l : List ℕ). IsCutOff vlenb l (10 ∷ []) had has w reason) same cut))

-- a byte for which memory did not suffice
pub broken-byte : (vlenb : ℕ) (line : List ℕ) (byte : ℕ) (o : Stream) (w : Watch) (reason : Stop) → reason ≡ stop.Memory → IsLine line
    → IsBroken vlenb (line ++ (byte ∷ [])) o o w reason
broken-byte vlenb line byte o w reason memory is =
    subst (λ (r : Stop). IsBroken vlenb (line ++ (byte ∷ [])) o o w r) (sym memory) (broken-here vlenb line (byte ∷ []) o o w stop.Memory is refl)

-- all was answered, and then a line broke off
pub broken-more : (vlenb : ℕ) (read left more : List ℕ) (had mid has : Stream) (old w : Watch) (reason : Stop) → GoesOver vlenb read left had mid old w flow.Go
    → (IsLine left → IsBroken vlenb (left ++ more) mid has w reason) → IsBroken vlenb (read ++ more) had has old reason
broken-more vlenb read left more had mid has old w reason (text, told, s) next =
    let b = next s.begun in
    let l = b.3 in (
      joined s.lines ++ b.0,
      b.1,
      behind vlenb read left more old w text s ∙ ap (λ (xs : List ℕ). joined s.lines ++ xs) b.2 ∙ sym (append_assoc (joined s.lines) b.0 b.1),
      record {
        left = l.left;
        mid = l.mid;
        text = text ++ l.text;
        stands = stands-after vlenb s.lines b.0 l.left old w l.mid text l.text s.each s.answered l.stands;
        now = l.now;
        told = prints-more had mid l.now text l.text told l.told;
        there = l.there;
      },
    )

cut-later : (vlenb : ℕ) (line later rest : List ℕ) (now has : Stream) (w : Watch) (reason : Stop) → IsCutOff vlenb line later now has w reason
    → IsCutOff vlenb line (later ++ rest) now has w reason
cut-later vlenb line later rest now has w stop.Memory cut = cut
cut-later vlenb line later rest now has w stop.Output (after, is, new, answer, f, answered, told) =
    (after ++ rest, ap (λ (xs : List ℕ). xs ++ rest) is, new, answer, f, answered, told)
cut-later vlenb line later rest now has w (stop.Job error) cut = absurd cut
cut-later vlenb line later rest now has w (stop.File at) cut = absurd cut
cut-later vlenb line later rest now has w (stop.Image error) cut = absurd cut
cut-later vlenb line later rest now has w stop.NoCertificate cut = absurd cut
cut-later vlenb line later rest now has w (stop.Certificate error) cut = absurd cut
cut-later vlenb line later rest now has w (stop.Check error) cut = absurd cut
cut-later vlenb line later rest now has w (stop.Make error) cut = absurd cut
cut-later vlenb line later rest now has w (stop.Open error) cut = absurd cut

-- what comes behind it is not looked at
pub broken-later : (vlenb : ℕ) (bytes rest : List ℕ) (had has : Stream) (old : Watch) (reason : Stop) → IsBroken vlenb bytes had has old reason
    → IsBroken vlenb (bytes ++ rest) had has old reason
broken-later vlenb bytes rest had has old reason (before, later, whole, l) = (
  before,
  later ++ rest,
  ap (λ (xs : List ℕ). xs ++ rest) whole ∙ append_assoc before later rest,
  record {
    left = l.left;
    mid = l.mid;
    text = l.text;
    stands = l.stands;
    now = l.now;
    told = l.told;
    there = cut-later vlenb l.left later rest l.now has l.mid reason l.there;
  },
)

-- one byte more, at which a line breaks off
pub broken-step : (vlenb : ℕ) (begun bytes : List ℕ) (k d : ℕ) (left : List ℕ) (had mid has : Stream) (old w : Watch) (reason : Stop) → k < length bytes
    → GoesOver vlenb (begun ++ take k bytes) left had mid old w flow.Go → (IsLine left → IsBroken vlenb (left ++ (get_or bytes k d ∷ [])) mid has w reason)
    → IsBroken vlenb (begun ++ bytes) had has old reason
broken-step vlenb begun bytes k d left had mid has old w reason below some next =
    let here = broken-more vlenb (begun ++ take k bytes) left (get_or bytes k d ∷ []) had mid has old w reason some next in
    let upto : (begun ++ take k bytes) ++ (get_or bytes k d ∷ []) ≡ begun ++ take (k + 1) bytes =
    append_assoc begun (take k bytes) (get_or bytes k d ∷ []) ∙ ap (λ (l : List ℕ). begun ++ l) (sym (rw add-one (take-suc bytes k d below))) in
    let all : (begun ++ take (k + 1) bytes) ++ drop (k + 1) bytes ≡ begun ++ bytes =
    append_assoc begun (take (k + 1) bytes) (drop (k + 1) bytes) ∙ ap (λ (l : List ℕ). begun ++ l) (take-append-drop (k + 1) bytes) in
    subst (λ (l : List ℕ). IsBroken vlenb l had has old reason) all
    (broken-later vlenb (begun ++ take (k + 1) bytes) (drop (k + 1) bytes) had has old reason
    (subst (λ (l : List ℕ). IsBroken vlenb l had has old reason) upto here))

-- ---- what was read

-- a line among those that were read breaks off
pub unanswered-read : (most vlenb : ℕ) (e : Exchange) (mid : Option (List ℕ)) (now : Stream) (read left more : List ℕ) (old w : Watch) (reason : Stop)
    → Consumes e.before.rest mid read → GoesOver vlenb read left e.had now old w flow.Go → Consumes mid e.after.rest more
    → (IsLine left → IsBroken vlenb (left ++ more) now e.has w reason) → IsUnanswered most vlenb e old reason
unanswered-read most vlenb e mid now read left more old w reason first some second next = record {
  bytes = read ++ more;
  read = consumes-more e.before.rest mid e.after.rest read more first second;
  behind = inl (broken-more vlenb read left more e.had now e.has old w reason some next);
}

-- the last line breaks off
pub unanswered-last : (most vlenb : ℕ) (e : Exchange) (now : Stream) (read left line : List ℕ) (old w : Watch) (reason : Stop)
    → Consumes e.before.rest e.after.rest read → IsAtEnd e.after.rest → GoesOver vlenb read left e.had now old w flow.Go → line ≡ left
    → IsCutOff vlenb line (10 ∷ []) now e.has w reason → IsUnanswered most vlenb e old reason
unanswered-last most vlenb e now read left line old w reason first end (text, told, s) same cut =
    let there = subst (λ (l : List ℕ). IsCutOff vlenb l (10 ∷ []) now e.has w reason) same cut in
    record {
      bytes = read;
      read = first;
      behind = inr (inl (end, record { left = left; mid = w; text = text; stands = s; now = now; told = told; there = there }));
    }

-- the input is not read on
pub unanswered-on : (most vlenb : ℕ) (e : Exchange) (read left : List ℕ) (old w : Watch) (reason : Stop)
    → Consumes e.before.rest e.after.rest read → GoesOver vlenb read left e.had e.has old w flow.Go
    → IsOfInput reason → IsUnread most e.before e.after → IsUnanswered most vlenb e old reason
unanswered-on most vlenb e read left old w reason first (text, told, s) is unread = record {
  bytes = read;
  read = first;
  behind = inr (inr (is, unread, record { left = left; mid = w; text = text; stands = s; now = e.has; told = told; there = refl }));
}
