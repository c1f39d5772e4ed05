-- A failure leaves the characters before it, and some of this one; at the end all characters were written.
use Rattle.std.proofs.Common.{◌∙◌, ◌++◌, ◌∷◌, [], Err, ap, append-nil, chars, flat_map, map-id, subst, sym, ℕ, List}
use Rattle.std.proofs.lemmas.Grind.{flat_map-append}
use Rattle.std.proofs.lemmas.Iterator.{YieldsList-from_chars}
use Rattle.std.proofs.lemmas.Iterator.Consumers.{YieldsList-end, YieldsList-so_far, YieldsList-turn}
use Rattle.std.specs.Io.KnownBytes.{Appends}
use Rattle.rv_listing.specs.SinkLemmas.{appends_both, told_err, told_part, told_then}
use Rattle.job_reasons.specs.Escaped.{shown_text}
use Rattle.endings.proofs.EscapedLemmas.{shown-rest}
use Rattle.endings.proofs.escapes.put_escaped.Goals as goal

pub loop-c-preserved : goal.loop-c-preserved
loop-c-preserved g c =
    let one = ap (λ (bs : List ℕ). flat_map shown_text c.loop-c.yielded ++ bs) (append-nil (shown_text c.in-Some.c)) in
    let all = flat_map-append shown_text c.loop-c.yielded (c.in-Some.c ∷ []) ∙ one in
    let told = appends_both _ _ _ _ _ c.loop-c.invariant.told c.in_ok-put_char.ensures.0 in
    record {
      told = subst (λ (bs : List ℕ). Appends (g.S.Sink.contents c.args.out.now) (g.S.Sink.contents c.put_char.new.out) bs) (sym all) told;
      same = c.in_ok-put_char.ensures.1 ∙ c.loop-c.invariant.same;
    }

pub returns-in_err-put_char : goal.returns-in_err-put_char
returns-in_err-put_char g c =
    let road = YieldsList-from_chars c.args.text.now c.utf8.text cc in
    let so = YieldsList-so_far road c.loop-c.yielded _ c.loop-c.yielded_by in
    let turn = YieldsList-turn road c.loop-c.yielded _ c.loop-c.yielded_by _ _ c.in-Some.c c.in-Some.is c.next.ensures.steps in
    let all = shown-rest (chars c.args.text.now) c.loop-c.yielded c.in-Some.c so turn in
    rw (← all) (told_err c.from_residual.result _ _ _ _ _ c.from_residual.ensures.0
    (told_then (Err c.in_err-put_char.field-0) _ _ _ _ _ _ _ _ (c.loop-c.invariant.told, c.loop-c.invariant.same) (told_part _ _ _ _ _ _ c.in_err-put_char.ensures)))

pub returns : goal.returns
returns g c =
    let done = YieldsList-end (YieldsList-from_chars c.args.text.now c.utf8.text cc) c.loop-c.yielded _ c.loop-c.yielded_by _ _ c.in-None.is c.next.ensures.steps in
    let all = ap (flat_map shown_text) (sym (map-id c.loop-c.yielded) ∙ done.0) in
    (subst (λ (bs : List ℕ). Appends (g.S.Sink.contents c.args.out.now) (g.S.Sink.contents c.loop-c.out) bs) all c.loop-c.invariant.told, c.loop-c.invariant.same)
