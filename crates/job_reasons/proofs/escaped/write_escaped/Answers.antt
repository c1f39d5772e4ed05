-- At the end all characters were written.
use Rattle.std.proofs.Common.{◌≡◌, ◌∙◌, ap, chars, flat_map, map-id, subst, sym, ℕ, List}
use Rattle.std.proofs.lemmas.Iterator.{YieldsList-from_chars}
use Rattle.std.proofs.lemmas.Iterator.Consumers.{YieldsList-end}
use Rattle.std.specs.Fmt.{HasWritten}
use Rattle.job_reasons.specs.Escaped.{shown_text}
use Rattle.job_reasons.proofs.escaped.write_escaped.Goals as goal

pub returns : goal.returns
returns g c = λ plain ok.
    let done = YieldsList-end (YieldsList-from_chars c.args.text.now c.utf8.text cc) c.loop-c.yielded _ c.loop-c.yielded_by _ _ c.in-None.is c.next.ensures.steps in
    let all : flat_map shown_text c.loop-c.yielded ≡ flat_map shown_text (chars c.args.text.now) = ap (flat_map shown_text) (sym (map-id c.loop-c.yielded) ∙ done.0) in
    subst (λ (bs : List ℕ). HasWritten g.W.Write.write_str_gives c.args.f.now bs c.loop-c.f) all (c.loop-c.invariant plain)
