use Rattle.std.proofs.Common.{rules, ◌∙◌, arith, take, [], false, inl, inr, refl}
use Rattle.std.proofs.lemmas.Result.{err_from_is_err_and}
use Rattle.std.specs.IoError.{error_kind}
use Rattle.commands.proofs.MonLemmas.{unanswered-last, unanswered-on, unanswered-read}
use Rattle.file_store.specs.SourceLemmas.{failed_unless, none_failed, one_failed, reads_more, reads_within, unfailed_if}
use Rattle.endings.specs.Streams.{stream}
use Rattle.file_store.specs.Sources.{is_failure}
use Rattle.commands.proofs.TalkLemmas.{at-end, consumes-kept, consumes-none, goes-begin, read-end, reads-on, talks-last, talks-quit}
use Rattle.commands.proofs.lines.answer_lines.Goals as goal
use Rattle.commands.proofs.lines.answer_lines.Goals.{in-Ok+in_ok-answer_bytes-in-Ok+in-Go, in-Err}

pub loop-init : goal.loop-init
loop-init g c = record { same = refl; first = refl; turns = inl (search rules); within = search rules; heard = refl; passed = λ was. was; goes = ([], consumes-none _, rw c.new-line.ensures.items (goes-begin g.row.VLENB _ _)) }

pub returns-in-Ok-eq0-2-clause-answered : goal.returns-in-Ok-eq0-2-clause-answered
returns-in-Ok-eq0-2-clause-answered g c =
    let goes = c.loop.invariant.goes in
    talks-last g.row.VLENB _ _ _ (stream (g.O.Sink.contents c.loop.output) (g.O.Sink.failures c.loop.output)) _ goes.0 c.loop.line.items _ _ _ c.in_ok-answer-in-Ok-eq0-2.field-0
    (search (rules, read-end)) (search (rules, at-end)) (search rules) goes.2 (search rules)

pub returns-in-Quit-clause-answered : goal.returns-in-Quit-clause-answered
returns-in-Quit-clause-answered g c =
    let goes = c.loop.invariant.goes in
    talks-quit g.row.VLENB _ (g.I.Source.remaining c.loop.input) _ _ (stream (g.O.Sink.contents c.loop.output) (g.O.Sink.failures c.loop.output)) _ goes.0 c.loop.line.items (take c.in-Ok.n c.read.new.buf) c.answer_bytes.new.line.items _ _ _ c.in_ok-answer_bytes-in-Ok.field-0 c.in-Quit.is
    goes.1 goes.2 (c.in-Ok.ensures.bytes.0) (λ line. c.in_ok-answer_bytes-in-Ok.ensures.answered line)

pub returns-in-Ok-eq0-clause-heard : goal.returns-in-Ok-eq0-clause-heard
returns-in-Ok-eq0-clause-heard g c = none_failed false _ _ _ c.loop.invariant.heard (search rules) refl

pub returns-in-Ok-eq0-2-clause-heard : goal.returns-in-Ok-eq0-2-clause-heard
returns-in-Ok-eq0-2-clause-heard g c = none_failed false _ _ _ c.loop.invariant.heard (search rules) refl

pub returns-in-Quit-clause-heard : goal.returns-in-Quit-clause-heard
returns-in-Quit-clause-heard g c = none_failed false _ _ _ c.loop.invariant.heard c.in-Ok.ensures.failures refl

pub returns-in-Ok-eq0-2-clause-passed : goal.returns-in-Ok-eq0-2-clause-passed
returns-in-Ok-eq0-2-clause-passed g c was = c.in_ok-answer-in-Ok-eq0-2.ensures.passed

pub returns-in-Quit-clause-passed : goal.returns-in-Quit-clause-passed
returns-in-Quit-clause-passed g c was = c.in_ok-answer_bytes-in-Ok.ensures.passed (c.loop.invariant.passed was)

pub returns-in_err-answer-in-Ok-eq0-2-clause-unanswered : goal.returns-in_err-answer-in-Ok-eq0-2-clause-unanswered
returns-in_err-answer-in-Ok-eq0-2-clause-unanswered g c =
    let goes = c.loop.invariant.goes in
    let p = err_from_is_err_and c.from_residual.result c.from_residual.ensures.1 in
    rw (p.1, p.2) (unanswered-last _ g.row.VLENB _ (stream (g.O.Sink.contents c.loop.output) (g.O.Sink.failures c.loop.output)) goes.0 c.loop.line.items _ _ _ _
    (search (rules, read-end)) (search (rules, at-end)) goes.2 (search rules) c.in_err-answer-in-Ok-eq0-2.ensures.unanswered)

pub returns-in_err-answer_bytes-in-Ok-clause-unanswered : goal.returns-in_err-answer_bytes-in-Ok-clause-unanswered
returns-in_err-answer_bytes-in-Ok-clause-unanswered g c =
    let goes = c.loop.invariant.goes in
    let p = err_from_is_err_and c.from_residual-in_err-answer_bytes-in-Ok.result c.from_residual-in_err-answer_bytes-in-Ok.ensures.1 in
    rw (p.1, p.2) (unanswered-read _ g.row.VLENB _ (g.I.Source.remaining c.loop.input) (stream (g.O.Sink.contents c.loop.output) (g.O.Sink.failures c.loop.output)) goes.0 c.loop.line.items (take c.in-Ok.n c.read.new.buf) _ _ _
    goes.1 goes.2 (c.in-Ok.ensures.bytes.0) (λ line. c.in_err-answer_bytes-in-Ok.ensures.unanswered line))

pub returns-in-Err-2-clause-unanswered : goal.returns-in-Err-2-clause-unanswered
returns-in-Err-2-clause-unanswered g c =
    let goes = c.loop.invariant.goes in
    unanswered-on _ g.row.VLENB _ goes.0 c.loop.line.items _ _ _ (consumes-kept _ (g.I.Source.remaining c.loop.input) _ goes.0 goes.1 c.in-Err-2.ensures.bytes) goes.2 c.unread.ensures
    (inl (one_failed (is_failure (error_kind c.in-Err-2.error)) _ _ _ c.loop.invariant.heard c.in-Err-2.ensures.failures (failed_unless _ (λ is. search rules))))

pub returns-clause-unanswered : goal.returns-clause-unanswered
returns-clause-unanswered g c =
    let goes = c.loop.invariant.goes in
    unanswered-on _ g.row.VLENB _ goes.0 c.loop.line.items _ _ _ goes.1 goes.2 refl
    (elim c.loop.invariant.turns [ inl some ↦ inr (inl (omega (arith, some, c.loop-test.false))) | inr all ↦ inr (inr all) ])

pub loop-preserved : goal.loop-preserved
loop-preserved g c = elim c.match-read.branch [
  | in-Ok+in_ok-answer_bytes-in-Ok+in-Go w ↦
      let goes = c.loop.invariant.goes in
      record {
        same = rw w.monitor-is (w.in_ok-answer_bytes-in-Ok.ensures.same_reference ∙ c.loop.invariant.same);
        first = rw w.monitor-is (w.in_ok-answer_bytes-in-Ok.ensures.first ∙ c.loop.invariant.first);
        turns = reads_more _ _ _ _ c.loop.invariant.turns w.in-Ok.ensures.reads;
        within = reads_within _ _ _ _ c.loop.invariant.within w.in-Ok.ensures.reads;
        heard = none_failed false _ _ _ c.loop.invariant.heard w.in-Ok.ensures.failures refl;
        passed = rw w.output-is (λ was. w.in_ok-answer_bytes-in-Ok.ensures.passed (c.loop.invariant.passed was));
        goes = rw (w.monitor-is, w.output-is, w.line-is) (reads-on g.row.VLENB _ (g.I.Source.remaining c.loop.input) _ goes.0 c.loop.line.items (take w.in-Ok.n c.read.new.buf) w.answer_bytes.new.line.items
            _ (stream (g.O.Sink.contents c.loop.output) (g.O.Sink.failures c.loop.output)) _ _ _ _ w.in_ok-answer_bytes-in-Ok.field-0 w.in-Go.is goes.1 goes.2 w.in-Ok.ensures.bytes.0 (λ line. w.in_ok-answer_bytes-in-Ok.ensures.answered line));
      }
  | in-Err w ↦
      let goes = c.loop.invariant.goes in
      record {
        same = rw w.monitor-is c.loop.invariant.same;
        first = rw w.monitor-is c.loop.invariant.first;
        turns = reads_more _ _ _ _ c.loop.invariant.turns w.in-Err.ensures.reads;
        within = reads_within _ _ _ _ c.loop.invariant.within w.in-Err.ensures.reads;
        heard = none_failed (is_failure (error_kind w.in-Err.error)) _ _ _ c.loop.invariant.heard w.in-Err.ensures.failures (unfailed_if _ (search rules));
        passed = rw w.output-is c.loop.invariant.passed;
        goes = rw (w.monitor-is, w.output-is, w.line-is) (goes.0, consumes-kept _ (g.I.Source.remaining c.loop.input) _ goes.0 goes.1 w.in-Err.ensures.bytes, goes.2);
      }
]

pub returns-in-Ok-eq0-clause-same_reference : goal.returns-in-Ok-eq0-clause-same_reference
returns-in-Ok-eq0-clause-same_reference g c = c.loop.invariant.same

pub returns-in-Ok-eq0-clause-first : goal.returns-in-Ok-eq0-clause-first
returns-in-Ok-eq0-clause-first g c = c.loop.invariant.first

pub returns-in-Ok-eq0-clause-few : goal.returns-in-Ok-eq0-clause-few
returns-in-Ok-eq0-clause-few g c = omega (arith, reads_within _ _ _ _ c.loop.invariant.within c.read.ensures.reads, c.loop-test.true)

pub returns-in-Ok-eq0-clause-passed : goal.returns-in-Ok-eq0-clause-passed
returns-in-Ok-eq0-clause-passed g c = c.loop.invariant.passed

pub returns-in-Ok-eq0-clause-unanswered : goal.returns-in-Ok-eq0-clause-unanswered
returns-in-Ok-eq0-clause-unanswered g c = tt

pub returns-in_err-answer-in-Ok-eq0-2-clause-same_reference : goal.returns-in_err-answer-in-Ok-eq0-2-clause-same_reference
returns-in_err-answer-in-Ok-eq0-2-clause-same_reference g c = c.answer.ensures.same_reference ∙ c.loop.invariant.same

pub returns-in_err-answer-in-Ok-eq0-2-clause-first : goal.returns-in_err-answer-in-Ok-eq0-2-clause-first
returns-in_err-answer-in-Ok-eq0-2-clause-first g c = c.answer.ensures.first ∙ c.loop.invariant.first

pub returns-in_err-answer-in-Ok-eq0-2-clause-few : goal.returns-in_err-answer-in-Ok-eq0-2-clause-few
returns-in_err-answer-in-Ok-eq0-2-clause-few g c = omega (arith, reads_within _ _ _ _ c.loop.invariant.within c.read.ensures.reads, c.loop-test.true)

pub returns-in-Ok-eq0-2-clause-same_reference : goal.returns-in-Ok-eq0-2-clause-same_reference
returns-in-Ok-eq0-2-clause-same_reference g c = c.answer.ensures.same_reference ∙ c.loop.invariant.same

pub returns-in-Ok-eq0-2-clause-first : goal.returns-in-Ok-eq0-2-clause-first
returns-in-Ok-eq0-2-clause-first g c = c.answer.ensures.first ∙ c.loop.invariant.first

pub returns-in-Ok-eq0-2-clause-few : goal.returns-in-Ok-eq0-2-clause-few
returns-in-Ok-eq0-2-clause-few g c = omega (arith, reads_within _ _ _ _ c.loop.invariant.within c.read.ensures.reads, c.loop-test.true)

pub returns-in-Ok-eq0-2-clause-unanswered : goal.returns-in-Ok-eq0-2-clause-unanswered
returns-in-Ok-eq0-2-clause-unanswered g c = tt

pub returns-in_err-answer_bytes-in-Ok-clause-same_reference : goal.returns-in_err-answer_bytes-in-Ok-clause-same_reference
returns-in_err-answer_bytes-in-Ok-clause-same_reference g c = c.answer_bytes.ensures.same_reference ∙ c.loop.invariant.same

pub returns-in_err-answer_bytes-in-Ok-clause-first : goal.returns-in_err-answer_bytes-in-Ok-clause-first
returns-in_err-answer_bytes-in-Ok-clause-first g c = c.answer_bytes.ensures.first ∙ c.loop.invariant.first

pub returns-in_err-answer_bytes-in-Ok-clause-few : goal.returns-in_err-answer_bytes-in-Ok-clause-few
returns-in_err-answer_bytes-in-Ok-clause-few g c = omega (arith, reads_within _ _ _ _ c.loop.invariant.within c.read.ensures.reads, c.loop-test.true)

pub returns-in-Quit-clause-same_reference : goal.returns-in-Quit-clause-same_reference
returns-in-Quit-clause-same_reference g c = c.answer_bytes.ensures.same_reference ∙ c.loop.invariant.same

pub returns-in-Quit-clause-first : goal.returns-in-Quit-clause-first
returns-in-Quit-clause-first g c = c.answer_bytes.ensures.first ∙ c.loop.invariant.first

pub returns-in-Quit-clause-few : goal.returns-in-Quit-clause-few
returns-in-Quit-clause-few g c = omega (arith, reads_within _ _ _ _ c.loop.invariant.within c.read.ensures.reads, c.loop-test.true)

pub returns-in-Quit-clause-unanswered : goal.returns-in-Quit-clause-unanswered
returns-in-Quit-clause-unanswered g c = tt

pub returns-in-Err-2-clause-same_reference : goal.returns-in-Err-2-clause-same_reference
returns-in-Err-2-clause-same_reference g c = c.loop.invariant.same

pub returns-in-Err-2-clause-first : goal.returns-in-Err-2-clause-first
returns-in-Err-2-clause-first g c = c.loop.invariant.first

pub returns-in-Err-2-clause-few : goal.returns-in-Err-2-clause-few
returns-in-Err-2-clause-few g c = omega (arith, reads_within _ _ _ _ c.loop.invariant.within c.read.ensures.reads, c.loop-test.true)

pub returns-in-Err-2-clause-answered : goal.returns-in-Err-2-clause-answered
returns-in-Err-2-clause-answered g c = tt

pub returns-in-Err-2-clause-heard : goal.returns-in-Err-2-clause-heard
returns-in-Err-2-clause-heard g c = tt

pub returns-in-Err-2-clause-passed : goal.returns-in-Err-2-clause-passed
returns-in-Err-2-clause-passed g c = tt

pub returns-clause-same_reference : goal.returns-clause-same_reference
returns-clause-same_reference g c = c.loop.invariant.same

pub returns-clause-first : goal.returns-clause-first
returns-clause-first g c = c.loop.invariant.first

pub returns-clause-few : goal.returns-clause-few
returns-clause-few g c = omega (arith, c.loop.invariant.within, c.loop.auto.counter-end)

pub returns-clause-answered : goal.returns-clause-answered
returns-clause-answered g c = tt

pub returns-clause-heard : goal.returns-clause-heard
returns-clause-heard g c = tt

pub returns-clause-passed : goal.returns-clause-passed
returns-clause-passed g c = tt
