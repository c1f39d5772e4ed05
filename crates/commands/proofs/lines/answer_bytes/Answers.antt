use Rattle.std.proofs.Common.{rules, ◌+◌, ◌∙◌, refl}
use Rattle.std.proofs.lemmas.Result.{err_from_is_err_and}
use Rattle.commands.proofs.MonLemmas.{broken-step}
use Rattle.commands.proofs.TalkLemmas.{goes-later, goes-none, goes-step}
use Rattle.endings.specs.Streams.{stream}
use Rattle.monitor.specs.declared.commands.Flow.TheVariants as flow
use Rattle.commands.proofs.lines.answer_bytes.Goals as goal

pub loop-byte-init : goal.loop-byte-init
loop-byte-init g c = record { same = refl; first = refl; passed = λ was. was; goes = goes-none g.row.VLENB c.args.line.now.items _ _ }

pub returns-in_err-answer_byte-clause-unanswered : goal.returns-in_err-answer_byte-clause-unanswered
returns-in_err-answer_byte-clause-unanswered g c =
    let p = err_from_is_err_and c.from_residual.result c.from_residual.ensures.1 in
    rw (p.1, p.2) (λ is. broken-step g.row.VLENB c.args.line.now.items c.args.bytes.now c.loop-byte.byte-index 0 c.loop-byte.line.items _ (stream (g.O.Sink.contents c.loop-byte.output) (g.O.Sink.failures c.loop-byte.output)) _ _ _ _
    (search rules) (c.loop-byte.invariant.goes is) c.in_err-answer_byte.ensures.unanswered)

pub returns-in-Quit-clause-answered : goal.returns-in-Quit-clause-answered
returns-in-Quit-clause-answered g c is =
    goes-later g.row.VLENB c.args.line.now.items c.args.bytes.now (c.loop-byte.byte-index + 1) c.answer_byte.new.line.items _ _ _ _
    (goes-step g.row.VLENB c.args.line.now.items c.args.bytes.now c.loop-byte.byte-index 0 c.loop-byte.line.items c.answer_byte.new.line.items _ (stream (g.O.Sink.contents c.loop-byte.output) (g.O.Sink.failures c.loop-byte.output)) _ _ _ _ flow.Quit _ c.in-Quit.is
    (search rules) (c.loop-byte.invariant.goes is) c.in_ok-answer_byte.ensures.answered)

pub returns-in-Quit-clause-passed : goal.returns-in-Quit-clause-passed
returns-in-Quit-clause-passed g c was = c.in_ok-answer_byte.ensures.passed (c.loop-byte.invariant.passed was)

pub loop-byte-preserved : goal.loop-byte-preserved
loop-byte-preserved g c = record {
  same = c.in_ok-answer_byte.ensures.same_reference ∙ c.loop-byte.invariant.same;
  first = c.in_ok-answer_byte.ensures.first ∙ c.loop-byte.invariant.first;
  passed = λ was. c.in_ok-answer_byte.ensures.passed (c.loop-byte.invariant.passed was);
  goes = λ is. goes-step g.row.VLENB c.args.line.now.items c.args.bytes.now c.loop-byte.byte-index 0 c.loop-byte.line.items _ _ (stream (g.O.Sink.contents c.loop-byte.output) (g.O.Sink.failures c.loop-byte.output)) _ _ _ _ flow.Go _ c.in-Go.is
      (search rules) (c.loop-byte.invariant.goes is) c.in_ok-answer_byte.ensures.answered;
}

pub returns-in_err-answer_byte-clause-same_reference : goal.returns-in_err-answer_byte-clause-same_reference
returns-in_err-answer_byte-clause-same_reference g c = c.answer_byte.ensures.same_reference ∙ c.loop-byte.invariant.same

pub returns-in_err-answer_byte-clause-first : goal.returns-in_err-answer_byte-clause-first
returns-in_err-answer_byte-clause-first g c = c.answer_byte.ensures.first ∙ c.loop-byte.invariant.first

pub returns-in-Quit-clause-same_reference : goal.returns-in-Quit-clause-same_reference
returns-in-Quit-clause-same_reference g c = c.answer_byte.ensures.same_reference ∙ c.loop-byte.invariant.same

pub returns-in-Quit-clause-first : goal.returns-in-Quit-clause-first
returns-in-Quit-clause-first g c = c.answer_byte.ensures.first ∙ c.loop-byte.invariant.first

pub returns-in-Quit-clause-unanswered : goal.returns-in-Quit-clause-unanswered
returns-in-Quit-clause-unanswered g c = tt

pub returns-clause-same_reference : goal.returns-clause-same_reference
returns-clause-same_reference g c = c.loop-byte.invariant.same

pub returns-clause-first : goal.returns-clause-first
returns-clause-first g c = c.loop-byte.invariant.first

pub returns-clause-passed : goal.returns-clause-passed
returns-clause-passed g c = c.loop-byte.invariant.passed

pub returns-clause-unanswered : goal.returns-clause-unanswered
returns-clause-unanswered g c = tt
