use Rattle.std.proofs.Common.{ap, map, refl}
use Rattle.clap.specs.Words.{fault_of}
use Rattle.command_line.specs.Asked.{is_request}
use Rattle.command_line.specs.Line.{app}
use Rattle.file_store.specs.Store.{files_of}
use Rattle.command_line.proofs.ProgramLemmas.{asked_for, asked_nothing, fits_any, refusal_any, refusal_for, silent_any, silent_for, told_for, touched, untouched}
use Rattle.command_line.proofs.program.perform.Goals as goal

pub returns-in-Err-clause-status : goal.returns-in-Err-clause-status
returns-in-Err-clause-status g c =
    told_for (fault_of app (map (λ w. w.now) c.args.words.now)) c.in-Err.error _ c.tell.result c.in-Err.ensures.refused c.tell.ensures.told c.tell.ensures.answered

pub returns-in-Err-clause-asked : goal.returns-in-Err-clause-asked
returns-in-Err-clause-asked g c =
    asked_nothing _ (map (λ w. w.now) c.args.words.now) c.in-Err.error _ _ _ _ _ c.tell.result refl refl c.in-Err.ensures.refused c.tell.ensures.told (λ is. c.tell.ensures.quiet (ap is_request is)) c.tell.ensures.memory

pub returns-in-Ok-clause-status : goal.returns-in-Ok-clause-status
returns-in-Ok-clause-status g c = fits_any (map (λ w. w.now) c.args.words.now) c.in-Ok.asked _ c.carry_out.result c.in-Ok.ensures.line

pub returns-in-Ok-clause-asked : goal.returns-in-Ok-clause-asked
returns-in-Ok-clause-asked g c =
    asked_for (files_of (g.S.Store.held c.args.store.now)) (map (λ w. w.now) c.args.words.now) c.in-Ok.asked _ _ _ _ _ c.carry_out.result c.in-Ok.ensures.line c.carry_out.ensures.heard c.carry_out.ensures.ends

pub returns-in-Err-clause-untouched : goal.returns-in-Err-clause-untouched
returns-in-Err-clause-untouched g c = untouched _ _ _ _ refl

pub returns-in-Err-clause-silent : goal.returns-in-Err-clause-silent
returns-in-Err-clause-silent g c = silent_for _ c.in-Err.error _ _ c.tell.result c.tell.ensures.quiet c.tell.ensures.kept c.tell.ensures.answered

pub returns-in-Ok-clause-silent : goal.returns-in-Ok-clause-silent
returns-in-Ok-clause-silent g c = silent_any (map (λ w. w.now) c.args.words.now) c.in-Ok.asked _ c.carry_out.result c.in-Ok.ensures.line

pub returns-in-Ok-clause-untouched : goal.returns-in-Ok-clause-untouched
returns-in-Ok-clause-untouched g c = touched (map (λ w. w.now) c.args.words.now) c.in-Ok.asked _ _ _ _ _ c.in-Ok.ensures.line

pub returns-in-Err-clause-refusal : goal.returns-in-Err-clause-refusal
returns-in-Err-clause-refusal g c = refusal_for _ _ _ c.tell.result c.tell.ensures.memory c.tell.ensures.done

pub returns-in-Ok-clause-refusal : goal.returns-in-Ok-clause-refusal
returns-in-Ok-clause-refusal g c = refusal_any (map (λ w. w.now) c.args.words.now) c.in-Ok.asked _ _ c.carry_out.result c.in-Ok.ensures.line
