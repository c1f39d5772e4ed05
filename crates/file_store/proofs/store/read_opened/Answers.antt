-- Each read adds its bytes.
use Rattle.std.proofs.Common.{◌≡◌, ◌≤◌, ◌<◌, ◌++◌, ◌∙◌, None, Ok, ap, arith, drop, false, inl, inr, length, refl, rules, sym}
use denote.Enum.Bare.{same_false, same_true}
use Rattle.std.proofs.lemmas.List.{length-append, length-take-le}
use Rattle.std.proofs.lemmas.Result.{IfOk-from_err}
use Rattle.std.specs.Io.KnownBytes.{Consumes, IsAtEnd}
use Rattle.std.specs.IoError.{error_kind}
use Rattle.std.specs.contracts.io.ErrorKind.{the_type}
use Rattle.file_store.specs.SourceLemmas.{all_turns, enough, failed_unless, few_turns, gave_more, gave_none, gave_nothing, gave_same, if_told, none_failed, none_left, one_failed, one_within, reads_more, reads_within, room_kept, some_room, told_if_full, unfailed, unfailed_if}
use Rattle.file_store.specs.Sources.{IsUnread, is_failure, source}
use Rattle.file_store.proofs.store.read_opened.Goals.{in-Ok+in_ok-extend_from_slice-in-Ok, in-Err}
use Rattle.file_store.proofs.store.read_opened.Goals as goal

pub loop-init : goal.loop-init
loop-init g c = record {
  gave = gave_nothing _ _ c.new-bytes.ensures.items;
  few = omega (arith, ap length c.new-bytes.ensures.items);
  same = refl;
  turns = inl (omega arith);
  within = omega arith;
  heard = refl;
}

pub overflow_sub-most : goal.overflow_sub-most
overflow_sub-most g c = omega (arith, c.len.ensures, c.loop.bytes.ok.0, c.loop.invariant.few)

pub returns-then-room-eq0-clause-bytes : goal.returns-then-room-eq0-clause-bytes
returns-then-room-eq0-clause-bytes g c = c.loop.invariant.gave

pub returns-then-room-eq0-clause-most : goal.returns-then-room-eq0-clause-most
returns-then-room-eq0-clause-most g c = c.loop.invariant.few

pub returns-then-room-eq0-clause-end : goal.returns-then-room-eq0-clause-end
returns-then-room-eq0-clause-end g c = λ short. absurd (enough _ _ _ _ c.min-room.ensures (c.len.ensures ∙ c.loop.bytes.ok.0) c.if-room-eq0.true short)

pub returns-then-room-eq0-clause-kept : goal.returns-then-room-eq0-clause-kept
returns-then-room-eq0-clause-kept g c = c.loop.invariant.same

pub returns-then-room-eq0-clause-few : goal.returns-then-room-eq0-clause-few
returns-then-room-eq0-clause-few g c = few_turns _ _ _ _ c.loop.invariant.within c.loop.auto.counter-end

pub returns-then-room-eq0-clause-heard : goal.returns-then-room-eq0-clause-heard
returns-then-room-eq0-clause-heard g c = c.loop.invariant.heard

pub returns-then-room-eq0-clause-unread : goal.returns-then-room-eq0-clause-unread
returns-then-room-eq0-clause-unread g c = tt

pub slice_bounds-chunk-end : goal.slice_bounds-chunk-end
slice_bounds-chunk-end g c = omega (arith, c.type_inv.chunk, c.min-room.ensures)

pub returns-in-Ok-eq0-clause-bytes : goal.returns-in-Ok-eq0-clause-bytes
returns-in-Ok-eq0-clause-bytes g c =
    gave_none c.read.result _ _ _ _ _ (c.in-Ok-eq0.is ∙ ap Ok c.in-Ok-eq0.field-0-test) c.loop.invariant.gave c.read.ensures.bytes

pub returns-in-Ok-eq0-clause-most : goal.returns-in-Ok-eq0-clause-most
returns-in-Ok-eq0-clause-most g c = c.loop.invariant.few

pub returns-in-Ok-eq0-clause-end : goal.returns-in-Ok-eq0-clause-end
returns-in-Ok-eq0-clause-end g c = λ short.
    none_left c.read.result _ _ _ (c.in-Ok-eq0.is ∙ ap Ok c.in-Ok-eq0.field-0-test) c.read.ensures.bytes
    (some_room _ c.loop.chunk _ c.read.auto.buf (search rules) c.if-room-eq0.false)

pub returns-in-Ok-eq0-clause-kept : goal.returns-in-Ok-eq0-clause-kept
returns-in-Ok-eq0-clause-kept g c = c.read.ensures.kept ∙ c.loop.invariant.same

pub returns-in-Ok-eq0-clause-few : goal.returns-in-Ok-eq0-clause-few
returns-in-Ok-eq0-clause-few g c = one_within _ _ _ _ _ c.loop.invariant.within c.loop-test.true c.read.ensures.reads

pub returns-in-Ok-eq0-clause-heard : goal.returns-in-Ok-eq0-clause-heard
returns-in-Ok-eq0-clause-heard g c = unfailed c.read.result _ _ _ c.in-Ok-eq0.is c.read.ensures.failures ∙ c.loop.invariant.heard

pub returns-in-Ok-eq0-clause-unread : goal.returns-in-Ok-eq0-clause-unread
returns-in-Ok-eq0-clause-unread g c = tt

pub slice_bounds-chunk-end-in-Ok : goal.slice_bounds-chunk-end-in-Ok
slice_bounds-chunk-end-in-Ok g c = omega (arith, length-append c.read.new.buf (drop c.min-room.result c.loop.chunk), c.in-Ok.ensures.bound.0)

pub slice_bounds-extend_from_slice-end : goal.slice_bounds-extend_from_slice-end
slice_bounds-extend_from_slice-end g c =
    sym (length-take-le c.in-Ok.n (c.read.new.buf ++ drop c.min-room.result c.loop.chunk)
    (omega (arith, length-append c.read.new.buf (drop c.min-room.result c.loop.chunk), c.in-Ok.ensures.bound.0)))

pub returns-in_err-extend_from_slice-in-Ok-clause-bytes : goal.returns-in_err-extend_from_slice-in-Ok-clause-bytes
returns-in_err-extend_from_slice-in-Ok-clause-bytes g c =
    IfOk-from_err c.from_residual.result (λ bytes. Consumes (g.D.Reader.Read.remaining c.args.file.now) (g.D.Reader.Read.remaining c.read.new.file) bytes.items)
    c.from_residual.ensures.0

pub returns-in_err-extend_from_slice-in-Ok-clause-most : goal.returns-in_err-extend_from_slice-in-Ok-clause-most
returns-in_err-extend_from_slice-in-Ok-clause-most g c =
    IfOk-from_err c.from_residual.result (λ bytes. length bytes.items ≤ c.args.most)
    c.from_residual.ensures.0

pub returns-in_err-extend_from_slice-in-Ok-clause-end : goal.returns-in_err-extend_from_slice-in-Ok-clause-end
returns-in_err-extend_from_slice-in-Ok-clause-end g c =
    IfOk-from_err c.from_residual.result (λ bytes. length bytes.items < c.args.most → IsAtEnd (g.D.Reader.Read.remaining c.read.new.file))
    c.from_residual.ensures.0

pub returns-in_err-extend_from_slice-in-Ok-clause-kept : goal.returns-in_err-extend_from_slice-in-Ok-clause-kept
returns-in_err-extend_from_slice-in-Ok-clause-kept g c = c.read.ensures.kept ∙ c.loop.invariant.same

pub returns-in_err-extend_from_slice-in-Ok-clause-few : goal.returns-in_err-extend_from_slice-in-Ok-clause-few
returns-in_err-extend_from_slice-in-Ok-clause-few g c = one_within _ _ _ _ _ c.loop.invariant.within c.loop-test.true c.read.ensures.reads

pub returns-in_err-extend_from_slice-in-Ok-clause-heard : goal.returns-in_err-extend_from_slice-in-Ok-clause-heard
returns-in_err-extend_from_slice-in-Ok-clause-heard g c =
    IfOk-from_err c.from_residual.result (λ _. g.D.System.failures c.read.new.self ≡ g.D.System.failures c.args.system.now)
    c.from_residual.ensures.0

pub returns-in_err-extend_from_slice-in-Ok-clause-unread : goal.returns-in_err-extend_from_slice-in-Ok-clause-unread
returns-in_err-extend_from_slice-in-Ok-clause-unread g c =
    told_if_full c.from_residual.result
    (IsUnread c.args.reads (source None (g.D.System.reads c.args.system.now) (g.D.System.failures c.args.system.now))
    (source None (g.D.System.reads c.read.new.self) (g.D.System.failures c.read.new.self)))
    c.from_residual.ensures.1

pub returns-in-Err-2-clause-bytes : goal.returns-in-Err-2-clause-bytes
returns-in-Err-2-clause-bytes g c = tt

pub returns-in-Err-2-clause-most : goal.returns-in-Err-2-clause-most
returns-in-Err-2-clause-most g c = tt

pub returns-in-Err-2-clause-end : goal.returns-in-Err-2-clause-end
returns-in-Err-2-clause-end g c = tt

pub returns-in-Err-2-clause-kept : goal.returns-in-Err-2-clause-kept
returns-in-Err-2-clause-kept g c = c.read.ensures.kept ∙ c.loop.invariant.same

pub returns-in-Err-2-clause-few : goal.returns-in-Err-2-clause-few
returns-in-Err-2-clause-few g c = one_within _ _ _ _ _ c.loop.invariant.within c.loop-test.true c.read.ensures.reads

pub returns-in-Err-2-clause-heard : goal.returns-in-Err-2-clause-heard
returns-in-Err-2-clause-heard g c = tt

pub returns-in-Err-2-clause-unread : goal.returns-in-Err-2-clause-unread
returns-in-Err-2-clause-unread g c =
    if_told _ _ (inl (one_failed (is_failure (error_kind c.in-Err.error)) _ _ _ c.loop.invariant.heard c.in-Err.ensures.failures (failed_unless _ (λ is. same_false the_type _ _ (sym c.eq.ensures ∙ c.if-eq.false) (c.kind.ensures ∙ is)))))

pub loop-preserved : goal.loop-preserved
loop-preserved g c = record {
  gave = elim c.match-read.branch [
    | in-Ok+in_ok-extend_from_slice-in-Ok w ↦ gave_more _ _ _ _ _ _ _ _ c.loop.invariant.gave w.in-Ok.ensures.bytes.0 w.in-Ok.ensures.bound.0 (ap (λ v. v.items) w.bytes-is ∙ w.in_ok-extend_from_slice-in-Ok.ensures.items)
    | in-Err w ↦ rw w.bytes-is (gave_same _ _ _ _ c.loop.invariant.gave w.in-Err.ensures.bytes)
  ];
  few = elim c.match-read.branch [
    | in-Ok+in_ok-extend_from_slice-in-Ok w ↦ room_kept _ _ _ _ _ _ _ _ _ (ap (λ v. v.items) w.bytes-is ∙ w.in_ok-extend_from_slice-in-Ok.ensures.items) w.in-Ok.ensures.bound.0 c.read.auto.buf c.min-room.ensures (c.len.ensures ∙ c.loop.bytes.ok.0) c.loop.invariant.few
    | in-Err w ↦ rw w.bytes-is c.loop.invariant.few
  ];
  same = c.read.ensures.kept ∙ c.loop.invariant.same;
  turns = reads_more _ _ _ _ c.loop.invariant.turns c.read.ensures.reads;
  within = reads_within _ _ _ _ c.loop.invariant.within c.read.ensures.reads;
  heard = elim c.match-read.branch [
    | in-Ok+in_ok-extend_from_slice-in-Ok w ↦ none_failed false _ _ _ c.loop.invariant.heard w.in-Ok.ensures.failures refl
    | in-Err w ↦ none_failed (is_failure (error_kind w.in-Err.error)) _ _ _ c.loop.invariant.heard w.in-Err.ensures.failures (unfailed_if _ (sym w.kind.ensures ∙ same_true the_type (search rules) _ _ (sym w.eq.ensures ∙ w.if-eq.true)))
  ];
}

pub returns-clause-bytes : goal.returns-clause-bytes
returns-clause-bytes g c = tt

pub returns-clause-most : goal.returns-clause-most
returns-clause-most g c = tt

pub returns-clause-end : goal.returns-clause-end
returns-clause-end g c = tt

pub returns-clause-kept : goal.returns-clause-kept
returns-clause-kept g c = c.loop.invariant.same

pub returns-clause-few : goal.returns-clause-few
returns-clause-few g c = few_turns _ _ _ _ c.loop.invariant.within c.loop.auto.counter-end

pub returns-clause-heard : goal.returns-clause-heard
returns-clause-heard g c = tt

pub returns-clause-unread : goal.returns-clause-unread
returns-clause-unread g c =
    if_told _ _ (inr (all_turns _ _ _ _ c.loop-test.false c.loop.invariant.turns))
