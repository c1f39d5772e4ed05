use Rattle.std.proofs.Common.{◌≡◌, ◌+◌, ◌++◌, ◌∷◌, [], ◌<◌, take, set, length, arith, add-one}
use Rattle.std.proofs.lemmas.Result.{err_from_is_err_and}
use Rattle.std.proofs.lemmas.List.{length-set, take_all}
use Rattle.std.proofs.Math.Seq.{take-suc-set}
use Rattle.cert_note.specs.Reading.{parameters_at, parameter_from, after_parameter}
use Rattle.cert_note.proofs.Loop.{goes_on, ends, is_done}
use Rattle.cert_note.proofs.fields.parameters_at.Goals as goal

pub returns-in_err-param : goal.returns-in_err-param
returns-in_err-param c =
    let p = err_from_is_err_and c.from_residual.result c.from_residual.ensures.1 in
    rw (p.1, p.2)
    (ends parameter_from after_parameter c.in_err-param.field-0.0 (take c.loop-place.place c.loop-place.params) 8 c.loop-place.place 0 c.loop-place.rest.now (parameters_at 8 c.args.bytes.now) c.loop-place-test.true c.in_err-param.ensures c.loop-place.invariant.0)

pub loop-place-preserved : goal.loop-place-preserved
loop-place-preserved c =
    let n = c.in_ok-param.param in
    let lt : c.loop-place.place < length c.loop-place.params = omega (arith, c.loop-place.invariant.1) in
    let e : take (c.loop-place.place + 1) (set c.loop-place.params c.loop-place.place n) ≡ take c.loop-place.place c.loop-place.params ++ n ∷ [] = rw add-one (take-suc-set c.loop-place.params c.loop-place.place n lt) in (
      rw e
          (goes_on parameter_from after_parameter (take c.loop-place.place c.loop-place.params) 8 c.loop-place.place 0 c.loop-place.rest.now n c.in_ok-param.after.now (parameters_at 8 c.args.bytes.now) c.loop-place-test.true c.in_ok-param.ensures c.loop-place.invariant.0),
      omega (arith, length-set c.loop-place.params c.loop-place.place n, c.loop-place.invariant.1),
    )

pub returns : goal.returns
returns c =
    let all : take c.loop-place.place c.loop-place.params ≡ c.loop-place.params = take_all c.loop-place.place c.loop-place.params (omega (arith, c.loop-place.invariant.1, c.loop-place-test.false)) in
    let d = is_done parameter_from after_parameter (take c.loop-place.place c.loop-place.params) 8 c.loop-place.place 0 c.loop-place.rest.now (parameters_at 8 c.args.bytes.now) c.loop-place-test.false c.loop-place.invariant.0 in
    rw all at d
