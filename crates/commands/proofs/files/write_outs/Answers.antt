use Rattle.std.proofs.Common.{rules, ◌≡◌, add-one}
use Rattle.std.proofs.lemmas.Result.{err_from_is_err_and}
use Rattle.file_store.specs.Store.{files_of}
use Rattle.commands.specs.WrittenLemmas.{outs_all, outs_fail, outs_more}
use Rattle.commands.proofs.files.write_outs.Goals as goal

pub returns-in_err-write_out : goal.returns-in_err-write_out
returns-in_err-write_out g c =
    let p = err_from_is_err_and c.from_residual.result c.from_residual.ensures.1 in
    rw (p.1, p.2) (outs_fail _ (g.S.Store.held c.loop-place.store) _ c.args.params.now c.args.args.now c.loop-place.place _ (search rules) c.loop-place.invariant c.index-args-place.result c.in_err-write_out.ensures)

pub loop-place-preserved : goal.loop-place-preserved
loop-place-preserved g c = rw add-one
    (outs_more (files_of (g.S.Store.held c.loop-place.store)) _ (g.S.Store.held c.loop-place.store) _ c.args.params.now c.args.args.now c.loop-place.place (search rules) (search rules) c.loop-place.invariant c.index-args-place.result c.in_ok-write_out.ensures)

pub returns : goal.returns
returns g c =
    let last : c.loop-place.place ≡ 8 = search rules in
    outs_all _ _ c.args.params.now c.args.args.now c.loop-place.place (search rules) (search rules) c.loop-place.invariant
