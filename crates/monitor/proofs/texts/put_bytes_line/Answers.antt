use Rattle.rv_listing.specs.SinkLemmas.{told_err, told_part, told_then}
use Rattle.monitor.proofs.texts.put_bytes_line.Goals as goal

pub returns : goal.returns
returns g c = told_then c.put_all.result _ _ _ _ _ _ _ _ c.in_ok-put_bytes.ensures c.put_all.ensures

pub returns-in_err-put_bytes : goal.returns-in_err-put_bytes
returns-in_err-put_bytes g c =
    told_err c.from_residual.result _ _ _ _ _ c.from_residual.ensures.0
    (told_part _ _ _ _ _ _ c.in_err-put_bytes.ensures)
