-- The reason's line, and then the more.
use Rattle.rv_listing.specs.SinkLemmas.{told_err, told_part, told_then}
use Rattle.endings.proofs.stop.tell_halt.Goals as goal

pub returns-in_err-put_stop : goal.returns-in_err-put_stop
returns-in_err-put_stop g c =
    rw (← c.stop-stop.ensures) (told_err c.from_residual.result _ _ _ _ _ c.from_residual.ensures.0 (told_part _ _ _ _ _ _ c.in_err-put_stop.ensures))

pub returns : goal.returns
returns g c = rw (← c.stop-stop.ensures) (told_then c.put.result _ _ _ _ _ _ _ _ c.in_ok-put_stop.ensures c.put.ensures)
