use Rattle.vreg_groups.specs.VectorLength.{vlenb_of}
use Rattle.machine.specs.Start.{start}
use Rattle.block_checker.specs.Bound.{bound_of, scalars_of}
use Rattle.sandbox_run.proofs.StopLemmas.{stops_well}
use Rattle.sandbox_run.proofs.laws.accepted_stops.Goals as goal

pub returns : goal.returns
returns g c args agnostic steps m eight matching bytes stop =
    let a = c.args.accepted.now in
    let vlenb = vlenb_of a.vlen in
    stops_well c.runs_are_permitted.ensures c.runs_keep_memory.ensures vlenb (bound_of a (scalars_of args)) (start vlenb agnostic a.image a.certificate.parameters args) steps m
    (c.runs_end.ensures args agnostic eight matching bytes) stop
