use Rattle.vreg_groups.specs.VectorLength.{vlenb_of}
use Rattle.machine.specs.Start.{start}
use Rattle.block_checker.specs.Bound.{bound_of, scalars_of}
use Rattle.sandbox_run.proofs.HostLemmas.{ended_first, ends}
use Rattle.sandbox_run.proofs.PermittedLemmas.{permitted_in}
use Rattle.sandbox_run.proofs.laws.accepted_runs.Goals as goal

-- the run ends; and so each of its steps is permitted, as are all that stand on it
pub returns : goal.returns
returns g c args agnostic eight matching bytes =
    let a = c.args.accepted.now in
    let vlenb = vlenb_of a.vlen in
    let first = start vlenb agnostic a.image a.certificate.parameters args in
    let bound = bound_of a (scalars_of args) in
    let end = ends vlenb bound first (c.runs_end.ensures args agnostic eight matching bytes) in
    let (least, leads, ended, goes) = ended_first vlenb bound first end in
    let permit = c.runs_are_permitted.ensures in
    let keep = c.runs_keep_memory.ensures in
    record {
      steps = end.steps;
      last = end.state;
      within = least;
      leads = leads;
      ended = ended;
      goes_on = goes;
      permitted = permit vlenb first end.state end.steps leads;
      mapped = λ j below m is.
          permitted_in vlenb first.memory m (keep vlenb first m j is).extents (permit vlenb first end.state end.steps leads j below m is);
      writes = λ j below m is. c.steps_write_inside.ensures vlenb m;
      reads = λ j below m is. c.steps_read_inside.ensures vlenb m;
      keeps = λ j within m is. keep vlenb first m j is;
    }
