use Rattle.std.proofs.Common.{ap}
use Rattle.vreg_groups.specs.VectorLength.{vlenb_of}
use Rattle.machine.specs.Start.{start}
use Rattle.block_checker.specs.Bound.{bound_of, scalars_of}
use Rattle.sandbox_run.specs.Answer.{answer_of}
use Rattle.sandbox_run.proofs.HostLemmas.{ended_with_more, ends}
use Rattle.sandbox_run.proofs.laws.tries_are_runs.Goals as goal

pub returns : goal.returns
returns g c args agnostic max eight matching bytes least =
    let a = c.args.accepted.now in
    let vlenb = vlenb_of a.vlen in
    let bound = bound_of a (scalars_of args) in
    let first = start vlenb agnostic a.image a.certificate.parameters args in
    let end = ends vlenb bound first (c.runs_end.ensures args agnostic eight matching bytes) in (
      end.steps,
      end.state,
      end.is,
      ap (answer_of vlenb) (ended_with_more vlenb bound max end.steps first end.state least end.is),
    )
