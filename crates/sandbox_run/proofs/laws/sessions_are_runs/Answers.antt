use Rattle.std.proofs.Common.{◌∙◌, subst}
use Rattle.cert_note.specs.Certificate.{IsCertificate}
use Rattle.cert_note.specs.ParameterLemmas.{valid_all}
use Rattle.elf_image.specs.Image.{IsImage}
use Rattle.vreg_groups.specs.VectorLength.{vlenb_of}
use Rattle.machine.specs.Machine.{Machine}
use Rattle.machine.specs.Start.{start}
use Rattle.block_checker.specs.Bound.{bound_of, scalars_of}
use Rattle.sandbox_run.specs.Stops.{IsStop}
use Rattle.sandbox_run.proofs.Back.{matches_again, runs_hand_back}
use Rattle.sandbox_run.proofs.HostLemmas.{ended_first, ends, steps_are_unique}
use Rattle.sandbox_run.proofs.laws.sessions_are_runs.Goals as goal

-- The run ends once, and a session that has ended stands at that end.
pub returns : goal.returns
returns g c args agnostic eight matching bytes =
    let a = c.args.accepted.now in
    let params = a.certificate.parameters in
    let vlenb = vlenb_of a.vlen in
    let first = start vlenb agnostic a.image params args in
    let bound = bound_of a (scalars_of args) in
    let end = ends vlenb bound first (c.runs_end.ensures args agnostic eight matching bytes) in
    let (least, leads, ended, goes) = ended_first vlenb bound first end in
    let image-is : IsImage a.image = rw (← c.image.ensures) c.segments-segments.ensures.image in
    let stated : IsCertificate a.certificate = rw (← c.certificate.ensures) c.contents-contents.ensures.certificate in
    let back = runs_hand_back c.runs_keep_memory.ensures a.image params args image-is (valid_all _ stated.parameters) stated.eight eight matching vlenb end.steps agnostic end.state leads in
    record {
      steps = end.steps;
      last = end.state;
      within = least;
      stop = (leads, goes);
      ended = ended;
      back = back;
      matching = matches_again params args _ back matching;
      only = λ max opened done is same stop at_end.
          steps_are_unique vlenb done.steps end.steps first done.machine end.state
          (subst (λ (m : Machine). IsStop vlenb m done.steps done.machine) (same ∙ is.first ∙ is.machine) stop) at_end (leads, goes) ended;
    }
