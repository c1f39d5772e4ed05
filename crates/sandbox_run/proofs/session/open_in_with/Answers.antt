use Rattle.std.proofs.Common.{◌≡◌, ◌<◌, ◌≤◌, ◌∙◌, Some, refl, sym, ap, arith}
use Rattle.region_mem.specs.Parameter.{AreArguments, argument_error}
use Rattle.block_checker.specs.Bound.{bound_of, scalars_of}
use Rattle.machine.specs.Start.{start}
use Rattle.vreg_groups.specs.VectorLength.{vlenb_of}
use Rattle.cert_note.specs.Certificate.{IsCertificate}
use Rattle.elf_image.specs.Image.{IsImage}
use Rattle.sandbox_run.proofs.OpenFaults.{arguments_fault, bound_fault, length_fault_told, no_open_fault}
use Rattle.sandbox_run.proofs.Refusals.{refused_by-err}
use Rattle.sandbox_run.specs.SessionLemmas.{opened-well}
use Rattle.sandbox_run.proofs.StopLemmas.{hands_back, passed_back, stop_at_start}
use Rattle.std.proofs.lemmas.Grind.{common_steps}
use Rattle.sandbox_run.specs.Session.{open_fault}
use Rattle.sandbox_run.proofs.session.open_in_with.Goals as goal

pub returns-in-Err-clause-refused : goal.returns-in-Err-clause-refused
returns-in-Err-clause-refused g c =
    let found : argument_error c.args.accepted.now.certificate.parameters c.args.args.places ≡ Some c.in-Err.error = rw (← c.parameters-parameters.ensures) (refused_by-err _ _ (sym c.in-Err.ensures.meaning)) in
    rw (arguments_fault g.row.VLENB c.args.accepted.now c.args.args.places c.args.max c.in-Err.error found) c.from.ensures

pub returns-in-Err-clause-memory : goal.returns-in-Err-clause-memory
returns-in-Err-clause-memory g c =
    let found : argument_error c.args.accepted.now.certificate.parameters c.args.args.places ≡ Some c.in-Err.error = rw (← c.parameters-parameters.ensures) (refused_by-err _ _ (sym c.in-Err.ensures.meaning)) in
    λ none. cc (arguments_fault g.row.VLENB c.args.accepted.now c.args.args.places c.args.max c.in-Err.error found, none)

pub returns-then-bound-from-clause-refused : goal.returns-then-bound-from-clause-refused
returns-then-bound-from-clause-refused g c =
    let matching : AreArguments c.args.accepted.now.certificate.parameters c.args.args.places = rw (← c.parameters-parameters.ensures) c.in_default.ensures.matching in
    let bound-is : c.bound-bound.result ≡ bound_of c.args.accepted.now (scalars_of c.args.args.places) = cc (c.bound-bound.ensures, c.scalars.ensures.made) in
    let above : c.args.max < bound_of c.args.accepted.now (scalars_of c.args.args.places) = omega (arith, bound-is, c.from-2.ensures, c.if-bound-from.true) in
    rw (bound_fault g.row.VLENB c.args.accepted.now c.args.args.places c.args.max matching above) refl

pub returns-then-bytes-clause-refused : goal.returns-then-bytes-clause-refused
returns-then-bytes-clause-refused g c =
    let matching : AreArguments c.args.accepted.now.certificate.parameters c.args.args.places = rw (← c.parameters-parameters.ensures) c.in_default.ensures.matching in
    let bound-is : c.bound-bound.result ≡ bound_of c.args.accepted.now (scalars_of c.args.args.places) = cc (c.bound-bound.ensures, c.scalars.ensures.made) in
    let within : bound_of c.args.accepted.now (scalars_of c.args.args.places) ≤ c.args.max = omega (arith, bound-is, c.from-2.ensures, c.if-bound-from.false) in
    let other : vlenb_of c.args.accepted.now.vlen ≡ g.row.VLENB → ⊥ = λ same. let equal : c.bytes.result ≡ g.row.VLENB = c.bytes.ensures.meaning ∙ (ap vlenb_of c.vlen.ensures ∙ same) in omega arith in
    rw (length_fault_told g.row.VLENB c.args.accepted.now c.args.args.places c.args.max matching within other) refl

pub returns-then-bytes-clause-memory : goal.returns-then-bytes-clause-memory
returns-then-bytes-clause-memory g c =
    let matching : AreArguments c.args.accepted.now.certificate.parameters c.args.args.places = rw (← c.parameters-parameters.ensures) c.in_default.ensures.matching in
    let bound-is : c.bound-bound.result ≡ bound_of c.args.accepted.now (scalars_of c.args.args.places) = cc (c.bound-bound.ensures, c.scalars.ensures.made) in
    let within : bound_of c.args.accepted.now (scalars_of c.args.args.places) ≤ c.args.max = omega (arith, bound-is, c.from-2.ensures, c.if-bound-from.false) in
    let other : vlenb_of c.args.accepted.now.vlen ≡ g.row.VLENB → ⊥ = λ same. let equal : c.bytes.result ≡ g.row.VLENB = c.bytes.ensures.meaning ∙ (ap vlenb_of c.vlen.ensures ∙ same) in omega arith in
    λ none. cc (length_fault_told g.row.VLENB c.args.accepted.now c.args.args.places c.args.max matching within other, none)

pub invariant_of-result : goal.invariant_of-result
invariant_of-result g c =
    let matching : AreArguments c.args.accepted.now.certificate.parameters c.args.args.places = rw (← c.parameters-parameters.ensures) c.in_default.ensures.matching in
    let bound-is : c.bound-bound.result ≡ bound_of c.args.accepted.now (scalars_of c.args.args.places) = cc (c.bound-bound.ensures, c.scalars.ensures.made) in
    let length-is : vlenb_of c.args.accepted.now.vlen ≡ g.row.VLENB = sym (ap vlenb_of c.vlen.ensures) ∙ (sym c.bytes.ensures.meaning ∙ c.if-bytes.false) in
    let state-is : c.in-Ok.machine ≡ start g.row.VLENB c.args.agnostic c.args.accepted.now.image c.args.accepted.now.certificate.parameters c.args.args.places = rw (← c.image-2.ensures, ← c.parameters-parameters.ensures) c.in-Ok.ensures.start in
    let well = opened-well g.row.VLENB c.bound-bound.result c.args.accepted.now c.args.args.places c.args.agnostic c.in-Ok.machine c.runs_end.ensures c.scalars.ensures.eight matching c.args_bring_bytes.ensures length-is bound-is state-is in
    let image-is : IsImage c.args.accepted.now.image = rw (← c.image.ensures) c.segments-segments.ensures.image in
    let stated : IsCertificate c.args.accepted.now.certificate = rw (← c.certificate.ensures) c.contents-contents.ensures.certificate in
    let back = hands_back g.row.VLENB c.args.agnostic c.args.accepted.now.image c.args.accepted.now.certificate c.args.args.places c.in-Ok.machine image-is stated c.scalars.ensures.eight matching state-is in
    let first-is : c.of.result.value ≡ c.in-Ok.machine = c.of.ensures in
    let parameters-are : c.of-in-Ok.result.value ≡ c.args.accepted.now.certificate.parameters = c.of-in-Ok.ensures ∙ c.parameters-parameters.ensures in
    (well.0, well.1, rw first-is (stop_at_start g.row.VLENB c.in-Ok.machine), rw (parameters-are, first-is) back)

pub returns-in-Ok-clause-opened : goal.returns-in-Ok-clause-opened
returns-in-Ok-clause-opened g c =
    let matching : AreArguments c.args.accepted.now.certificate.parameters c.args.args.places = rw (← c.parameters-parameters.ensures) c.in_default.ensures.matching in
    let state-is : c.in-Ok.machine ≡ start g.row.VLENB c.args.agnostic c.args.accepted.now.image c.args.accepted.now.certificate.parameters c.args.args.places = rw (← c.image-2.ensures, ← c.parameters-parameters.ensures) c.in-Ok.ensures.start in
    let image-is : IsImage c.args.accepted.now.image = rw (← c.image.ensures) c.segments-segments.ensures.image in
    let stated : IsCertificate c.args.accepted.now.certificate = rw (← c.certificate.ensures) c.contents-contents.ensures.certificate in
    let first-is : c.of.result.value ≡ c.in-Ok.machine = c.of.ensures in
    let bound-is : c.bound-bound.result ≡ bound_of c.args.accepted.now (scalars_of c.args.args.places) = cc (c.bound-bound.ensures, c.scalars.ensures.made) in
    record {
      machine = state-is;
      steps = refl;
      bound = bound-is;
      within = omega (arith, c.from-2.ensures, c.if-bound-from.false);
      matching = matching;
      first = first-is;
      parameters = c.of-in-Ok.ensures ∙ c.parameters-parameters.ensures;
      passed = rw first-is (passed_back g.row.VLENB c.args.agnostic c.args.accepted.now.image c.args.accepted.now.certificate c.args.args.places c.in-Ok.machine image-is stated c.scalars.ensures.eight matching state-is);
    }

pub returns-in-Ok-clause-refused : goal.returns-in-Ok-clause-refused
returns-in-Ok-clause-refused g c =
    let matching : AreArguments c.args.accepted.now.certificate.parameters c.args.args.places = rw (← c.parameters-parameters.ensures) c.in_default.ensures.matching in
    let bound-is : c.bound-bound.result ≡ bound_of c.args.accepted.now (scalars_of c.args.args.places) = cc (c.bound-bound.ensures, c.scalars.ensures.made) in
    let within : bound_of c.args.accepted.now (scalars_of c.args.args.places) ≤ c.args.max = omega (arith, bound-is, c.from-2.ensures, c.if-bound-from.false) in
    let length-is : vlenb_of c.args.accepted.now.vlen ≡ g.row.VLENB = sym (ap vlenb_of c.vlen.ensures) ∙ (sym c.bytes.ensures.meaning ∙ c.if-bytes.false) in
    rw (no_open_fault g.row.VLENB c.args.accepted.now c.args.args.places c.args.max matching within length-is) tt

pub returns-in-Err-start_with-clause-refused : goal.returns-in-Err-start_with-clause-refused
returns-in-Err-start_with-clause-refused g c =
    let matching : AreArguments c.args.accepted.now.certificate.parameters c.args.args.places = rw (← c.parameters-parameters.ensures) c.in_default.ensures.matching in
    let bound-is : c.bound-bound.result ≡ bound_of c.args.accepted.now (scalars_of c.args.args.places) = cc (c.bound-bound.ensures, c.scalars.ensures.made) in
    let within : bound_of c.args.accepted.now (scalars_of c.args.args.places) ≤ c.args.max = omega (arith, bound-is, c.from-2.ensures, c.if-bound-from.false) in
    let length-is : vlenb_of c.args.accepted.now.vlen ≡ g.row.VLENB = sym (ap vlenb_of c.vlen.ensures) ∙ (sym c.bytes.ensures.meaning ∙ c.if-bytes.false) in
    rw (no_open_fault g.row.VLENB c.args.accepted.now c.args.args.places c.args.max matching within length-is) tt

pub returns-then-bound-from-clause-memory : goal.returns-then-bound-from-clause-memory
unfolding open_fault
returns-then-bound-from-clause-memory g c = grind (arith, common_steps)
