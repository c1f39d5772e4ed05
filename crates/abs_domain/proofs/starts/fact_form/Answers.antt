use Rattle.std.proofs.Common.{sym, ◌==◌}
use Rattle.cert_note.specs.declared.values.RegisterFact.{RegisterFact}
use Rattle.abs_domain.specs.Starts.{HasForm}
use Rattle.abs_domain.specs.StartFormLemmas.{found_has}
use Rattle.abs_domain.proofs.starts.fact_form.Goals as goal

pub form_of_fact-requires : goal.form_of_fact-requires
form_of_fact-requires c =
    found_has HasForm (λ (fact : RegisterFact). fact.number == c.args.number) c.args.facts.now c.in-Some.fact.now c.requires (sym c.in-Some.ensures)
