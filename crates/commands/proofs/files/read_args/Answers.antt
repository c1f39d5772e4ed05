use Rattle.std.proofs.Common.{rules, ◌∙◌, arith, refl}
use Rattle.commands.proofs.CommandLemmas.{first_more, first_now, handed_plain}
use Rattle.commands.specs.WrittenLemmas.{passed_now, unpassed}
use Rattle.commands.proofs.files.read_args.Goals as goal

pub loop-place-init : goal.loop-place-init
loop-place-init g c = record { eight = search rules; passed = λ k below. absurd (omega (arith, below)); first = λ k below. absurd (omega (arith, below)); kept = refl; stays = refl }

pub loop-place-preserved : goal.loop-place-preserved
loop-place-preserved g c =
    record {
      eight = search rules;
      passed = search (rules, passed_now);
      first = first_more _ _ _ _ _ _ (search rules) c.loop-place.invariant.first (search (rules, first_now));
      kept = c.in_ok-places.ensures.files ∙ c.loop-place.invariant.kept;
      stays = c.in_ok-places.ensures.known ∙ c.loop-place.invariant.stays;
    }

pub returns-in_err-places-clause-passed : goal.returns-in_err-places-clause-passed
returns-in_err-places-clause-passed g c =
    handed_plain _ _ _ _ c.from_residual.ensures.1 (unpassed (g.S.Store.held c.args.store.now) (g.S.Store.held c.loop-place.store) c.args.params.now c.loop-place.place _ c.loop-place.invariant.kept c.in_err-places.ensures.passed _ c.loop-place.invariant.passed)

pub returns-in_err-places-clause-files : goal.returns-in_err-places-clause-files
returns-in_err-places-clause-files g c = c.in_err-places.ensures.files ∙ c.loop-place.invariant.kept

pub returns-in_err-places-clause-known : goal.returns-in_err-places-clause-known
returns-in_err-places-clause-known g c = c.in_err-places.ensures.known ∙ c.loop-place.invariant.stays
