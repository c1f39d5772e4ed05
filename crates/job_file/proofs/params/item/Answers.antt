use Rattle.std.proofs.Common.{rules, ◌≡◌}
use Rattle.job_file.proofs.JobLemmas.{item_found}
use Rattle.job_file.proofs.params.item.Goals as goal

pub returns : goal.returns
returns c =
    let same : c.deref.result.now ≡ c.args.items.now.items = search rules in
    rw (← same) (item_found c.get.result c.deref.result.now c.args.place c.get.ensures.lookup.0 c.get.ensures.lookup.1)
