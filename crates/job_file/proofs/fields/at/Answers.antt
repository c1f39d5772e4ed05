use Rattle.std.proofs.Common.{◌≡◌, List, ℕ, option_map, subst}
use Rattle.toml.proofs.Views.{table_get}
use Rattle.toml.specs.Data.{get_member}
use Rattle.toml.specs.View.{table_view, view}
use Rattle.job_file.proofs.fields.at.Goals as goal

pub returns : goal.returns
returns c =
    subst (λ (k : List ℕ). option_map (λ v. view v.now) c.get.result ≡ get_member k (table_view c.args.table.now)) c.name.ensures
    (table_get c.get.result c.name.result.now c.args.table.now.entries c.get.ensures.value)
