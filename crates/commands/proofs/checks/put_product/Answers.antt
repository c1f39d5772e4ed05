use Rattle.std.specs.Fmt.{decimal}
use Rattle.std.proofs.lemmas.List.{append-nil}
use Rattle.commands.proofs.checks.put_product.Goals as goal

pub returns : goal.returns
returns g c = rw (append-nil (decimal c.args.register)) at c.put_all.ensures
