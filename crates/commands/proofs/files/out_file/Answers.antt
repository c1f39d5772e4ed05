use Rattle.std.proofs.Common.{arith}
use Rattle.std.proofs.lemmas.Grind.{elements}
use Rattle.commands.proofs.files.out_file.Goals as goal

pub returns-in-Buffer-default-Some-Buffer : goal.returns-in-Buffer-default-Some-Buffer
returns-in-Buffer-default-Some-Buffer c = grind (arith, elements)
