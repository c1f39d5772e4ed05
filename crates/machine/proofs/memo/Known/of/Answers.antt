use Rattle.machine.proofs.memo.Known.of.Goals as goal

pub new-requires-clause-meaning : goal.new-requires-clause-meaning
new-requires-clause-meaning c = cc
