use Rattle.std.proofs.Common.{inl, inr, refl}
use Rattle.commands.proofs.CommandLemmas.{handed_on, unprinted}
use Rattle.commands.specs.WrittenLemmas.{gains_none}
use Rattle.commands.proofs.trial.finish.Goals as goal

pub returns-in_err-shown-clause-done : goal.returns-in_err-shown-clause-done
returns-in_err-shown-clause-done g c =
    handed_on _ _ _ _ c.from_residual.ensures.1 (inl (c.in_err-shown.ensures.memory, (gains_none _, refl)))

pub returns-in_err-write_outs-clause-done : goal.returns-in_err-write_outs-clause-done
returns-in_err-write_outs-clause-done g c =
    handed_on _ _ _ _ c.from_residual-in_err-write_outs.ensures.1 (inr (inl (unprinted _ _ _ _ _ refl c.in_err-write_outs.ensures)))
