-- What is wrong with bytes that are to be put back is a failure.
use Rattle.std.specs.Option.{option_or}
use Rattle.std.specs.Prelude.{Option, None, Some, IfSome}
use Rattle.rvvbox_c.specs.Holds.{IsFailure}
use Rattle.rvvbox_c.specs.declared.status.Refusal.{Refusal}

abbrev pub Fails : Option Refusal → Type 0
Fails told = IfSome told (λ refusal. IsFailure refusal.status)

pub either_fails : (first second : Option Refusal) → Fails first → Fails second → Fails (option_or first second)
either_fails None second one other = other
either_fails (Some refusal) second one other = one
