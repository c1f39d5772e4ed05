-- What is printed of how a subcommand ends.
use Rattle.std.proofs.Common.{◌≡◌, Bool, ℕ, List, [], Option, Some, None, option_map, Result, Ok, Err, IfSome, inl, inr, refl, unwrap_or}
use Rattle.rv_listing.specs.Sinks.{Told}
use Rattle.endings.specs.Ending.{IsMore, more_if}
use Rattle.endings.specs.Streams.{IsTold, stream}
use Rattle.endings.specs.Words.{Halt}
use Rattle.endings.specs.declared.did.Did.{Did}

-- the text was written in full, or cut
pub told_on : {E : Type 0} (r : Result (Unit {0}) E) (old new : Option (List ℕ)) (before now : ℕ) (text : List ℕ) → Told r old new before now text
    → IsTold (stream old before) (stream new now) text
told_on (Ok done) old new before now text is = inl is
told_on (Err e) old new before now text is = inr is

-- the explanation, where there is a text of it
pub more_is : {T : Type 0} (view : T → List ℕ) (explains : Bool) (came : Result Did Halt) (text : Option T) → IfSome text (λ t. view t ≡ more_if explains came)
    → IsMore explains came (unwrap_or (option_map view text) [])
more_is view explains came (Some text) is = inl is
more_is view explains came None is = inr refl
