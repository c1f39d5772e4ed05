-- Lemmas: where a run begins, and what is true of a parameter and its argument where no pair of them is wrong.
use Rattle.std.proofs.Common.{◌≡◌, ℕ, zero, suc, ◌<◌, Bool, false, arith, length, get_or, List, [], ◌∷◌}
use Rattle.std.specs.List.{zip}
use Rattle.region_mem.specs.declared.arguments.Arg.TheVariants as argument
use Rattle.region_mem.specs.declared.parameter.Param.{Param}
use Rattle.region_mem.specs.declared.parameter.Param.TheVariants as parameter
use Rattle.region_mem.specs.MatchingLemmas.{NonePasses}
use Rattle.region_mem.specs.Parameter.{Argument}
use Rattle.scalar_core.specs.EntryLemmas.{entry_hart-pc}
use Rattle.machine.specs.Start.{passed_at, start_hart}

pub start_pc : (entry : ℕ) (params : List Param) (args : List Argument) → (start_hart entry params args).pc ≡ entry
unfolding start_hart
start_pc entry params args = entry_hart-pc entry (passed_at params args)

pub pair_at : (p : Param × Argument → Bool) (params : List Param) (args : List Argument) (i : ℕ) → NonePasses p (zip params args)
    → i < length params → i < length args → p (get_or params i parameter.None, get_or args i argument.None) ≡ false
pair_at p [] args i none l g = absurd (omega (arith, l))
pair_at p (x ∷ xs) [] i none l g = absurd (omega (arith, g))
pair_at p (x ∷ xs) (y ∷ ys) zero none l g = none.0
pair_at p (x ∷ xs) (y ∷ ys) (suc i) none l g = pair_at p xs ys i none.1 (omega (arith, l)) (omega (arith, g))
