-- What `check` does.
use Rattle.std.specs.Prelude.{◌≡◌, ◌++◌, codes, ℕ, List, [], Some, None, Ok, option_map, ◌==◌, if◌then◌else◌}
use Rattle.cert_note.specs.Values.{budget_text, product_text}
use Rattle.cert_note.specs.declared.values.Budget.{Budget}
use Rattle.endings.specs.Accepted.{accepted_of, certificate_in}
use Rattle.commands.specs.Files.{IsImageAt, IsNoImageAt}
use Rattle.file_store.specs.Store.{Files}
use Rattle.endings.specs.Halt.{stop_of}
use Rattle.commands.specs.Steps.{StopsAt, StopsAtResult}
use Rattle.endings.specs.Streams.{Prints}
use Rattle.commands.specs.Changes.{Change, Cuts, Wrote}
use Rattle.endings.specs.Why.{ExplainsAccepted}
use Rattle.commands.specs.Words.{AcceptedView, Gains, Halt, ImageView, Text, Written, block_at}
use Rattle.endings.specs.declared.did.Did.{Did}
use Rattle.endings.specs.declared.did.Did.TheVariants as did
use Rattle.endings.specs.declared.stop.Stop.TheVariants as stop

-- what a budget's text ends with
abbrev pub second_text : Budget → List ℕ
second_text budget = if budget.second_factor == 0 then []
    else product_text budget.second_factor budget.second_register

-- the line that tells the bound of an accepted image's runs
abbrev pub bound_line : Budget → List ℕ
bound_line budget = codes "accepted: bound " ++ (budget_text budget ++ codes "\n")

-- the bound that the block at an accepted image's entry states
abbrev pub IsBudget : AcceptedView → Budget → Type 0
IsBudget accepted budget = option_map (λ block. block.budget)
    (block_at accepted.image.entry accepted.certificate.blocks) ≡ Some budget

-- ---- what is done: `c` is what is left

-- `check`: the image at a path is accepted, and its bound is printed; no file is written
pub record Checks (files : Files) (path : Text) (c : Change) (d : Did) : Type 0 where
  pub image : ImageView
  pub there : IsImageAt files path image
  pub accepted : AcceptedView
  pub passes : accepted_of None image ≡ Ok accepted
  pub budget : Budget
  pub entry : IsBudget accepted budget
  pub wrote : Gains c.was c.has []
  pub told : Prints c.old c.new (bound_line budget)
  pub done : d ≡ did.Done

-- ---- why it stops

-- after an image was accepted, and these files were written: standard output takes no more than the
-- beginning of the line that tells its bound
abbrev pub IsUntold : Change → AcceptedView → Written → Halt → Type 0
IsUntold c accepted files why = (budget : Budget) × IsBudget accepted budget
    × (stop_of why ≡ stop.Output) × Cuts c (bound_line budget) files

-- `check`: no image is read at the path, it is not accepted, or afterwards; no file is written
abbrev pub StopsCheck : Files → Change → Text → Halt → Type 0
StopsCheck files c path =
    StopsAt (Wrote c) (IsNoImageAt files path) (IsImageAt files path) (λ image.
    StopsAtResult (Wrote c) (certificate_in image.certificate) (accepted_of None image)
    (ExplainsAccepted None image) (λ accepted. IsUntold c accepted []))
