-- What code answers for the check of a word: how the word leads on, whether the block goes on, and
-- apart from that what is known at the next word. Also which blocks a search passes over, and where
-- a walk stops.
use Rattle.std.specs.Prelude.{ℕ, ◌≡◌, ◌-◌, ◌/◌, nat_lt, Bool, true, false, List, Some, Result, Ok, Err}
use Rattle.std.specs.List.Sorted.{IsPartitionPoint}
use Rattle.block_checker.specs.Words.{ImageView, CertificateView, AbstractView, Block, CheckError}
use Rattle.block_checker.specs.declared.checks.Exits.{Exits}
use Rattle.block_checker.specs.declared.checks.Exits.TheVariants as exits
use Rattle.block_checker.specs.declared.checks.Told.{Told}
use Rattle.block_checker.specs.declared.checks.Told.TheVariants as told
use Rattle.block_checker.specs.declared.checks.Fault.{Fault}
use Rattle.block_checker.specs.declared.refused.Halt.{Halt}
use Rattle.block_checker.specs.declared.refused.Kept.{Kept}
use Rattle.block_checker.specs.declared.refused.Part.TheVariants as part
use Rattle.block_checker.specs.Refusals.{address_of}
use Rattle.block_checker.specs.Passes.{Checked, Progress, Ended, On}
use Rattle.block_checker.specs.Explained.{IsEnd, IsReached, IsStop, known_before}

-- whether a word leads elsewhere than to the next one, and whether it has two ways
abbrev pub is_exit : Exits → Bool
is_exit exits.Next = false
is_exit exits.Jump = true
is_exit exits.Fork = true

abbrev pub is_fork_exit : Exits → Bool
is_fork_exit exits.Next = false
is_fork_exit exits.Jump = false
is_fork_exit exits.Fork = true

abbrev pub told_of : Result Told CheckError → AbstractView → Result Progress CheckError
told_of (Ok told.Ended) a = Ok Ended
told_of (Ok told.On) a = Ok (On a)
told_of (Err error) a = Err error

-- the same, apart from what of the word is kept
abbrev pub progress_of : Result Told (CheckError × Kept) → AbstractView → Result Progress CheckError
progress_of (Ok told.Ended) a = Ok Ended
progress_of (Ok told.On) a = Ok (On a)
progress_of (Err e) a = Err e.0

-- The first `count` blocks begin below the address, and no other block does.
abbrev pub IsCountBelow : ℕ → List Block → ℕ → Type 0
IsCountBelow address blocks count =
    IsPartitionPoint (λ block. nat_lt block.start address ≡ true)
    (λ block. nat_lt block.start address ≡ false) blocks count

-- what a part of the check, and the whole, answers, apart from where it stops
abbrev pub fault_answer : Result (Unit {0}) Fault → Checked
fault_answer (Ok done) = Ok tt
fault_answer (Err f) = Err f.error

abbrev pub halt_answer : {A : Type 0} → Result (Unit {0}) (Halt A) → Checked
halt_answer (Ok done) = Ok tt
halt_answer (Err h) = Err h.error

-- The walk of a block, with state a at its start, stops here with this fault, and b is kept.
pub record StopsWalk (image : ImageView) (certificate : CertificateView) (start : ℕ)
    (a : AbstractView) (f : Fault) (b : AbstractView) : Type 0 where
  pub part : f.part ≡ part.Block start
  pub address : address_of f.error ≡ Some f.pc
  pub at_end : IsEnd start f.pc f.kept
  pub known : IsReached image f.pc f.kept
      (known_before image certificate start a ((f.pc - start) / 4)) b

-- Here the check stops with this fault, and b is kept.
abbrev pub IsFault : ImageView → CertificateView → Fault → AbstractView → Type 0
IsFault image certificate f b = IsStop image certificate f.error f.part f.pc f.kept b
