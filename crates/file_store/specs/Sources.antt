-- What is read of an input or of files, and how often.
use Rattle.std.specs.Prelude.{◌≡◌, ◌⊎◌, ◌+◌, ◌≤◌, ◌-◌, ◌^◌, Bool, true, false, ℕ, List, Option, Some, None, Result, Ok, Err}
use Rattle.std.specs.IoError.{error_kind}
use Rattle.std.specs.declared.io.Error.{Error}
use Rattle.std.specs.declared.io.ErrorKind.{ErrorKind}
use Rattle.std.specs.declared.io.ErrorKind.TheVariants.{Interrupted}
use Rattle.rv_listing.specs.Sinks.{IsCounted}

-- what is left of an input, where that is known, how often it was read from, and how many of these
-- reads failed
pub record Input : Type 0 where
  pub rest : Option (List ℕ)
  pub reads : ℕ
  pub failures : ℕ

abbrev pub source : Option (List ℕ) → ℕ → ℕ → Input
source rest reads failures = record { rest = rest; reads = reads; failures = failures }

abbrev pub is_failure : ErrorKind → Bool
is_failure Interrupted = false
is_failure _ = true

-- a read that failed: one that was interrupted may be begun again
abbrev pub has_failed : Result ℕ Error → Bool
has_failed (Ok n) = false
has_failed (Err error) = is_failure (error_kind error)

-- a read failed, or there were as many of them as there may be, or the counts can tell no more
abbrev pub IsUnread : ℕ → Input → Input → Type 0
IsUnread most before after = IsCounted before.failures after.failures
    ⊎ ((before.reads + most ≤ after.reads) ⊎ (2 ^ 64 - 1 ≤ after.reads))

-- the same of a file, by the counts of what it is read from, where these are known
abbrev pub IsGivenUp : ℕ → Option Input → Option Input → Type 0
IsGivenUp most None after = Unit {0}
IsGivenUp most (Some before) None = ⊥
IsGivenUp most (Some before) (Some after) = IsUnread most before after

-- at most `most` more reads, where it is known how many there were
abbrev pub IsWithin : ℕ → Option Input → Option Input → Type 0
IsWithin most None after = Unit {0}
IsWithin most (Some before) None = ⊥
IsWithin most (Some before) (Some after) = after.reads ≤ before.reads + most

-- no call failed, where it is known how many did
abbrev pub IsHeard : Option Input → Option Input → Type 0
IsHeard None after = Unit {0}
IsHeard (Some before) None = ⊥
IsHeard (Some before) (Some after) = after.failures ≡ before.failures

-- a call failed, where it is known how many did
abbrev pub IsRefused : Option Input → Option Input → Type 0
IsRefused None after = Unit {0}
IsRefused (Some before) None = ⊥
IsRefused (Some before) (Some after) = IsCounted before.failures after.failures
