-- The number of each status, which status and which refusal each error is, and how what is wrong is
-- answered.
use Rattle.std.specs.Prelude.{ℕ, ◌≡◌, ◌⊎◌, ◌%◌, ◌/◌, ◌^◌, min, Option, None, Some, Result, Ok, Err, unwrap_or}
use Rattle.block_checker.specs.Refusals.{address_of}
use Rattle.block_checker.specs.declared.errors.CheckError.{CheckError}
use Rattle.block_checker.specs.declared.errors.CheckError.TheVariants as check
use Rattle.cert_maker.specs.declared.errors.MakeError.{MakeError}
use Rattle.cert_maker.specs.declared.errors.MakeError.TheVariants as make
use Rattle.cert_note.specs.declared.refusals.CertError.{CertError}
use Rattle.cert_note.specs.declared.refusals.CertError.TheVariants as certificate
use Rattle.elf_image.specs.declared.error.ElfError.{ElfError}
use Rattle.elf_image.specs.declared.error.ElfError.TheVariants as image
use Rattle.sandbox_run.specs.declared.outcome.OpenError.{OpenError}
use Rattle.sandbox_run.specs.declared.outcome.OpenError.TheVariants as open_error
use Rattle.rvvbox_c.specs.declared.status.Bound.{Bound}
use Rattle.rvvbox_c.specs.declared.status.Refusal.{Refusal}
use Rattle.rvvbox_c.specs.declared.status.Status.{Status}
use Rattle.rvvbox_c.specs.declared.status.Status.TheVariants as status

-- the number in include/rvvbox.h
abbrev pub code_of : Status → ℕ
code_of status.Done = 0
code_of status.NoMemory = 1
code_of status.BadVlen = 2
code_of status.BadAgnostic = 3
code_of status.BadCount = 4
code_of status.BadKind = 5
code_of status.BadRange = 6
code_of status.TooLarge = 7
code_of status.Image = 8
code_of status.NoCertificate = 9
code_of status.Certificate = 10
code_of status.Check = 11
code_of status.WrongKind = 12
code_of status.ScalarOutOfInterval = 13
code_of status.WrongSize = 14
code_of status.BoundTooLarge = 15
code_of status.WrongVlen = 16
code_of status.Trapped = 17
code_of status.OutOfSteps = 18
code_of status.NothingKept = 19
code_of status.Overlap = 20
code_of status.BadParameter = 21
code_of status.NotALoop = 22

-- the status of a run that was not started
abbrev pub status_of_open : OpenError → Status
status_of_open (open_error.WrongKind place) = status.WrongKind
status_of_open (open_error.ScalarOutOfInterval place) = status.ScalarOutOfInterval
status_of_open (open_error.WrongSize place) = status.WrongSize
status_of_open open_error.BoundTooLarge = status.BoundTooLarge
status_of_open open_error.WrongVlen = status.WrongVlen
status_of_open open_error.NoMemory = status.NoMemory

-- the status of a file that is no image, of a note that is no certificate, and of a check that
-- stops
abbrev pub status_of_image : ElfError → Status
status_of_image image.NoMemory = status.NoMemory
status_of_image error = status.Image

abbrev pub status_of_certificate : CertError → Status
status_of_certificate certificate.NoMemory = status.NoMemory
status_of_certificate error = status.Certificate

abbrev pub status_of_check : CheckError → Status
status_of_check check.NoMemory = status.NoMemory
status_of_check error = status.Check

-- ---- rules by their numbers, from 1 on; want of memory is no rule

abbrev pub image_rule : ElfError → ℕ
image_rule image.TooShort = 1
image_rule image.BadMagic = 2
image_rule image.BadClass = 3
image_rule image.BadType = 4
image_rule image.BadMachine = 5
image_rule image.BadFlags = 6
image_rule image.BadHeaderTable = 7
image_rule image.NotStatic = 8
image_rule image.SegmentOutOfFile = 9
image_rule image.SegmentOutOfPlace = 10
image_rule image.SegmentsOverlap = 11
image_rule image.WriteAndExecute = 12
image_rule image.TooLarge = 13
image_rule image.EntryNotCode = 14
image_rule image.TwoCertificates = 15
image_rule image.CertificateThere = 16
image_rule image.NoMemory = 0

abbrev pub certificate_rule : CertError → ℕ
certificate_rule certificate.Short = 1
certificate_rule certificate.Version = 2
certificate_rule certificate.Parameter = 3
certificate_rule certificate.BlockOrder = 4
certificate_rule certificate.Fact = 5
certificate_rule certificate.Equality = 6
certificate_rule certificate.Budget = 7
certificate_rule certificate.TrailingBytes = 8
certificate_rule certificate.TooMany = 9
certificate_rule certificate.Order = 11
certificate_rule certificate.NoMemory = 0

abbrev pub check_rule : CheckError → ℕ
check_rule check.WrongVlen = 1
check_rule check.NoEntryBlock = 2
check_rule (check.NotCode pc) = 3
check_rule (check.IllegalWord pc) = 4
check_rule (check.VtypeUnknown pc) = 5
check_rule (check.AccessNotProved pc) = 6
check_rule (check.ReadOnly pc) = 7
check_rule (check.TargetNotABlock pc) = 8
check_rule (check.IntervalNotProved pc) = 9
check_rule (check.EqualityNotProved pc) = 10
check_rule (check.OrderNotProved pc) = 15
check_rule (check.VectorFactNotProved pc) = 11
check_rule (check.BudgetNotProved pc) = 12
check_rule (check.BlockTooLong pc) = 13
check_rule check.NoMemory = 0

-- ---- refusals

-- a number of steps, in two halves
abbrev pub halves : ℕ → Bound
halves n = record { low = n % 2 ^ 64; high = n / 2 ^ 64 }

-- one by a rule, at a word
abbrev pub by_rule : Status → ℕ → ℕ → Refusal
by_rule s rule address = record {
  status = code_of s;
  rule = rule;
  address = address;
  offset = 0;
  place = 0;
  bound = record { low = 0; high = 0 };
  reserved = 0;
}

-- one that names a status alone
abbrev pub plain : Status → Refusal
plain s = by_rule s 0 0

-- one of the argument at a place
abbrev pub at_place : Status → ℕ → Refusal
at_place s k = record {
  status = code_of s;
  rule = 0;
  address = 0;
  offset = 0;
  place = k;
  bound = record { low = 0; high = 0 };
  reserved = 0;
}

-- one of a run that may take `n` steps
abbrev pub too_long : ℕ → Refusal
too_long n = record {
  status = code_of status.BoundTooLarge;
  rule = 0;
  address = 0;
  offset = 0;
  place = 0;
  bound = halves n;
  reserved = 0;
}

abbrev pub image_refusal : ElfError → Refusal
image_refusal error = by_rule (status_of_image error) (image_rule error) 0

-- of bytes that are no certificate, with `read` of them read
abbrev pub certificate_refusal : CertError → ℕ → Refusal
certificate_refusal error read = record {
  status = code_of (status_of_certificate error);
  rule = certificate_rule error;
  address = 0;
  offset = min read 0xFFFF_FFFF;
  place = 0;
  bound = record { low = 0; high = 0 };
  reserved = 0;
}

-- with the address of the word at which the check stopped
abbrev pub check_refusal : CheckError → Refusal
check_refusal error =
    by_rule (status_of_check error) (check_rule error) (unwrap_or (address_of error) 0)

-- with the address of the first word that does not fit
abbrev pub make_refusal : MakeError → Refusal
make_refusal (make.NotALoopOfTheClass address) = by_rule status.NotALoop 0 address
make_refusal make.NoMemory = plain status.NoMemory

-- ---- what is wrong, and the answer

-- the fault where there is no value
abbrev pub lacking : {A : Type 0} → Option A → Status → Option Status
lacking (Some value) fault = None
lacking None fault = Some fault

-- A result is refused so, or for want of memory; there is one only where nothing is refused.
abbrev pub IsRefused : {A : Type 0} → Option Refusal → Result A Refusal → Type 0
IsRefused refusal (Ok done) = refusal ≡ None
IsRefused refusal (Err told) = (refusal ≡ Some told) ⊎ (told ≡ plain status.NoMemory)

-- the answer: the refusal, or that all was done
abbrev pub told_of : Option Refusal → Refusal
told_of refusal = unwrap_or refusal (plain status.Done)

-- The refusal is this, or want of memory.
abbrev pub IsThisOrWant : Refusal → Refusal → Type 0
IsThisOrWant this refusal = (refusal ≡ this) ⊎ (refusal ≡ plain status.NoMemory)

-- The same of the status alone.
abbrev pub IsStatusOrWant : Status → ℕ → Type 0
IsStatusOrWant this number = (number ≡ code_of this) ⊎ (number ≡ code_of status.NoMemory)
