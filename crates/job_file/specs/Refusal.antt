-- Why a text has no table, with what is known of it.
use Rattle.std.specs.Prelude.{◌≡◌, ◌≤◌, length, None}
use Rattle.toml.specs.Parse.{parse_document}
use Rattle.job_file.specs.Job.{Text}
use Rattle.job_file.specs.declared.values.JobError.{JobError}
use Rattle.job_file.specs.declared.values.JobError.TheVariants as error
use Rattle.job_file.specs.declared.refusal.TextRefusal.{TextRefusal}
use Rattle.job_file.specs.declared.refusal.TextRefusal.TheVariants as refusal

-- the error alone
abbrev pub error_of : TextRefusal → JobError
error_of (refusal.NotToml byte cause) = error.NotToml
error_of refusal.NoMemory = error.NoMemory

-- The refusal of a text: it is no TOML, and the fault begins in it, or memory ran out. The cause is
-- free, since the library states nothing of its words.
abbrev pub IsTextRefusal : Text → TextRefusal → Type 0
IsTextRefusal text (refusal.NotToml byte cause) =
    (parse_document text ≡ None) × (byte ≤ length text)
IsTextRefusal text refusal.NoMemory = Unit {0}
