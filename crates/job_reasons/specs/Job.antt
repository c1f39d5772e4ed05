-- Why a job is refused, and the words for it.
use Rattle.std.specs.Prelude.{◌≡◌, ◌<◌, ◌≤◌, ℕ, ◌+◌, ◌++◌, ◌==◌, nat_lt, nat_le, ◌||◌, if◌then◌else◌, Bool, true, false, List, [], codes, length, filter, fold, take, Option, Some, None, is_some, Err, String, string_bytes}
use Rattle.std.specs.Fmt.{decimal}
use Rattle.std.specs.Global.{Global}
use Rattle.std.specs.Prelude.{slice_index_or}
use Rattle.std.specs.Str.{IsUtf8}
use Rattle.std.specs.Str.Lossy.{utf8_valid_len}
use Rattle.toml.specs.Data.{Members}
use Rattle.toml.specs.Parse.{parse_document}
use Rattle.job_file.specs.Job.{Breach, Text, job_of, kept_job_of}
use Rattle.job_file.specs.Keys.{in_text, key_name, no_kind_text, no_table_text, too_many_text}
use Rattle.job_file.specs.Keys.{unknown_text, wrong_text}
use Rattle.job_file.specs.Needs.{make_job_in, run_job_in, try_job_in}
use Rattle.job_file.specs.declared.keys.JobBreach.{JobBreach}
use Rattle.job_file.specs.declared.keys.JobBreach.TheVariants as breach
use Rattle.job_file.specs.declared.keys.JobKey.{JobKey}
use Rattle.job_file.specs.declared.keys.JobKey.TheVariants as key
use Rattle.job_file.specs.declared.keys.JobTable.{JobTable}
use Rattle.job_file.specs.declared.keys.JobTable.TheVariants as table
use Rattle.job_file.specs.declared.values.Job.{Job}
use Rattle.job_file.specs.declared.values.JobParam.{JobParam}
use Rattle.job_file.specs.declared.values.JobParam.TheVariants as param
use Rattle.job_reasons.specs.Escaped.{escaped_text}
use Rattle.job_reasons.specs.declared.job.Command.{Command}
use Rattle.job_reasons.specs.declared.job.Command.TheVariants as command
use Rattle.job_reasons.specs.declared.job.JobReason.{JobReason}
use Rattle.job_reasons.specs.declared.job.JobReason.TheVariants as reason

-- ---- the keys that a command lacks

abbrev pub lacked_of : {A : Type 0} → Option A → JobKey → Option JobKey
lacked_of (Some value) k = None
lacked_of None k = Some k

-- the first of two that is there
abbrev pub or_else : Option JobKey → Option JobKey → Option JobKey
or_else (Some k) other = Some k
or_else None other = other

abbrev pub try_lacks : JobParam Text → Option JobKey
try_lacks param.None = None
try_lacks (param.Scalar lo hi value) = lacked_of value key.Value
try_lacks (param.Buffer mode size file out) =
    or_else (lacked_of mode key.Mode) (lacked_of file key.File)

abbrev pub run_lacks : JobParam Text → Option JobKey
run_lacks param.None = None
run_lacks (param.Scalar lo hi value) = lacked_of value key.Value
run_lacks (param.Buffer mode size file out) = lacked_of file key.File

abbrev pub make_lacks : JobParam Text → Option JobKey
make_lacks param.None = None
make_lacks (param.Scalar lo hi value) = or_else (lacked_of lo key.Lo) (lacked_of hi key.Hi)
make_lacks (param.Buffer mode size file out) =
    or_else (lacked_of mode key.Mode) (lacked_of size key.Size)

-- the first key that a command lacks of a parameter
abbrev pub param_lacks : Command → JobParam Text → Option JobKey
param_lacks command.Run p = run_lacks p
param_lacks command.Mon p = run_lacks p
param_lacks command.Try p = try_lacks p
param_lacks command.Make p = make_lacks p

abbrev pub start_lacks : Job Text → Option JobKey
start_lacks j = or_else (lacked_of j.image key.Image)
    (or_else (lacked_of j.agnostic key.Agnostic) (lacked_of j.max key.Max))

-- the first key of a job's own table that a command lacks
abbrev pub job_lacks : Command → Job Text → Option JobKey
job_lacks command.Run j = or_else (lacked_of j.vlen key.Vlen) (start_lacks j)
job_lacks command.Mon j = or_else (lacked_of j.vlen key.Vlen) (start_lacks j)
job_lacks command.Try j = or_else (lacked_of j.vlen key.Vlen) (start_lacks j)
job_lacks command.Make j = lacked_of j.vlen key.Vlen

-- ---- the reasons

abbrev pub is_taken : Command → Members → Bool
is_taken command.Run ms = is_some (run_job_in ms)
is_taken command.Mon ms = is_some (run_job_in ms)
is_taken command.Try ms = is_some (try_job_in ms)
is_taken command.Make ms = is_some (make_job_in ms)

-- the first key that a command lacks of the parameter at a place
abbrev pub place_lacks : Command → List (JobParam Text) → ℕ → Option JobKey
place_lacks c params place = param_lacks c (slice_index_or params place param.None)

-- the parameters before a place lack none
abbrev pub LackNone : Command → List (JobParam Text) → ℕ → Type 0
LackNone c params end = (place : ℕ) → place < end → place_lacks c params place ≡ None

-- of what a command lacks, this key of this table is the first
abbrev pub IsLacked : Command → JobTable → JobKey → Option (Job Text) → Type 0
IsLacked c t k None = ⊥
IsLacked c table.Job k (Some j) = job_lacks c j ≡ Some k
IsLacked c (table.Param place) k (Some j) = (place < 8) × (place_lacks c j.params place ≡ Some k)
    × (job_lacks c j ≡ None) × LackNone c j.params place

-- there is a job, and a command lacks no key of it
abbrev pub LacksNone : Command → Option (Job Text) → Type 0
LacksNone c None = ⊥
LacksNone c (Some j) = (job_lacks c j ≡ None) × LackNone c j.params 8

-- a breach with a text of its own
abbrev pub breach_kept : JobBreach (String Global) → Breach
breach_kept (breach.Wrong t k) = breach.Wrong t k
breach_kept (breach.Unknown t name) = breach.Unknown t (string_bytes name)
breach_kept (breach.NoTable t) = breach.NoTable t
breach_kept (breach.NoKind t) = breach.NoKind t
breach_kept breach.TooMany = breach.TooMany

-- the reason for a table: none exactly where the command takes it
abbrev pub IsTableReason : Command → Members → Option JobReason → Type 0
IsTableReason c ms None = is_taken c ms ≡ true
IsTableReason c ms (Some reason.Broken) = (is_taken c ms ≡ false) × LacksNone c (job_of ms)
IsTableReason c ms (Some (reason.Missing t k d)) =
    (d ≡ c) × (is_taken c ms ≡ false) × IsLacked c t k (job_of ms)
IsTableReason c ms (Some (reason.Breach b)) =
    (is_taken c ms ≡ false) × (kept_job_of ms ≡ Err (breach_kept b))
IsTableReason c ms (Some (reason.NotUtf8 byte)) = ⊥
IsTableReason c ms (Some (reason.NotToml line column byte cause)) = ⊥

abbrev pub lines_in : List ℕ → ℕ
lines_in bytes = length (filter (λ byte. byte == 10) bytes)

-- the line, counted from 1, of what stands behind these bytes
abbrev pub line_behind : List ℕ → ℕ
line_behind bytes = lines_in bytes + 1

-- a byte begins a character of UTF-8: it is not between 0x80 and 0xbf
abbrev pub begins_character : ℕ → Bool
begins_character byte = nat_lt byte 128 || nat_le 192 byte

-- the column of what stands behind one byte more
unfoldable pub next_column : ℕ → ℕ → ℕ
next_column column byte =
    if byte == 10 then 1 else (if begins_character byte then column + 1 else column)

-- the column, in characters and counted from 1, of what stands behind these bytes
abbrev pub column_behind : List ℕ → ℕ
column_behind bytes = fold next_column 1 bytes

-- The reason for bytes that spell no table: they are no UTF-8, or a text that is no TOML. The cause
-- is free, since the library states nothing of its words. There is none where memory ran out over a
-- text.
abbrev pub IsTextReason : List ℕ → Option JobReason → Type 0
IsTextReason text None = IsUtf8 text
IsTextReason text (Some (reason.NotUtf8 byte)) =
    (byte ≡ utf8_valid_len text) × (¬ (IsUtf8 text))
IsTextReason text (Some (reason.NotToml line column byte cause)) = (parse_document text ≡ None)
    × (line ≡ line_behind (take byte text)) × (column ≡ column_behind (take byte text))
    × (byte ≤ length text)
IsTextReason text (Some reason.Broken) = ⊥
IsTextReason text (Some (reason.Missing t k d)) = ⊥
IsTextReason text (Some (reason.Breach b)) = ⊥

-- ---- the words

abbrev pub command_name : Command → List ℕ
command_name command.Run = codes "run"
command_name command.Mon = codes "mon"
command_name command.Try = codes "try"
command_name command.Make = codes "make"

abbrev pub needs_text : JobKey → Command → List ℕ
needs_text k c = command_name c ++ (codes " needs " ++ key_name k)

-- a breach with a text of its own, which is the user's
abbrev pub kept_text : JobBreach (String Global) → List ℕ
kept_text (breach.Wrong t k) = wrong_text t k
kept_text (breach.Unknown t name) = unknown_text t (escaped_text (string_bytes name))
kept_text (breach.NoTable t) = no_table_text t
kept_text (breach.NoKind t) = no_kind_text t
kept_text breach.TooMany = too_many_text

-- the line of a cause, where there is one; its words are the library's
abbrev pub cause_text : Option (String Global) → List ℕ
cause_text None = []
cause_text (Some cause) = codes "  cause: " ++ (escaped_text (string_bytes cause) ++ codes "\n")

-- the lines of a reason
abbrev pub job_text : JobReason → List ℕ
job_text (reason.NotUtf8 byte) = codes "  not UTF-8 from byte " ++ (decimal byte ++ codes " on\n")
job_text (reason.NotToml line column byte cause) = codes "  not TOML from byte " ++ (decimal byte
    ++ (codes " on: line " ++ (decimal line
    ++ (codes ", column " ++ (decimal column ++ (codes "\n" ++ cause_text cause))))))
job_text reason.Broken =
    codes "  wanted: no other keys, and each value of its type and range\n"
job_text (reason.Missing t k c) =
    codes "  " ++ (needs_text k c ++ (in_text t k ++ codes "\n"))
job_text (reason.Breach b) = codes "  " ++ (kept_text b ++ codes "\n")
