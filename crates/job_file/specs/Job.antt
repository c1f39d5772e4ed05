-- Job files: the values that a TOML table gives, or what of it breaks a rule of job files.
use Rattle.std.specs.Prelude.{◌≡◌, ◌==◌, ◌^◌, ℕ, ℤ, pos, negsuc, Bool, nat_lt, List, [], ◌∷◌, map, Option, Some, None, is_some, option_map, option_and_then, ok_or, if◌then◌else◌, codes, Result, Ok, Err}
use Rattle.std.specs.Borrow.{Bor}
use Rattle.std.specs.List.{list_any}
use Rattle.std.specs.Option.{option_map_or}
use Rattle.std.specs.Result.{result_ok}
use Rattle.std.specs.Str.{bytes_eq}
use Rattle.toml.specs.Data.{Data, Items, Members, no_members, member, as_array, as_integer, as_str, as_table, get_item, get_member}
use Rattle.toml.specs.Parse.{parse_document}
use Rattle.vreg_groups.specs.declared.policies.Agnostic.{Agnostic}
use Rattle.vreg_groups.specs.declared.policies.Agnostic.TheVariants as setting
use Rattle.job_file.specs.Keys.{key_name}
use Rattle.job_file.specs.declared.keys.JobBreach.{JobBreach}
use Rattle.job_file.specs.declared.keys.JobBreach.TheVariants as breach
use Rattle.job_file.specs.declared.keys.JobKey.{JobKey}
use Rattle.job_file.specs.declared.keys.JobKey.TheVariants as key
use Rattle.job_file.specs.declared.keys.JobTable.{JobTable}
use Rattle.job_file.specs.declared.keys.JobTable.TheVariants as table
use Rattle.job_file.specs.declared.params.Kind.{Kind}
use Rattle.job_file.specs.declared.params.Kind.TheVariants as kind
use Rattle.job_file.specs.declared.values.Job.{Job}
use Rattle.job_file.specs.declared.values.JobError.{JobError}
use Rattle.job_file.specs.declared.values.JobError.TheVariants.{NotToml, BadKey, NoMemory}
use Rattle.region_mem.specs.declared.parameter.Mode.{Mode}
use Rattle.region_mem.specs.declared.parameter.Mode.TheVariants.{Read, ReadWrite}
use Rattle.job_file.specs.declared.values.JobParam.{JobParam}
use Rattle.job_file.specs.declared.values.JobParam.TheVariants as param
use Rattle.vreg_groups.specs.declared.vector_length.Vlen.{Vlen}
use Rattle.vreg_groups.specs.declared.vector_length.Vlen.TheVariants.{V128, V256, V512}

abbrev pub Text : Type 0
Text = List ℕ

-- ---- the values that a key may have

-- a number from 0 to below the limit
abbrev pub number_below : ℕ → ℤ → Option ℕ
number_below limit (pos n) = if nat_lt n limit then Some n else None
number_below limit (negsuc n) = None

-- `lo`, `hi`, `value` and `size`: 0 to 2^32 - 1
unfoldable pub word_of : Data → Option ℕ
word_of d = option_and_then (number_below (2 ^ 32)) (as_integer d)

-- `max`: 0 to 2^63 - 1
unfoldable pub max_of : Data → Option ℕ
max_of d = option_and_then (number_below (2 ^ 63)) (as_integer d)

abbrev pub vlen_of_bits : ℕ → Option Vlen
vlen_of_bits n = if n == 128 then Some V128
    else (if n == 256 then Some V256 else (if n == 512 then Some V512 else None))

-- `vlen`: 128, 256 or 512
unfoldable pub vlen_of : Data → Option Vlen
vlen_of d = option_and_then vlen_of_bits (word_of d)

abbrev pub agnostic_named : Text → Option Agnostic
agnostic_named t = if bytes_eq t (codes "keep") then Some setting.Keep
    else (if bytes_eq t (codes "ones") then Some setting.Ones else None)

-- `agnostic`: "keep" or "ones"
unfoldable pub agnostic_of : Data → Option Agnostic
agnostic_of d = option_and_then agnostic_named (as_str d)

abbrev pub mode_named : Text → Option Mode
mode_named t = if bytes_eq t (codes "r") then Some Read
    else (if bytes_eq t (codes "rw") then Some ReadWrite else None)

-- `mode`: "r" or "rw"
unfoldable pub mode_of : Data → Option Mode
mode_of d = option_and_then mode_named (as_str d)

abbrev pub kind_named : Text → Option Kind
kind_named t = if bytes_eq t (codes "none") then Some kind.None
    else (if bytes_eq t (codes "scalar") then Some kind.Scalar
    else (if bytes_eq t (codes "buffer") then Some kind.Buffer else None))

-- `kind`: "none", "scalar" or "buffer"
unfoldable pub kind_of : Data → Option Kind
kind_of d = option_and_then kind_named (as_str d)

-- ---- what breaks a rule

abbrev pub Breach : Type 0
Breach = JobBreach Text

-- what comes next of a value, where nothing broke a rule before
abbrev pub and_then : {A B : Type 0} → (A → Result B Breach) → Result A Breach → Result B Breach
and_then next (Ok a) = next a
and_then next (Err b) = Err b

-- the value of a key, where it is of its type and range
abbrev pub wanted : {A : Type 0} → JobTable → JobKey → Option A → Result A Breach
wanted t k (Some a) = Ok a
wanted t k None = Err (breach.Wrong t k)

-- ---- keys

abbrev pub field_of : {A : Type 0} → (Data → Option A) → JobTable → JobKey → Option Data
    → Result (Option A) Breach
field_of read t k None = Ok None
field_of read t k (Some d) = wanted t k (option_map (λ a. Some a) (read d))

-- a key that may be missing, and where it is there has a value that `read` takes
abbrev pub field : {A : Type 0} → (Data → Option A) → JobTable → JobKey → Members
    → Result (Option A) Breach
field read t k ms = field_of read t k (get_member (key_name k) ms)

abbrev pub is_one_of : List JobKey → Text → Bool
is_one_of known name = list_any (λ k. bytes_eq (key_name k) name) known

-- the table's first key that is none of these
unfoldable pub first_unknown : List JobKey → Members → Option Text
first_unknown known no_members = None
first_unknown known (member name d ms) =
    if is_one_of known name then first_unknown known ms else Some name

-- what is read of a table, where it has no unknown key
abbrev pub if_known : {A : Type 0} → JobTable → Option Text → Result A Breach → Result A Breach
if_known t None read = read
if_known t (Some name) read = Err (breach.Unknown t name)

-- ---- parameters

-- the keys that a table of a kind may have
abbrev pub kind_keys : Kind → List JobKey
kind_keys kind.None = key.Kind ∷ []
kind_keys kind.Scalar = key.Kind ∷ key.Lo ∷ key.Hi ∷ key.Value ∷ []
kind_keys kind.Buffer = key.Kind ∷ key.Mode ∷ key.Size ∷ key.File ∷ key.Out ∷ []

abbrev pub scalar_fields : JobTable → Members → Result (JobParam Text) Breach
scalar_fields t ms = and_then (λ lo. and_then (λ hi. and_then (λ value.
    Ok (param.Scalar lo hi value))
    (field word_of t key.Value ms)) (field word_of t key.Hi ms)) (field word_of t key.Lo ms)

abbrev pub buffer_fields : JobTable → Members → Result (JobParam Text) Breach
buffer_fields t ms = and_then (λ mode. and_then (λ size. and_then (λ file.
    and_then (λ out. Ok (param.Buffer mode size file out))
    (field as_str t key.Out ms)) (field as_str t key.File ms))
    (field word_of t key.Size ms)) (field mode_of t key.Mode ms)

unfoldable pub param_fields : JobTable → Members → Kind → Result (JobParam Text) Breach
param_fields t ms kind.None = Ok param.None
param_fields t ms kind.Scalar = scalar_fields t ms
param_fields t ms kind.Buffer = buffer_fields t ms

-- a table of a kind
unfoldable pub param_of_kind : JobTable → Members → Kind → Result (JobParam Text) Breach
param_of_kind t ms k = if_known t (first_unknown (kind_keys k) ms) (param_fields t ms k)

-- the kind of a table, which has to have one
abbrev pub kind_in : JobTable → Members → Result Kind Breach
kind_in t ms = and_then (λ d. wanted t key.Kind (kind_of d))
    (ok_or (get_member (key_name key.Kind) ms) (breach.NoKind t))

-- the table at a place of `param`, where each has to be one
abbrev pub table_of : JobTable → Data → Result Members Breach
table_of t d = ok_or (as_table d) (breach.NoTable t)

-- one `[[param]]` table
unfoldable pub param_of : JobTable → Data → Result (JobParam Text) Breach
param_of t d = and_then (λ ms. and_then (param_of_kind t ms) (kind_in t ms)) (table_of t d)

-- the parameter at a place: none where there is no such table
unfoldable pub param_at : Items → ℕ → Result (JobParam Text) Breach
param_at items place =
    option_map_or (param_of (table.Param place)) (get_item place items) (Ok param.None)

-- the values, where each is there
abbrev pub all_there : {A : Type 0} → List (Option A) → Option (List A)
all_there [] = Some []
all_there (o ∷ os) = option_and_then (λ a. option_map (λ rest. a ∷ rest) (all_there os)) o

-- the values, where none breaks a rule, or the first breach
abbrev pub all_kept : {A : Type 0} → List (Result A Breach) → Result (List A) Breach
all_kept [] = Ok []
all_kept (r ∷ rs) = and_then (λ a. and_then (λ rest. Ok (a ∷ rest)) (all_kept rs)) r

abbrev pub places : List ℕ
places = 0 ∷ 1 ∷ 2 ∷ 3 ∷ 4 ∷ 5 ∷ 6 ∷ 7 ∷ []

-- the parameters at the eight places, where there is no ninth table
unfoldable pub params_of : Items → Result (List (JobParam Text)) Breach
params_of items = if is_some (get_item 8 items) then Err breach.TooMany
    else all_kept (map (param_at items) places)

abbrev pub no_params : List (JobParam Text)
no_params = map (λ _. param.None) places

abbrev pub params_at : Option Data → Result (List (JobParam Text)) Breach
params_at None = Ok no_params
params_at (Some d) = and_then params_of (wanted table.Job key.Param (as_array d))

-- `param`: an array of tables
unfoldable pub params_in : Members → Result (List (JobParam Text)) Breach
params_in ms = params_at (get_member (key_name key.Param) ms)

-- ---- a job

abbrev pub job_keys : List JobKey
job_keys = key.Image ∷ key.Vlen ∷ key.Agnostic ∷ key.Max ∷ key.Param ∷ []

unfoldable pub job_fields : Members → Result (Job Text) Breach
job_fields ms = and_then (λ image. and_then (λ vlen. and_then (λ agnostic.
    and_then (λ max. and_then (λ params. Ok (record {
      image = image;
      vlen = vlen;
      agnostic = agnostic;
      max = max;
      params = params;
    })) (params_in ms)) (field max_of table.Job key.Max ms))
    (field agnostic_of table.Job key.Agnostic ms))
    (field vlen_of table.Job key.Vlen ms)) (field as_str table.Job key.Image ms)

-- the values of a table's keys, where it has no other key and each value is of its type and range,
-- or the first breach of these
unfoldable pub kept_job_of : Members → Result (Job Text) Breach
kept_job_of ms = if_known table.Job (first_unknown job_keys ms) (job_fields ms)

-- the values of a table's keys, or none where it breaks a rule
abbrev pub job_of : Members → Option (Job Text)
job_of ms = result_ok (kept_job_of ms)

-- ---- the same with texts that are lent

abbrev pub param_lent : JobParam (Bor Text) → JobParam Text
param_lent param.None = param.None
param_lent (param.Scalar lo hi value) = param.Scalar lo hi value
param_lent (param.Buffer mode size file out) =
    param.Buffer mode size (option_map (λ s. s.now) file) (option_map (λ s. s.now) out)

abbrev pub job_lent : Job (Bor Text) → Job Text
job_lent j = record {
  image = option_map (λ s. s.now) j.image;
  vlen = j.vlen;
  agnostic = j.agnostic;
  max = j.max;
  params = map param_lent j.params;
}

abbrev pub breach_lent : JobBreach (Bor Text) → Breach
breach_lent (breach.Wrong t k) = breach.Wrong t k
breach_lent (breach.Unknown t name) = breach.Unknown t name.now
breach_lent (breach.NoTable t) = breach.NoTable t
breach_lent (breach.NoKind t) = breach.NoKind t
breach_lent breach.TooMany = breach.TooMany

-- what is read with texts that are lent, each value as `lent` sees it
abbrev pub read_lent : {A B : Type 0} → (A → B) → Result A (JobBreach (Bor Text)) → Result B Breach
read_lent lent (Ok a) = Ok (lent a)
read_lent lent (Err b) = Err (breach_lent b)

-- ---- why a text has no table

abbrev pub IsTableFault : Text → JobError → Type 0
IsTableFault text NotToml = parse_document text ≡ None
IsTableFault text BadKey = ⊥
IsTableFault text NoMemory = Unit {0}
