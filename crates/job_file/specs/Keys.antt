-- The tables and keys of a job, the values that the keys may have, and a breach, in words.
use Rattle.std.specs.Prelude.{ℕ, ◌++◌, List, codes, Option, Some, option_map}
use Rattle.std.specs.Fmt.{decimal}
use Rattle.job_file.specs.declared.keys.JobBreach.{JobBreach}
use Rattle.job_file.specs.declared.keys.JobBreach.TheVariants as breach
use Rattle.job_file.specs.declared.keys.JobKey.{JobKey}
use Rattle.job_file.specs.declared.keys.JobKey.TheVariants as key
use Rattle.job_file.specs.declared.keys.JobTable.{JobTable}
use Rattle.job_file.specs.declared.keys.JobTable.TheVariants as table

abbrev pub table_text : JobTable → List ℕ
table_text table.Job = codes "the job"
table_text (table.Param place) = codes "the param at place " ++ decimal place

abbrev pub key_name : JobKey → List ℕ
key_name key.Image = codes "image"
key_name key.Vlen = codes "vlen"
key_name key.Agnostic = codes "agnostic"
key_name key.Max = codes "max"
key_name key.Param = codes "param"
key_name key.Kind = codes "kind"
key_name key.Lo = codes "lo"
key_name key.Hi = codes "hi"
key_name key.Value = codes "value"
key_name key.Mode = codes "mode"
key_name key.Size = codes "size"
key_name key.File = codes "file"
key_name key.Out = codes "out"

abbrev pub word_wanted : List ℕ
word_wanted = codes "a number in 0..=4294967295"

abbrev pub key_wanted : JobKey → List ℕ
key_wanted key.Image = codes "a path"
key_wanted key.Vlen = codes "128, 256 or 512"
key_wanted key.Agnostic = codes "\"keep\" or \"ones\""
key_wanted key.Max = codes "a number in 0..=9223372036854775807"
key_wanted key.Param = codes "at most eight tables, each [[param]]"
key_wanted key.Kind = codes "\"none\", \"scalar\" or \"buffer\""
key_wanted key.Lo = word_wanted
key_wanted key.Hi = word_wanted
key_wanted key.Value = word_wanted
key_wanted key.Mode = codes "\"r\" or \"rw\""
key_wanted key.Size = word_wanted
key_wanted key.File = codes "a path"
key_wanted key.Out = codes "a path"

abbrev pub in_text : JobTable → JobKey → List ℕ
in_text t k = codes " in " ++ (table_text t ++ (codes ": " ++ key_wanted k))

abbrev pub wrong_text : JobTable → JobKey → List ℕ
wrong_text t k = codes "not as wanted: " ++ (key_name k ++ in_text t k)

abbrev pub unknown_text : JobTable → List ℕ → List ℕ
unknown_text t name = codes "a key that " ++ (table_text t ++ (codes " can't have: " ++ name))

abbrev pub no_table_text : JobTable → List ℕ
no_table_text t = codes "not as wanted: " ++ (table_text t ++ codes ": a table")

abbrev pub no_kind_text : JobTable → List ℕ
no_kind_text t = table_text t ++ (codes " has no kind: " ++ key_wanted key.Kind)

abbrev pub too_many_text : List ℕ
too_many_text = codes "wanted: at most eight param tables"

-- a breach, where the text of an unknown key is known
abbrev pub breach_text : {A : Type 0} → (A → Option (List ℕ)) → JobBreach A → Option (List ℕ)
breach_text text_of (breach.Wrong t k) = Some (wrong_text t k)
breach_text text_of (breach.Unknown t name) = option_map (unknown_text t) (text_of name)
breach_text text_of (breach.NoTable t) = Some (no_table_text t)
breach_text text_of (breach.NoKind t) = Some (no_kind_text t)
breach_text text_of breach.TooMany = Some too_many_text
