-- What may come of the files at paths.
use Rattle.std.specs.Prelude.{if◌then◌else◌, ◌≡◌, Bool, false, true, ℕ, List, [], ◌∷◌, Option, Some, None, Result, Ok, Err}
use Rattle.std.specs.IoError.{error_kind}
use Rattle.std.specs.Str.{bytes_eq}
use Rattle.std.specs.declared.io.Error.{Error}
use Rattle.std.specs.declared.io.ErrorKind.{ErrorKind}
use Rattle.std.specs.declared.io.ErrorKind.TheVariants.{Other, OutOfMemory}
use Rattle.file_store.specs.Written.{Held, Written}
use Rattle.file_store.specs.declared.store.StoreError.{StoreError}
use Rattle.file_store.specs.declared.store.StoreError.TheVariants as store_error

-- the bytes that the file at a path may be read as, the errors with which it may not be read, and
-- those with which it may not be written
pub record Files : Type 1 where
  pub holds : List ℕ → List ℕ → Type 0
  pub unread : List ℕ → StoreError → Type 0
  pub unwritten : List ℕ → StoreError → Type 0

-- the bytes of the last file at a path, or else these
unfoldable pub last_at : List ℕ → Written → Option (List ℕ) → Option (List ℕ)
last_at path [] found = found
last_at path (file ∷ files) found =
    last_at path files (if bytes_eq file.0 path then Some file.1 else found)

-- one of these paths
unfoldable pub is_among : List ℕ → List (List ℕ) → Bool
is_among path [] = false
is_among path (p ∷ paths) = if bytes_eq p path then true else is_among path paths

-- the file at a path is none of those that can't be written, where these are known
abbrev pub IsWritable : Option Held → List ℕ → Type 0
IsWritable None path = Unit {0}
IsWritable (Some held) path = is_among path held.unwritten ≡ false

-- what is read at a path
abbrev pub bytes_at : Held → List ℕ → Option (List ℕ)
bytes_at held path = if is_among path held.unread then None else last_at path held.files None

-- memory may run out at any file
abbrev pub if_failed : StoreError → Type 0 → Type 0
if_failed store_error.Failed fact = fact
if_failed store_error.NoMemory fact = Unit {0}

-- what is there is read, what is not or can't be read is not, and what can't be written is not;
-- where it is not known what is held, anything may come
abbrev pub files_of : Option Held → Files
files_of None = record {
  holds = λ _ _. Unit {0};
  unread = λ _ _. Unit {0};
  unwritten = λ _ _. Unit {0};
}
files_of (Some held) = record {
  holds = λ path bytes. bytes_at held path ≡ Some bytes;
  unread = λ path error. if_failed error (bytes_at held path ≡ None);
  unwritten = λ path error. if_failed error (is_among path held.unwritten ≡ true);
}

-- want of memory apart from all else that a file may meet
abbrev pub store_error_of : ErrorKind → StoreError
store_error_of OutOfMemory = store_error.NoMemory
store_error_of _ = store_error.Failed

-- what the system says where an error is of a kind: nothing where a file counts as one that never
-- ends
abbrev pub said : ErrorKind → Option ErrorKind
said Other = None
said kind = Some kind

-- the same of what came of a call
abbrev pub failure_of : {A : Type 0} → Result A Error → Option ErrorKind
failure_of (Ok a) = None
failure_of (Err error) = said (error_kind error)
