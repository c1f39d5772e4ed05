-- Files in memory.
use Rattle.std.specs.Prelude.{◌++◌, ◌∷◌, [], ℕ, List, String, map}
use Rattle.std.specs.String.{string_bytes}
use Rattle.file_store.specs.Written.{Held}
use Rattle.file_store.specs.declared.memory.File.{File}
use Rattle.file_store.specs.declared.memory.Memory.{Memory}

-- a file's path and its bytes
abbrev pub entry_of : File → List ℕ × List ℕ
entry_of file = (string_bytes file.path, file.bytes.items)

abbrev pub path_of : {Z : Type 0} → String Z → List ℕ
path_of path = string_bytes path

-- exactly what they are
abbrev pub held_by : Memory → Held
held_by memory = record {
  files = map entry_of memory.files.items;
  unread = map path_of memory.unread.items;
  unwritten = map path_of memory.unwritten.items;
}

-- the same where the file at a path can't be read
abbrev pub with_unread : List ℕ → Held → Held
with_unread path held = record held { unread = held.unread ++ (path ∷ []) }

-- and where it can't be written
abbrev pub with_unwritten : List ℕ → Held → Held
with_unwritten path held = record held { unwritten = held.unwritten ++ (path ∷ []) }
