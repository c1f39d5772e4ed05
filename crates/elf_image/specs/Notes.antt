-- The notes of a note segment, as the ELF standard's note section lays them out, and the
-- certificates among them.
use Rattle.std.specs.Prelude.{ℕ, zero, suc, ◌+◌, ◌*◌, ◌/◌, ◌==◌, ◌&&◌, nat_le, if◌then◌else◌, Bool, List, [], ◌∷◌, length, take, drop, map, filter, Option, option_to_list, option_copied}
use denote.Ref.{Bor}
use Rattle.std.specs.Str.{bytes_eq}
use Rattle.elf_image.specs.Words.{word_at}
use Rattle.elf_image.specs.declared.note.TheConstants.{NAME, CERTIFICATE, NOTE_HEADER_SIZE, N_NAMESZ, N_DESCSZ, N_TYPE}

pub record NoteView : Type 0 where
  pub name : List ℕ
  pub descriptor : List ℕ
  pub kind : ℕ

-- The header of a note is namesz, descsz and type, four bytes each.
abbrev pub n_namesz : List ℕ → ℕ
n_namesz bytes = word_at N_NAMESZ bytes

abbrev pub n_descsz : List ℕ → ℕ
n_descsz bytes = word_at N_DESCSZ bytes

abbrev pub n_type : List ℕ → ℕ
n_type bytes = word_at N_TYPE bytes

-- n bytes and the padding that brings them to a multiple of 4
abbrev pub padded : ℕ → ℕ
padded n = (n + 3) / 4 * 4

-- how many bytes there have to be for the note at the front: its header, its name and its
-- descriptor. The padding after the last of these that isn't empty may be missing.
abbrev pub note_size_of : ℕ → ℕ → ℕ
note_size_of name_size descriptor_size =
    if descriptor_size == 0 then NOTE_HEADER_SIZE + name_size
    else NOTE_HEADER_SIZE + padded name_size + descriptor_size

abbrev pub note_size : List ℕ → ℕ
note_size bytes = note_size_of (n_namesz bytes) (n_descsz bytes)

-- a whole note stands at the front
unfoldable pub has_note : List ℕ → Bool
has_note bytes = nat_le NOTE_HEADER_SIZE (length bytes) && nat_le (note_size bytes) (length bytes)

-- that note, and the bytes after it and its padding
unfoldable pub note_of : List ℕ → NoteView
note_of bytes = record {
  name = take (n_namesz bytes) (drop NOTE_HEADER_SIZE bytes);
  descriptor = take (n_descsz bytes) (drop (NOTE_HEADER_SIZE + padded (n_namesz bytes)) bytes);
  kind = n_type bytes;
}

unfoldable pub after_note : List ℕ → List ℕ
after_note bytes =
    drop (NOTE_HEADER_SIZE + padded (n_namesz bytes) + padded (n_descsz bytes)) bytes

-- the notes at the front, one after the other, but at most a number of them. Nothing that follows
-- bytes that are no whole note is one
unfoldable pub notes_within : ℕ → List ℕ → List NoteView
notes_within zero bytes = []
notes_within (suc most) bytes =
    if has_note bytes then note_of bytes ∷ notes_within most (after_note bytes) else []

-- all of them: there are fewer than bytes
abbrev pub notes_of : List ℕ → List NoteView
notes_of bytes = notes_within (length bytes) bytes

-- the name is RVVBOX with a zero byte, and the type is 1
abbrev pub is_certificate : NoteView → Bool
is_certificate n = n.kind == CERTIFICATE && bytes_eq n.name NAME

-- the certificates in the bytes of a note segment, which are descriptors
unfoldable pub certificates_in : List ℕ → List (List ℕ)
certificates_in bytes = map (λ n. n.descriptor) (filter is_certificate (notes_of bytes))

-- the bytes behind a reference, if there is one, as a list of at most one
abbrev pub listed : Option (Bor (List ℕ)) → List (List ℕ)
listed r = option_to_list (option_copied r)
