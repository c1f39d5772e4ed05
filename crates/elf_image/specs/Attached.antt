-- The file that a certificate is attached to: a copy with one more note segment, and the reasons
-- why there is none. Names are those of the ELF standard, "ELF Header", "Program Header" and "Note
-- Section", at 32 bits.
use Rattle.std.specs.Prelude.{ℕ, ◌+◌, ◌-◌, ◌*◌, ◌≤◌, ◌||◌, nat_lt, nat_le, Bool, List, [], ◌∷◌, ◌++◌, length, take, drop, Option}
use Rattle.std.specs.Option.{option_or}
use Rattle.elf_image.specs.declared.error.ElfError.{ElfError}
use Rattle.elf_image.specs.declared.error.ElfError.TheVariants.{TooLarge, EntryNotCode, TwoCertificates, CertificateThere}
use Rattle.elf_image.specs.declared.header.TheConstants.{E_PHOFF, E_PHNUM, PROGRAM_HEADER_SIZE, MAX_PROGRAM_HEADERS, PT_NOTE, PF_R}
use Rattle.elf_image.specs.declared.layout.TheConstants.{MAX_FILE_SIZE}
use Rattle.elf_image.specs.declared.note.TheConstants.{NAME, CERTIFICATE, NOTE_HEADER_SIZE}
use Rattle.elf_image.specs.declared.attached.TheConstants.{ZEROS}
use Rattle.elf_image.specs.Words.{half, word}
use Rattle.elf_image.specs.Notes.{padded}
use Rattle.elf_image.specs.File.{HasTable, e_phoff, e_phnum}
use Rattle.elf_image.specs.Faults.{holds, header_faults, place_faults, told_if, first_of}

-- the zeros that bring n bytes to a multiple of 4
unfoldable pub padding : ℕ → List ℕ
padding n = take (padded n - n) ZEROS

-- the note of a certificate: namesz, descsz, type, the name and the descriptor, each of
-- these two padded
unfoldable pub note_with : List ℕ → List ℕ
note_with cert =
    word (length NAME) ++ word (length cert) ++ word CERTIFICATE
    ++ NAME ++ padding (length NAME) ++ cert ++ padding (length cert)

-- the program header of a note segment: p_type, p_offset, p_vaddr, p_paddr, p_filesz, p_memsz,
-- p_flags, p_align
unfoldable pub note_header : ℕ → ℕ → List ℕ
note_header offset size =
    word PT_NOTE ++ word offset ++ word 0 ++ word 0 ++ word size ++ word size ++ word PF_R ++ word 4

-- a number of bytes of a file from an offset on, and all of them
unfoldable pub part : ℕ → ℕ → List ℕ → List ℕ
part offset size file = take size (drop offset file)

unfoldable pub rest_from : ℕ → List ℕ → List ℕ
rest_from offset file = drop offset file

-- the file with these e_phoff and e_phnum
unfoldable pub patched : ℕ → ℕ → List ℕ → List ℕ
patched offset count file =
    part 0 E_PHOFF file ++ word offset ++ part (E_PHOFF + 4) (E_PHNUM - (E_PHOFF + 4)) file
    ++ half count ++ rest_from (E_PHNUM + 2) file

-- the file as it stands in the one with a certificate: its table has one more header,
-- and lies behind it
abbrev pub patched_of : List ℕ → List ℕ
patched_of file = patched (padded (length file)) (e_phnum file + 1) file

-- the bytes of its program headers
abbrev pub headers_of : List ℕ → List ℕ
headers_of file = take (PROGRAM_HEADER_SIZE * e_phnum file) (drop (e_phoff file) file)

-- where the note lies: behind the file and a table of one more program header
abbrev pub note_offset : ℕ → ℕ → ℕ
note_offset size count = padded size + PROGRAM_HEADER_SIZE * (count + 1)

-- the file with a certificate: the file, its program headers and that of the note, and the note
unfoldable pub attached_of : List ℕ → List ℕ → List ℕ
attached_of file cert =
    patched_of file ++ padding (length file) ++ headers_of file
    ++ note_header (note_offset (length file) (e_phnum file)) (length (note_with cert))
    ++ note_with cert

-- it would have too many program headers or too many bytes
unfoldable pub outgrows : List ℕ → List ℕ → Bool
outgrows file cert =
    nat_le MAX_PROGRAM_HEADERS (e_phnum file)
    || nat_lt MAX_FILE_SIZE (length (attached_of file cert))

-- What a certificate isn't attached for: the first fault of the file, among which it may be too
-- large with the certificate, and last that it has one.
unfoldable pub attach_fault : List ℕ → List ℕ → Option ElfError
attach_fault file cert =
    option_or (first_of (header_faults ++ place_faults) file)
    (option_or (told_if TooLarge (holds TooLarge file || outgrows file cert))
    (first_of (EntryNotCode ∷ TwoCertificates ∷ CertificateThere ∷ []) file))

-- how many bytes it has
abbrev pub attached_size : ℕ → ℕ → ℕ → ℕ
attached_size size count cert_size =
    note_offset size count + (NOTE_HEADER_SIZE + padded (length NAME) + padded cert_size)

-- The file has a table, and there is room for a further header and for the certificate.
pub record HasRoom (file cert : List ℕ) : Type 0 where
  pub table : HasTable file
  pub size : attached_size (length file) (e_phnum file) (length cert) ≤ MAX_FILE_SIZE
