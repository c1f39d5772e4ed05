-- What may be wrong with a file, and which of it is the answer.
use Rattle.std.specs.Prelude.{ℕ, ◌+◌, ◌%◌, ◌==◌, ◌&&◌, ◌||◌, not, nat_lt, nat_le, nat_eq, Bool, false, List, [], ◌∷◌, ◌++◌, length, bit_and, Option, Some, None, find, if◌then◌else◌}
use Rattle.std.specs.List.{list_any, sum_by, starts_with, slice_index}
use Rattle.elf_image.specs.declared.error.ElfError.{ElfError}
use Rattle.elf_image.specs.declared.error.ElfError.TheVariants.{TooShort, BadMagic, BadClass, BadType, BadMachine, BadFlags, BadHeaderTable, NotStatic, SegmentOutOfFile, SegmentOutOfPlace, SegmentsOverlap, WriteAndExecute, TooLarge, EntryNotCode, TwoCertificates, CertificateThere, NoMemory}
use Rattle.elf_image.specs.declared.header.ProgramHeader.{ProgramHeader}
use Rattle.elf_image.specs.declared.faults.TheConstants.{ELF_HEADER_SIZE, MAGIC, EI_CLASS, EI_DATA, EI_VERSION, ELFCLASS32, ELFDATA2LSB, EV_CURRENT, ET_EXEC, EM_RISCV, EXTENSION_FLAGS}
use Rattle.elf_image.specs.declared.header.TheConstants.{PROGRAM_HEADER_SIZE, MAX_PROGRAM_HEADERS, PT_DYNAMIC, PT_INTERP, PT_TLS}
use Rattle.elf_image.specs.declared.layout.TheConstants.{LOW_SEGMENTS, LOW_SEGMENTS_END, HIGH_SEGMENTS, HIGH_SEGMENTS_END, MAX_FILE_SIZE, MAX_SEGMENTS, MAX_MEMORY_SIZE}
use Rattle.elf_image.specs.File.{certificates_of, e_type, e_machine, e_version, e_entry, e_flags, e_ehsize, e_phentsize, e_phnum, header_offset, program_headers, segment_headers, is_load, is_note, is_executable, is_writable}

-- fewer bytes than an ELF header has
abbrev pub is_too_short : List ℕ → Bool
is_too_short file = nat_lt (length file) ELF_HEADER_SIZE

-- e_ident doesn't begin with 0x7f, E, L, F
unfoldable pub has_bad_magic : List ℕ → Bool
has_bad_magic file = not (starts_with nat_eq file MAGIC)

-- EI_CLASS isn't ELFCLASS32, EI_DATA isn't ELFDATA2LSB, or EI_VERSION isn't EV_CURRENT
unfoldable pub has_bad_class : List ℕ → Bool
has_bad_class file =
    not (slice_index file EI_CLASS == ELFCLASS32) || not (slice_index file EI_DATA == ELFDATA2LSB)
    || not (slice_index file EI_VERSION == EV_CURRENT)

-- e_type isn't ET_EXEC, or e_version isn't EV_CURRENT
unfoldable pub has_bad_type : List ℕ → Bool
has_bad_type file = not (e_type file == ET_EXEC) || not (e_version file == EV_CURRENT)

-- e_machine isn't EM_RISCV
unfoldable pub has_bad_machine : List ℕ → Bool
has_bad_machine file = not (e_machine file == EM_RISCV)

-- e_flags has a bit of EF_RISCV_RVC, EF_RISCV_FLOAT_ABI or EF_RISCV_RVE
unfoldable pub has_bad_flags : List ℕ → Bool
has_bad_flags file = not (bit_and (e_flags file) EXTENSION_FLAGS == 0)

-- there is no program header, or there are too many
abbrev pub has_bad_count : List ℕ → Bool
has_bad_count file = e_phnum file == 0 || nat_lt MAX_PROGRAM_HEADERS (e_phnum file)

-- their table doesn't lie inside the file
abbrev pub has_table_outside : List ℕ → Bool
has_table_outside file = nat_lt (length file) (header_offset (e_phnum file) file)

-- the sizes of the headers aren't the standard's for 32 bits, or one of these is so
unfoldable pub has_bad_header_table : List ℕ → Bool
has_bad_header_table file =
    not (e_ehsize file == ELF_HEADER_SIZE) || not (e_phentsize file == PROGRAM_HEADER_SIZE)
    || has_bad_count file || has_table_outside file

-- a program header of type PT_DYNAMIC, PT_INTERP or PT_TLS
abbrev pub is_dynamic : ProgramHeader → Bool
is_dynamic h = h.p_type == PT_DYNAMIC || h.p_type == PT_INTERP || h.p_type == PT_TLS

-- some program header is
unfoldable pub is_not_static : List ProgramHeader → Bool
is_not_static headers = list_any is_dynamic headers

-- bytes of a loadable or note segment that are not in a file of this size, or more in the
-- file than in memory
abbrev pub is_out_of_file : ℕ → ProgramHeader → Bool
is_out_of_file size h =
    (is_load h || is_note h) && nat_lt 0 h.p_filesz && nat_lt size (h.p_offset + h.p_filesz)
    || is_load h && nat_lt h.p_memsz h.p_filesz

-- some program header has such bytes
unfoldable pub has_out_of_file : ℕ → List ProgramHeader → Bool
has_out_of_file size headers = list_any (is_out_of_file size) headers

-- the bytes in memory lie from low on and below high
abbrev pub is_between : ℕ → ℕ → ProgramHeader → Bool
is_between low high h = nat_le low h.p_vaddr && nat_le (h.p_vaddr + h.p_memsz) high

-- they lie in neither of the two parts of memory that are for segments
abbrev pub is_out_of_place : ProgramHeader → Bool
is_out_of_place h =
    not (is_between LOW_SEGMENTS LOW_SEGMENTS_END h || is_between HIGH_SEGMENTS HIGH_SEGMENTS_END h)

unfoldable pub has_out_of_place : List ProgramHeader → Bool
has_out_of_place segments = list_any is_out_of_place segments

-- some address lies in both, of two segments that have bytes
abbrev pub overlap : ProgramHeader → ProgramHeader → Bool
overlap g h = nat_lt g.p_vaddr (h.p_vaddr + h.p_memsz) && nat_lt h.p_vaddr (g.p_vaddr + g.p_memsz)

-- some two of them overlap
unfoldable pub has_overlap : List ProgramHeader → Bool
has_overlap [] = false
has_overlap (h ∷ hs) = list_any (overlap h) hs || has_overlap hs

-- a segment that may be written and executed
abbrev pub is_write_and_execute : ProgramHeader → Bool
is_write_and_execute h = is_writable h && is_executable h

unfoldable pub has_write_and_execute : List ProgramHeader → Bool
has_write_and_execute segments = list_any is_write_and_execute segments

-- too many bytes of file, segments or bytes of memory
unfoldable pub is_too_large : ℕ → List ProgramHeader → Bool
is_too_large size segments = nat_lt MAX_FILE_SIZE size || nat_lt MAX_SEGMENTS (length segments)
    || nat_lt MAX_MEMORY_SIZE (sum_by (λ h. h.p_memsz) segments)

-- the word at the address lies in a segment that may be executed
abbrev pub has_word : ℕ → ProgramHeader → Bool
has_word address h =
    is_executable h && nat_le h.p_vaddr address && nat_le (address + 4) (h.p_vaddr + h.p_memsz)

-- the entry isn't a multiple of 4, or its word isn't in such a segment
unfoldable pub is_not_code : ℕ → List ProgramHeader → Bool
is_not_code entry segments = not (entry % 4 == 0) || not (list_any (has_word entry) segments)

-- the note segments have more than one certificate
unfoldable pub has_two_certificates : List ℕ → Bool
has_two_certificates file = nat_lt 1 (length (certificates_of file))

-- they have one, so that no other can be attached
unfoldable pub has_certificate : List ℕ → Bool
has_certificate file = nat_lt 0 (length (certificates_of file))

-- whether this is wrong with the file
abbrev pub holds : ElfError → List ℕ → Bool
holds TooShort file = is_too_short file
holds BadMagic file = has_bad_magic file
holds BadClass file = has_bad_class file
holds BadType file = has_bad_type file
holds BadMachine file = has_bad_machine file
holds BadFlags file = has_bad_flags file
holds BadHeaderTable file = has_bad_header_table file
holds NotStatic file = is_not_static (program_headers file)
holds SegmentOutOfFile file = has_out_of_file (length file) (program_headers file)
holds SegmentOutOfPlace file = has_out_of_place (segment_headers file)
holds SegmentsOverlap file = has_overlap (segment_headers file)
holds WriteAndExecute file = has_write_and_execute (segment_headers file)
holds TooLarge file = is_too_large (length file) (segment_headers file)
holds EntryNotCode file = is_not_code (e_entry file) (segment_headers file)
holds TwoCertificates file = has_two_certificates file
holds CertificateThere file = has_certificate file
holds NoMemory file = false

-- the order in which they are told: those of the header, of the segments, of the notes
abbrev pub header_faults : List ElfError
header_faults =
    TooShort ∷ BadMagic ∷ BadClass ∷ BadType ∷ BadMachine ∷ BadFlags ∷ BadHeaderTable ∷ []

abbrev pub place_faults : List ElfError
place_faults =
    NotStatic ∷ SegmentOutOfFile ∷ SegmentOutOfPlace ∷ SegmentsOverlap ∷ WriteAndExecute ∷ []

abbrev pub segment_faults : List ElfError
segment_faults = place_faults ++ TooLarge ∷ EntryNotCode ∷ []

abbrev pub note_faults : List ElfError
note_faults = TwoCertificates ∷ []

-- the error of a file that has this fault, or has not
abbrev pub told_if : ElfError → Bool → Option ElfError
told_if fault wrong = if wrong then Some fault else None

-- the first of a list that is wrong with the file
abbrev pub first_of : List ElfError → List ℕ → Option ElfError
first_of faults file = find (λ e. holds e file) faults

-- what a file is refused for, if anything is wrong with it
unfoldable pub fault_of : List ℕ → Option ElfError
fault_of file = first_of (header_faults ++ segment_faults ++ note_faults) file
