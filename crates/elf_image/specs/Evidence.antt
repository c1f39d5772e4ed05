-- What is known of a file that is refused for an error: which number of it is wrong, and where.
use Rattle.std.specs.Prelude.{ℕ, ◌+◌, ◌==◌, ◌&&◌, not, nat_lt, ◌||◌, Bool, List, [], ◌∷◌, length, Option, Some, None, if◌then◌else◌}
use Rattle.std.specs.List.{position, slice_index, sum_by}
use Rattle.std.specs.Option.{option_map}
use Rattle.elf_image.specs.Words.{word_at}
use Rattle.elf_image.specs.File.{segment_headers, program_headers, program_header_at, header_offset, is_segment, e_ehsize, e_entry, e_flags, e_machine, e_phentsize, e_phnum, e_phoff, e_type, e_version}
use Rattle.elf_image.specs.Faults.{first_of, has_bad_count, holds, is_dynamic, is_out_of_file, is_out_of_place, is_write_and_execute, overlap}
use Rattle.elf_image.specs.declared.faults.TheConstants.{EI_CLASS, EI_DATA, EI_VERSION, ELF_HEADER_SIZE, ELFCLASS32, ELFDATA2LSB, ET_EXEC}
use Rattle.elf_image.specs.declared.header.TheConstants.{E_TYPE, E_MACHINE, E_VERSION, E_ENTRY, E_PHOFF, E_FLAGS, E_EHSIZE, E_PHENTSIZE, E_PHNUM, PROGRAM_HEADER_SIZE}
use Rattle.elf_image.specs.declared.layout.TheConstants.{MAX_FILE_SIZE, MAX_SEGMENTS}
use Rattle.elf_image.specs.declared.error.ElfError.{ElfError}
use Rattle.elf_image.specs.declared.error.ElfError.TheVariants as error
use Rattle.elf_image.specs.declared.header.ProgramHeader.{ProgramHeader}
use Rattle.elf_image.specs.declared.evidence.ElfEvidence.{ElfEvidence}
use Rattle.elf_image.specs.declared.evidence.ElfEvidence.TheVariants as evidence
use Rattle.elf_image.specs.declared.evidence.ElfField.{ElfField}
use Rattle.elf_image.specs.declared.evidence.ElfField.TheVariants as field
use Rattle.elf_image.specs.declared.evidence.ElfRefusal.{ElfRefusal}
use Rattle.elf_image.specs.declared.evidence.Excess.{Excess}
use Rattle.elf_image.specs.declared.evidence.Excess.TheVariants as excess
use Rattle.elf_image.specs.declared.evidence.PlacedHeader.{PlacedHeader}
use Rattle.elf_image.specs.declared.evidence.SegmentRule.{SegmentRule}
use Rattle.elf_image.specs.declared.evidence.SegmentRule.TheVariants as rule

-- ---- the fields of an ELF header

-- where a field begins in the file
abbrev pub offset_of : ElfField → ℕ
offset_of field.Magic = 0
offset_of field.Class = EI_CLASS
offset_of field.Order = EI_DATA
offset_of field.IdentVersion = EI_VERSION
offset_of field.Type = E_TYPE
offset_of field.Machine = E_MACHINE
offset_of field.Version = E_VERSION
offset_of field.Entry = E_ENTRY
offset_of field.TableOffset = E_PHOFF
offset_of field.Flags = E_FLAGS
offset_of field.HeaderSize = E_EHSIZE
offset_of field.EntrySize = E_PHENTSIZE
offset_of field.EntryCount = E_PHNUM

-- the number that stands there
abbrev pub number_in : List ℕ → ElfField → ℕ
number_in file field.Magic = word_at 0 file
number_in file field.Class = slice_index file EI_CLASS
number_in file field.Order = slice_index file EI_DATA
number_in file field.IdentVersion = slice_index file EI_VERSION
number_in file field.Type = e_type file
number_in file field.Machine = e_machine file
number_in file field.Version = e_version file
number_in file field.Entry = e_entry file
number_in file field.TableOffset = e_phoff file
number_in file field.Flags = e_flags file
number_in file field.HeaderSize = e_ehsize file
number_in file field.EntrySize = e_phentsize file
number_in file field.EntryCount = e_phnum file

-- a field, with its place and its number
abbrev pub field_evidence : List ℕ → ElfField → ElfEvidence
field_evidence file f = evidence.Field f (offset_of f) (number_in file f)

-- of class, order of bytes and version the first that is not as wanted
abbrev pub ident_field : List ℕ → ElfField
ident_field file =
    if not (slice_index file EI_CLASS == ELFCLASS32) then field.Class
    else (if not (slice_index file EI_DATA == ELFDATA2LSB) then field.Order else field.IdentVersion)

-- e_type where it is not that of an executable file, else e_version
abbrev pub type_field : List ℕ → ElfField
type_field file = if not (e_type file == ET_EXEC) then field.Type else field.Version

-- the first of the sizes and the count that is wrong, else the table's offset
abbrev pub table_field : List ℕ → ElfField
table_field file =
    if not (e_ehsize file == ELF_HEADER_SIZE) then field.HeaderSize
    else (if not (e_phentsize file == PROGRAM_HEADER_SIZE) then field.EntrySize
    else (if has_bad_count file then field.EntryCount else field.TableOffset))

abbrev pub field_refusal : List ℕ → ElfError → ElfField → ElfRefusal
field_refusal file e f = record { error = e; evidence = field_evidence file f }

-- ---- program headers

-- the one with a number
abbrev pub placed_header : List ℕ → ℕ → PlacedHeader
placed_header file n = record {
  number = n;
  offset = header_offset n file;
  fields = program_header_at (header_offset n file) file;
}

-- a header breaks a rule, in a file of this size
unfoldable pub breaks : SegmentRule → ℕ → ProgramHeader → Bool
breaks rule.Static size h = is_dynamic h
breaks rule.InFile size h = is_out_of_file size h
breaks rule.InPlace size h = is_segment h && is_out_of_place h
breaks rule.WriteOrExecute size h = is_segment h && is_write_and_execute h

-- why a file is refused where one does
abbrev pub error_of : SegmentRule → ElfError
error_of rule.Static = error.NotStatic
error_of rule.InFile = error.SegmentOutOfFile
error_of rule.InPlace = error.SegmentOutOfPlace
error_of rule.WriteOrExecute = error.WriteAndExecute

-- the number of the first that does
abbrev pub first_breaking : SegmentRule → List ℕ → Option ℕ
first_breaking broken file = position (breaks broken (length file)) (program_headers file)

abbrev pub segment_evidence : SegmentRule → List ℕ → Option ℕ → ElfEvidence
segment_evidence broken file None = evidence.Nothing
segment_evidence broken file (Some n) =
    evidence.Segment broken (length file) (placed_header file n)

-- both are segments, and share an address
abbrev pub are_overlapping : ProgramHeader → ProgramHeader → Bool
are_overlapping g h = is_segment g && is_segment h && overlap g h

-- the two with the least numbers that do, of headers that are numbered from n on: the second
-- stands a number of places behind the first
abbrev pub pair_or : ℕ → Option (ℕ × ℕ) → Option ℕ → Option (ℕ × ℕ)
pair_or n rest None = rest
pair_or n rest (Some behind) = Some (n, n + 1 + behind)

unfoldable pub overlap_from : ℕ → List ProgramHeader → Option (ℕ × ℕ)
overlap_from n [] = None
overlap_from n (h ∷ hs) =
    pair_or n (overlap_from (n + 1) hs) (position (are_overlapping h) hs)

abbrev pub overlap_evidence : List ℕ → Option (ℕ × ℕ) → ElfEvidence
overlap_evidence file None = evidence.Nothing
overlap_evidence file (Some both) =
    evidence.Overlap (placed_header file both.0) (placed_header file both.1)

-- the first of a file's size, the number of its segments and their memory that is too large
abbrev pub first_excess : ℕ → List ProgramHeader → Excess
first_excess size segments =
    if nat_lt MAX_FILE_SIZE size then excess.File size
    else (if nat_lt MAX_SEGMENTS (length segments) then excess.Segments (length segments)
    else excess.Memory (sum_by (λ h. h.p_memsz) segments))

-- ---- what is known of a file that has this fault

abbrev pub evidence_of : List ℕ → ElfError → ElfEvidence
evidence_of file error.TooShort = evidence.Short (length file)
evidence_of file error.BadMagic = field_evidence file field.Magic
evidence_of file error.BadClass = field_evidence file (ident_field file)
evidence_of file error.BadType = field_evidence file (type_field file)
evidence_of file error.BadMachine = field_evidence file field.Machine
evidence_of file error.BadFlags = field_evidence file field.Flags
evidence_of file error.BadHeaderTable = field_evidence file (table_field file)
evidence_of file error.NotStatic =
    segment_evidence rule.Static file (first_breaking rule.Static file)
evidence_of file error.SegmentOutOfFile =
    segment_evidence rule.InFile file (first_breaking rule.InFile file)
evidence_of file error.SegmentOutOfPlace =
    segment_evidence rule.InPlace file (first_breaking rule.InPlace file)
evidence_of file error.SegmentsOverlap =
    overlap_evidence file (overlap_from 0 (program_headers file))
evidence_of file error.WriteAndExecute =
    segment_evidence rule.WriteOrExecute file (first_breaking rule.WriteOrExecute file)
evidence_of file error.TooLarge =
    evidence.Large (first_excess (length file) (segment_headers file))
evidence_of file error.EntryNotCode = evidence.NoCode (e_entry file) (segment_headers file)
evidence_of file error.TwoCertificates = evidence.Certificates
evidence_of file error.CertificateThere = evidence.Nothing
evidence_of file error.NoMemory = evidence.Nothing

-- a fault, with what is known of it
abbrev pub refusal_of : List ℕ → ElfError → ElfRefusal
refusal_of file e = record { error = e; evidence = evidence_of file e }

-- the refusal of a file that has this fault, or has not
abbrev pub refusal_if : List ℕ → ElfError → Option ElfRefusal
refusal_if file e = if holds e file then Some (refusal_of file e) else None

-- the first fault of a list that is wrong with the file, with what is known of it
abbrev pub first_refusal : List ElfError → List ℕ → Option ElfRefusal
first_refusal faults file = option_map (refusal_of file) (first_of faults file)
