-- Why a file is no image that runs, in words.
use Rattle.std.specs.Prelude.{ℕ, ◌==◌, ◌++◌, not, List, [], bit_and, codes, if◌then◌else◌}
use Rattle.std.specs.Fmt.{decimal}
use Rattle.elf_image.specs.declared.evidence.ElfEvidence.{ElfEvidence}
use Rattle.elf_image.specs.declared.evidence.ElfEvidence.TheVariants as evidence
use Rattle.elf_image.specs.declared.evidence.ElfField.{ElfField}
use Rattle.elf_image.specs.declared.evidence.ElfField.TheVariants as field
use Rattle.elf_image.specs.declared.evidence.Excess.{Excess}
use Rattle.elf_image.specs.declared.evidence.Excess.TheVariants as excess
use Rattle.elf_image.specs.declared.faults.TheConstants.{ELF_HEADER_SIZE, ELFCLASS32, ELFDATA2LSB, EM_RISCV, ET_EXEC, EV_CURRENT}
use Rattle.elf_image.specs.declared.header.ProgramHeader.{ProgramHeader}
use Rattle.elf_image.specs.declared.header.TheConstants.{E_ENTRY, MAX_PROGRAM_HEADERS, PROGRAM_HEADER_SIZE}
use Rattle.elf_image.specs.declared.layout.TheConstants.{MAX_FILE_SIZE, MAX_MEMORY_SIZE, MAX_SEGMENTS}
use Rattle.explanations.specs.Address.{address_text}
use Rattle.explanations.specs.Headers.{file_line, header_text, rule_text, segment_lines}

abbrev pub field_name : ElfField → List ℕ
field_name field.Magic = codes "e_ident"
field_name field.Class = codes "EI_CLASS of e_ident"
field_name field.Order = codes "EI_DATA of e_ident"
field_name field.IdentVersion = codes "EI_VERSION of e_ident"
field_name field.Type = codes "e_type"
field_name field.Machine = codes "e_machine"
field_name field.Version = codes "e_version"
field_name field.Entry = codes "e_entry"
field_name field.TableOffset = codes "e_phoff"
field_name field.Flags = codes "e_flags"
field_name field.HeaderSize = codes "e_ehsize"
field_name field.EntrySize = codes "e_phentsize"
field_name field.EntryCount = codes "e_phnum"

abbrev pub flags_wanted : ℕ → List ℕ
flags_wanted value =
    if not (bit_and value 1 == 0)
    then codes "  wanted: no compressed code\n  remedy: compile with -march=rv32im_zve32x\n"
    else (if not (bit_and value 6 == 0)
    then codes "  wanted: no floating-point ABI\n  remedy: compile with -mabi=ilp32\n"
    else codes "  wanted: no RV32E\n  remedy: compile with -march=rv32im_zve32x -mabi=ilp32\n")

-- what is wanted of a field that has this number, and the remedy where there is one
abbrev pub wanted : ElfField → ℕ → List ℕ
wanted field.Magic value = codes "  wanted: 0x464c457f, the bytes 7f, E, L, F\n"
wanted field.Class value = codes "  wanted: " ++ (decimal ELFCLASS32
    ++ codes ", 32 bits\n  remedy: compile with --target=riscv32\n")
wanted field.Order value = codes "  wanted: " ++ (decimal ELFDATA2LSB ++ codes ", little-endian\n")
wanted field.IdentVersion value = codes "  wanted: " ++ (decimal EV_CURRENT ++ codes "\n")
wanted field.Type value = codes "  wanted: " ++ (decimal ET_EXEC
    ++ codes ", an executable file\n  remedy: link with -static\n")
wanted field.Machine value = codes "  wanted: " ++ (decimal EM_RISCV
    ++ codes ", RISC-V\n  remedy: compile with --target=riscv32\n")
wanted field.Version value = codes "  wanted: " ++ (decimal EV_CURRENT ++ codes "\n")
wanted field.Entry value = codes "  wanted: a multiple of 4 in a segment that can be executed\n"
wanted field.TableOffset value =
    codes "  wanted: the table of program headers within the file\n"
wanted field.Flags value = flags_wanted value
wanted field.HeaderSize value = codes "  wanted: " ++ (decimal ELF_HEADER_SIZE ++ codes "\n")
wanted field.EntrySize value = codes "  wanted: " ++ (decimal PROGRAM_HEADER_SIZE ++ codes "\n")
wanted field.EntryCount value =
    codes "  wanted: 1 to " ++ (decimal MAX_PROGRAM_HEADERS ++ codes "\n")

abbrev pub field_place : ElfField → ℕ → List ℕ
field_place f offset = codes "  " ++ (field_name f ++ (codes " at byte "
    ++ (decimal offset ++ codes " of the file: ")))

abbrev pub field_number : ℕ → List ℕ
field_number value = decimal value ++ (codes " (" ++ (address_text value ++ codes ")\n"))

abbrev pub excess_text : Excess → List ℕ
excess_text (excess.File size) = codes "  size of the file: " ++ (decimal size
    ++ (codes " or more\n  wanted: at most " ++ (decimal MAX_FILE_SIZE ++ codes "\n")))
excess_text (excess.Segments count) = codes "  segments: "
    ++ (decimal count ++ (codes "\n  wanted: at most " ++ (decimal MAX_SEGMENTS ++ codes "\n")))
excess_text (excess.Memory size) = codes "  bytes of memory of its segments: "
    ++ (decimal size ++ (codes "\n  wanted: at most " ++ (decimal MAX_MEMORY_SIZE ++ codes "\n")))

abbrev pub entry_text : ℕ → List ProgramHeader → List ℕ
entry_text entry segments = field_place field.Entry E_ENTRY
    ++ (field_number entry ++ (segment_lines segments ++ wanted field.Entry entry))

-- the lines of what is known of a file
abbrev pub image_text : ElfEvidence → List ℕ
image_text evidence.Nothing = []
image_text (evidence.Short size) = codes "  size of the file: "
    ++ (decimal size ++ (codes "\n  wanted: at least "
    ++ (decimal ELF_HEADER_SIZE ++ codes ", an ELF header\n")))
image_text (evidence.Field f offset value) =
    field_place f offset ++ (field_number value ++ wanted f value)
image_text (evidence.Segment broken size header) =
    header_text header ++ (file_line broken size ++ rule_text broken)
image_text (evidence.Overlap first second) =
    header_text first ++ (header_text second ++ codes "  wanted: no address of both\n")
image_text (evidence.Large e) = excess_text e
image_text (evidence.NoCode entry segments) = entry_text entry segments
image_text evidence.Certificates = codes "  wanted: one note with a certificate\n"
