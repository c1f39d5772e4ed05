-- A file of the ELF standard, 32 bits and little-endian: the fields of its header, its table of
-- program headers, and the image that it has. Names are the standard's.
use Rattle.std.specs.Prelude.{◌≡◌, ℕ, ◌+◌, ◌*◌, ◌≤◌, ◌==◌, ◌&&◌, not, nat_lt, Bool, true, List, [], length, All, ◌<◌, take, drop, map, filter, bit_and, if◌then◌else◌}
use Rattle.std.specs.List.{range_with_len, flat_map, slice_get}
use Rattle.elf_image.specs.Words.{half_at, word_at}
use Rattle.elf_image.specs.Notes.{certificates_in}
use Rattle.elf_image.specs.declared.header.ProgramHeader.{ProgramHeader}
use Rattle.elf_image.specs.declared.header.TheConstants.{E_TYPE, E_MACHINE, E_VERSION, E_ENTRY, E_PHOFF, E_FLAGS, E_EHSIZE, E_PHENTSIZE, E_PHNUM, PROGRAM_HEADER_SIZE, P_TYPE, P_OFFSET, P_VADDR, P_FILESZ, P_MEMSZ, P_FLAGS, MAX_PROGRAM_HEADERS, PT_LOAD, PT_NOTE, PF_X, PF_W, PF_R}
use Rattle.elf_image.specs.declared.faults.TheConstants.{ELF_HEADER_SIZE}
use Rattle.elf_image.specs.Image.{SegmentView, ImageView, IsSegment, IsImage}

-- the fields of the ELF header
abbrev pub e_type : List ℕ → ℕ
e_type file = half_at E_TYPE file

abbrev pub e_machine : List ℕ → ℕ
e_machine file = half_at E_MACHINE file

abbrev pub e_version : List ℕ → ℕ
e_version file = word_at E_VERSION file

abbrev pub e_entry : List ℕ → ℕ
e_entry file = word_at E_ENTRY file

abbrev pub e_phoff : List ℕ → ℕ
e_phoff file = word_at E_PHOFF file

abbrev pub e_flags : List ℕ → ℕ
e_flags file = word_at E_FLAGS file

abbrev pub e_ehsize : List ℕ → ℕ
e_ehsize file = half_at E_EHSIZE file

abbrev pub e_phentsize : List ℕ → ℕ
e_phentsize file = half_at E_PHENTSIZE file

abbrev pub e_phnum : List ℕ → ℕ
e_phnum file = half_at E_PHNUM file

-- the program header at an offset; p_paddr and p_align play no part
abbrev pub program_header_at : ℕ → List ℕ → ProgramHeader
program_header_at offset file = record {
  p_type = word_at (offset + P_TYPE) file;
  p_offset = word_at (offset + P_OFFSET) file;
  p_vaddr = word_at (offset + P_VADDR) file;
  p_filesz = word_at (offset + P_FILESZ) file;
  p_memsz = word_at (offset + P_MEMSZ) file;
  p_flags = word_at (offset + P_FLAGS) file;
}

-- where the program header with a number begins: they lie one after the other from e_phoff on
abbrev pub header_offset : ℕ → List ℕ → ℕ
header_offset number file = e_phoff file + PROGRAM_HEADER_SIZE * number

-- the table: e_phnum program headers
unfoldable pub program_headers : List ℕ → List ProgramHeader
program_headers file =
    map (λ i. program_header_at (header_offset i file) file) (range_with_len 0 (e_phnum file))

-- the ELF header and the table are inside the file, and the table isn't too long
pub record HasTable (file : List ℕ) : Type 0 where
  pub header : ELF_HEADER_SIZE ≤ length file
  pub count : e_phnum file ≤ MAX_PROGRAM_HEADERS
  pub inside : e_phoff file + PROGRAM_HEADER_SIZE * e_phnum file ≤ length file

-- a header's type
abbrev pub is_load : ProgramHeader → Bool
is_load h = h.p_type == PT_LOAD

abbrev pub is_note : ProgramHeader → Bool
is_note h = h.p_type == PT_NOTE

-- a loadable segment that has bytes in memory
abbrev pub is_segment : ProgramHeader → Bool
is_segment h = is_load h && nat_lt 0 h.p_memsz

-- the program headers of the segments, in their order
abbrev pub segment_headers : List ℕ → List ProgramHeader
segment_headers file = filter is_segment (program_headers file)

-- a header's flags
abbrev pub is_executable : ProgramHeader → Bool
is_executable h = not (bit_and h.p_flags PF_X == 0)

abbrev pub is_writable : ProgramHeader → Bool
is_writable h = not (bit_and h.p_flags PF_W == 0)

abbrev pub is_readable : ProgramHeader → Bool
is_readable h = not (bit_and h.p_flags PF_R == 0)

-- the bytes of the file that are a segment's
abbrev pub file_part : List ℕ → ProgramHeader → List ℕ
file_part file h = take h.p_filesz (drop h.p_offset file)

-- the segment of a program header
unfoldable pub segment_of : List ℕ → ProgramHeader → SegmentView
segment_of file h = record {
  address = h.p_vaddr;
  bytes = file_part file h;
  memory_size = h.p_memsz;
  read = is_readable h;
  write = is_writable h;
  execute = is_executable h;
}

-- the certificates of a file: those in its note segments, in the order of the program headers
abbrev pub certificates_at : List ℕ → ProgramHeader → List (List ℕ)
certificates_at file h = if is_note h then certificates_in (file_part file h) else []

unfoldable pub certificates_of : List ℕ → List (List ℕ)
certificates_of file = flat_map (certificates_at file) (program_headers file)

-- the image of a file in which nothing is wrong
unfoldable pub image_of : List ℕ → ImageView
image_of file = record {
  entry = e_entry file;
  segments = map (segment_of file) (segment_headers file);
  certificate = slice_get (certificates_of file) 0;
}

-- a segment's bytes, if it has any in the file, lie in it
abbrev pub IsInside : List ℕ → ProgramHeader → Type 0
IsInside file h = 0 < h.p_filesz → h.p_offset + h.p_filesz ≤ length file

-- What is true of each segment is true of the header's, and its bytes lie in the file.
pub record IsLoadable (file : List ℕ) (h : ProgramHeader) : Type 0 where
  pub segment : IsSegment (segment_of file h)
  pub inside : IsInside file h

-- What is true of each image is true of the file's; each of its segments can be loaded, and the
-- bytes of each of its note segments lie in the file.
pub record HasImage (file : List ℕ) : Type 0 where
  pub segments : All (IsLoadable file) (segment_headers file)
  pub notes : All (λ h. is_note h ≡ true → IsInside file h) (program_headers file)
  pub image : IsImage (image_of file)
