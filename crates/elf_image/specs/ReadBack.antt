-- What a file with a certificate is read as: the image of the file, and the certificate.
use Rattle.std.specs.Prelude.{◌≡◌, ℕ, ◌+◌, ◌≤◌, ◌&&◌, ◌||◌, nat_lt, Bool, true, false, List, length, map, All, Some, None}
use Rattle.elf_image.specs.declared.header.ProgramHeader.{ProgramHeader}
use Rattle.elf_image.specs.declared.faults.TheConstants.{ELF_HEADER_SIZE}
use Rattle.elf_image.specs.declared.header.TheConstants.{E_PHOFF, E_PHNUM}
use Rattle.elf_image.specs.Image.{ImageView}
use Rattle.elf_image.specs.File.{e_entry, program_headers, segment_headers, is_note, segment_of, image_of}
use Rattle.elf_image.specs.Faults.{fault_of}
use Rattle.elf_image.specs.Attached.{attach_fault, attached_of, patched_of}

-- some of a number of bytes of the file, from an offset on, are the segment's
abbrev pub covers : ℕ → ℕ → ProgramHeader → Bool
covers offset size h =
    nat_lt 0 h.p_filesz && nat_lt h.p_offset (offset + size)
    && nat_lt offset (h.p_offset + h.p_filesz)

-- some bytes of e_phoff (Elf32_Off) or of e_phnum (Elf32_Half) are, which a certificate changes
unfoldable pub is_changed : ProgramHeader → Bool
is_changed h = covers E_PHOFF 4 h || covers E_PHNUM 2 h

-- the bytes of each note segment stay as they are
abbrev pub NotesAreKept : List ℕ → Type 0
NotesAreKept file = All (λ h. is_note h ≡ true → is_changed h ≡ false) (program_headers file)

-- the image of the file, whose segments show the new e_phoff and e_phnum, with the certificate
unfoldable pub image_with : List ℕ → List ℕ → ImageView
image_with file cert = record {
  entry = e_entry file;
  segments = map (segment_of (patched_of file)) (segment_headers file);
  certificate = Some cert;
}

-- A file to which a certificate is attached has no fault, and is read as the image of the file with
-- the certificate.
abbrev pub AttachedIsRead : Type 0
AttachedIsRead =
    (file cert : List ℕ) → attach_fault file cert ≡ None → NotesAreKept file
    → (fault_of (attached_of file cert) ≡ None)
    × (image_of (attached_of file cert) ≡ image_with file cert)

-- A segment that shows neither e_phoff nor e_phnum stays as it is.
abbrev pub SegmentsAreKept : Type 0
SegmentsAreKept =
    (file : List ℕ) (h : ProgramHeader) → ELF_HEADER_SIZE ≤ length file → is_changed h ≡ false
    → segment_of (patched_of file) h ≡ segment_of file h
