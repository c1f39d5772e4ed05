-- Program headers of a file, in lines.
use Rattle.std.specs.Prelude.{ℕ, ◌+◌, ◌++◌, Bool, true, false, List, [], codes}
use Rattle.std.specs.Fmt.{decimal}
use Rattle.std.specs.List.{flat_map}
use Rattle.elf_image.specs.File.{is_executable, is_readable, is_writable}
use Rattle.elf_image.specs.declared.evidence.PlacedHeader.{PlacedHeader}
use Rattle.elf_image.specs.declared.evidence.SegmentRule.{SegmentRule}
use Rattle.elf_image.specs.declared.evidence.SegmentRule.TheVariants as rule
use Rattle.elf_image.specs.declared.header.ProgramHeader.{ProgramHeader}
use Rattle.explanations.specs.Address.{address_text}

abbrev pub place_line : PlacedHeader → List ℕ
place_line h = codes "  program header " ++ (decimal h.number ++ (codes " at byte "
    ++ (decimal h.offset ++ codes " of the file:\n")))

abbrev pub address_line : ProgramHeader → List ℕ
address_line h = codes "  p_type " ++ (decimal h.p_type ++ (codes ", p_offset "
    ++ (decimal h.p_offset ++ (codes ", p_vaddr " ++ (address_text h.p_vaddr ++ codes "\n")))))

abbrev pub size_line : ProgramHeader → List ℕ
size_line h = codes "  p_filesz " ++ (decimal h.p_filesz ++ (codes ", p_memsz "
    ++ (decimal h.p_memsz ++ (codes ", p_flags " ++ (decimal h.p_flags ++ codes "\n")))))

unfoldable pub header_text : PlacedHeader → List ℕ
header_text h = place_line h ++ (address_line h.fields ++ size_line h.fields)

-- what may be done in a segment, by three rights
abbrev pub rights_in : Bool → Bool → Bool → List ℕ
rights_in true true true = codes "read, write, execute"
rights_in true true false = codes "read, write"
rights_in true false true = codes "read, execute"
rights_in true false false = codes "read"
rights_in false true true = codes "write, execute"
rights_in false true false = codes "write"
rights_in false false true = codes "execute"
rights_in false false false = codes "neither read nor write nor execute"

abbrev pub rights_text : ProgramHeader → List ℕ
rights_text h = rights_in (is_readable h) (is_writable h) (is_executable h)

abbrev pub segment_line : ProgramHeader → List ℕ
segment_line h = codes "  segment from " ++ (address_text h.p_vaddr ++ (codes " and below "
    ++ (address_text (h.p_vaddr + h.p_memsz) ++ (codes ": " ++ (rights_text h ++ codes "\n")))))

unfoldable pub segment_lines : List ProgramHeader → List ℕ
segment_lines segments = flat_map segment_line segments

-- the size of the file, where the rule is on it
abbrev pub file_line : SegmentRule → ℕ → List ℕ
file_line rule.Static size = []
file_line rule.InFile size = codes "  size of the file: " ++ (decimal size ++ codes "\n")
file_line rule.InPlace size = []
file_line rule.WriteOrExecute size = []

abbrev pub rule_text : SegmentRule → List ℕ
rule_text rule.Static = codes "  wanted: no p_type 2, 3 or 7\n  remedy: link with -static\n"
rule_text rule.InFile =
    codes "  wanted: p_offset + p_filesz within the file, and p_filesz at most p_memsz\n"
rule_text rule.InPlace =
    codes "  wanted: all in 0x00001000..0x20000000 or all in 0x80000000..0xc0000000\n"
rule_text rule.WriteOrExecute = codes "  wanted: p_flags without 1 (execute) or without 2 (write)\n"
