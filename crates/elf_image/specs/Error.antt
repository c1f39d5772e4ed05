-- Why a file is refused, in words.
use Rattle.std.specs.Prelude.{ℕ, List, codes}
use Rattle.elf_image.specs.declared.error.ElfError.{ElfError}
use Rattle.elf_image.specs.declared.error.ElfError.TheVariants as error

abbrev pub error_text : ElfError → List ℕ
error_text error.TooShort = codes "the file is shorter than an ELF header"
error_text error.BadMagic = codes "the file is not an ELF file"
error_text error.BadClass = codes "the file is not of 32 bits and little-endian"
error_text error.BadType = codes "the file is not an executable"
error_text error.BadMachine = codes "the file is not for RISC-V"
error_text error.BadFlags = codes "the file needs an extension that is not there"
error_text error.BadHeaderTable = codes "the table of program headers is malformed"
error_text error.NotStatic = codes "the file is not statically linked"
error_text error.SegmentOutOfFile = codes "a segment lies outside the file"
error_text error.SegmentOutOfPlace = codes "a segment lies at an address that is not for segments"
error_text error.SegmentsOverlap = codes "two segments overlap"
error_text error.WriteAndExecute = codes "a segment can be both written and executed"
error_text error.TooLarge = codes "the file or its memory is too large"
error_text error.EntryNotCode = codes "the entry is not in code"
error_text error.TwoCertificates = codes "the file has two certificates"
error_text error.CertificateThere = codes "the file has a certificate already"
error_text error.NoMemory = codes "out of memory"
