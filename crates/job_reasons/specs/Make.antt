-- Why no certificate is made of an image for a job, and the words for it.
use Rattle.std.specs.Prelude.{◌≡◌, ℕ, ◌-◌, ◌++◌, not, Bool, List, [], codes, length}
use Rattle.std.specs.Prelude.{position, Option, Some, None, string_bytes, if◌then◌else◌}
use Rattle.std.specs.Fmt.{decimal}
use Rattle.std.specs.List.{slice_get}
use Rattle.std.specs.Str.Lossy.{utf8_lossy}
use Rattle.elf_image.specs.Faults.{is_too_short}
use Rattle.elf_image.specs.File.{e_phnum}
use Rattle.elf_image.specs.declared.header.TheConstants.{MAX_PROGRAM_HEADERS}
use Rattle.elf_image.specs.declared.layout.TheConstants.{MAX_FILE_SIZE}
use Rattle.region_mem.specs.declared.layout.TheConstants.{MAX_BUFFER_SIZE}
use Rattle.elf_image.specs.declared.error.ElfError.{ElfError}
use Rattle.elf_image.specs.declared.error.ElfError.TheVariants as error
use Rattle.region_mem.specs.Parameter.{is_valid}
use Rattle.region_mem.specs.declared.parameter.Param.{Param}
use Rattle.region_mem.specs.declared.parameter.Param.TheVariants as parameter
use Rattle.rv_listing.specs.Listing.{listing_text}
use Rattle.explanations.specs.Words.{listing_line, word_line}
use Rattle.cert_maker.specs.declared.refusal.LoopRow.{LoopRow}
use Rattle.cert_maker.specs.declared.refusal.LoopRow.TheVariants as row
use Rattle.cert_maker.specs.declared.refusal.Misfit.{Misfit}
use Rattle.job_reasons.specs.declared.make.MakeReason.{MakeReason}
use Rattle.job_reasons.specs.declared.make.MakeReason.TheVariants as reason

-- ---- a word that does not fit

-- what a reason holds of the word at an address: the word, if there is one, and how it is listed
abbrev pub IsWordTold : ℕ → LoopRow → Option ℕ → MakeReason → Type 0
IsWordTold pc wanted None told = told ≡ reason.NoWord pc wanted
IsWordTold pc wanted (Some word) (reason.Word at is text of) =
    (at ≡ pc) × (is ≡ word) × (string_bytes text ≡ utf8_lossy (listing_text pc word))
    × (of ≡ wanted)
IsWordTold pc wanted (Some word) (reason.NoWord at of) = ⊥
IsWordTold pc wanted (Some word) reason.Untold = ⊥
IsWordTold pc wanted (Some word) (reason.Empty place lo hi) = ⊥
IsWordTold pc wanted (Some word) (reason.LargeBuffer place size) = ⊥
IsWordTold pc wanted (Some word) (reason.Certified size) = ⊥
IsWordTold pc wanted (Some word) (reason.LargeFile size headers certificate) = ⊥

abbrev pub IsWordReason : Misfit → MakeReason → Type 0
IsWordReason misfit told = IsWordTold misfit.pc misfit.row misfit.word told

-- ---- a parameter that there can't be

abbrev pub is_invalid : Param → Bool
is_invalid param = not (is_valid param)

abbrev pub told_parameter : ℕ → Option Param → MakeReason
told_parameter place (Some (parameter.Scalar lo hi)) = reason.Empty place lo hi
told_parameter place (Some (parameter.Buffer mode size)) = reason.LargeBuffer place size
told_parameter place (Some parameter.None) = reason.Untold
told_parameter place None = reason.Untold

abbrev pub told_first : Option ℕ → List Param → MakeReason
told_first None params = reason.Untold
told_first (Some place) params = told_parameter place (slice_get params place)

-- the first parameter that there can't be
abbrev pub parameter_reason : List Param → MakeReason
parameter_reason params = told_first (position is_invalid params) params

-- ---- a file that takes no certificate

abbrev pub certificate_size : Option (List ℕ) → ℕ
certificate_size None = 0
certificate_size (Some bytes) = length bytes

abbrev pub told_large : List ℕ → ℕ → MakeReason
told_large file size =
    if is_too_short file then reason.Untold
    else reason.LargeFile (length file) (e_phnum file) size

-- why a certificate of `size` bytes is not attached to a file, whose image has this one
abbrev pub attach_reason : List ℕ → Option (List ℕ) → ℕ → ElfError → MakeReason
attach_reason file there size error.CertificateThere = reason.Certified (certificate_size there)
attach_reason file there size error.TooLarge = told_large file size
attach_reason file there size error.TooShort = reason.Untold
attach_reason file there size error.BadMagic = reason.Untold
attach_reason file there size error.BadClass = reason.Untold
attach_reason file there size error.BadType = reason.Untold
attach_reason file there size error.BadMachine = reason.Untold
attach_reason file there size error.BadFlags = reason.Untold
attach_reason file there size error.BadHeaderTable = reason.Untold
attach_reason file there size error.NotStatic = reason.Untold
attach_reason file there size error.SegmentOutOfFile = reason.Untold
attach_reason file there size error.SegmentOutOfPlace = reason.Untold
attach_reason file there size error.SegmentsOverlap = reason.Untold
attach_reason file there size error.WriteAndExecute = reason.Untold
attach_reason file there size error.EntryNotCode = reason.Untold
attach_reason file there size error.TwoCertificates = reason.Untold
attach_reason file there size error.NoMemory = reason.Untold

-- ---- the words

abbrev pub later_wanted : List ℕ
later_wanted =
    codes "  wanted: what goes on with these words: rows 3 to 8 of a plain loop (docs/MAKE.md)\n"

abbrev pub row_wanted : LoopRow → List ℕ
row_wanted row.Count =
    codes "  wanted: beqz n,end, where n is a scalar: row 1 of a plain loop (docs/MAKE.md)\n"
row_wanted row.Length =
    codes "  wanted: vsetvli t,n: row 2 of a plain loop (docs/MAKE.md)\n"
row_wanted row.Access = later_wanted
row_wanted row.Shift = later_wanted
row_wanted row.Later = later_wanted

-- and besides of what stands there
abbrev pub row_more : LoopRow → List ℕ
row_more row.Count = []
row_more row.Length = []
row_more row.Access = codes "  wanted of a load or store: "
    ++ codes "a buffer of all elements, and mode rw where it is stored to\n"
row_more row.Shift =
    codes "  wanted of a shift: by 1 at elements of 16 bits, by 2 at 32, and none at 8\n"
row_more row.Later = []

abbrev pub row_lines : LoopRow → List ℕ
row_lines wanted = row_wanted wanted ++ row_more wanted

abbrev pub room_wanted : List ℕ
room_wanted = codes "  wanted: at most " ++ (decimal (MAX_PROGRAM_HEADERS - 1)
    ++ (codes " of them, and at most " ++ (decimal MAX_FILE_SIZE
    ++ codes " bytes with one more and the certificate\n")))

-- a scalar that no number is: the number lo, and that it is above hi
abbrev pub empty_lines : ℕ → ℕ → ℕ → List ℕ
empty_lines place lo hi = codes "  lo of the param at place "
    ++ (decimal place ++ (codes ": " ++ (decimal lo ++ (codes "\n  wanted: at most its hi, "
    ++ (decimal hi ++ codes "\n")))))

-- a buffer that is too large
abbrev pub large_buffer_lines : ℕ → ℕ → List ℕ
large_buffer_lines place size = codes "  size of the param at place "
    ++ (decimal place ++ (codes ": " ++ (decimal size ++ (codes "\n  wanted: at most "
    ++ (decimal MAX_BUFFER_SIZE ++ codes "\n")))))

abbrev pub bare_wanted : List ℕ
bare_wanted = codes "  wanted: an image with no certificate\n"

abbrev pub size_lines : ℕ → ℕ → List ℕ
size_lines size certificate = codes "  size of the file: "
    ++ (decimal size ++ (codes "\n  size of the certificate: "
    ++ (decimal certificate ++ codes "\n")))

-- the lines of a reason
abbrev pub make_text : MakeReason → List ℕ
make_text reason.Untold = []
make_text (reason.NoWord pc wanted) = word_line pc None ++ row_lines wanted
make_text (reason.Word pc word listing wanted) =
    word_line pc (Some word) ++ (listing_line (Some listing) ++ row_lines wanted)
make_text (reason.Empty place lo hi) = empty_lines place lo hi
make_text (reason.LargeBuffer place size) = large_buffer_lines place size
make_text (reason.Certified size) = codes "  there: a certificate of "
    ++ (decimal size ++ (codes " bytes\n" ++ bare_wanted))
make_text (reason.LargeFile size headers certificate) = size_lines size certificate
    ++ (codes "  program headers: " ++ (decimal headers ++ (codes "\n" ++ room_wanted)))
