-- The words for a reason to stop.
use Rattle.std.specs.Prelude.{ℕ, List, [], ◌++◌, codes}
use Rattle.block_checker.specs.Refusals.{address_of, at_address, name_of}
use Rattle.cert_maker.specs.Make as maker
use Rattle.cert_maker.specs.declared.errors.MakeError.{MakeError}
use Rattle.cert_note.specs.declared.refusals.CertError.TheVariants as certificate_error
use Rattle.elf_image.specs.declared.error.ElfError.TheVariants as image_error
use Rattle.job_file.specs.declared.values.JobError.TheVariants as job_error
use Rattle.job_reasons.specs.Escaped.{escaped_text}
use Rattle.sandbox_run.specs.declared.outcome.OpenError.TheVariants as open_error
use Rattle.endings.specs.Words.{CertError, CheckError, ElfError, JobError, OpenError, Stop}
use Rattle.endings.specs.declared.stop.Stop.TheVariants as stop

-- ---- the names of errors

abbrev pub job_error_name : JobError → List ℕ
job_error_name job_error.NotToml = codes "NotToml"
job_error_name job_error.BadKey = codes "BadKey"
job_error_name job_error.NoMemory = codes "NoMemory"

abbrev pub image_error_name : ElfError → List ℕ
image_error_name image_error.TooShort = codes "TooShort"
image_error_name image_error.BadMagic = codes "BadMagic"
image_error_name image_error.BadClass = codes "BadClass"
image_error_name image_error.BadType = codes "BadType"
image_error_name image_error.BadMachine = codes "BadMachine"
image_error_name image_error.BadFlags = codes "BadFlags"
image_error_name image_error.BadHeaderTable = codes "BadHeaderTable"
image_error_name image_error.NotStatic = codes "NotStatic"
image_error_name image_error.SegmentOutOfFile = codes "SegmentOutOfFile"
image_error_name image_error.SegmentOutOfPlace = codes "SegmentOutOfPlace"
image_error_name image_error.SegmentsOverlap = codes "SegmentsOverlap"
image_error_name image_error.WriteAndExecute = codes "WriteAndExecute"
image_error_name image_error.TooLarge = codes "TooLarge"
image_error_name image_error.EntryNotCode = codes "EntryNotCode"
image_error_name image_error.TwoCertificates = codes "TwoCertificates"
image_error_name image_error.CertificateThere = codes "CertificateThere"
image_error_name image_error.NoMemory = codes "NoMemory"

abbrev pub certificate_error_name : CertError → List ℕ
certificate_error_name certificate_error.Short = codes "Short"
certificate_error_name certificate_error.Version = codes "Version"
certificate_error_name certificate_error.Parameter = codes "Parameter"
certificate_error_name certificate_error.BlockOrder = codes "BlockOrder"
certificate_error_name certificate_error.Fact = codes "Fact"
certificate_error_name certificate_error.Equality = codes "Equality"
certificate_error_name certificate_error.Budget = codes "Budget"
certificate_error_name certificate_error.TrailingBytes = codes "TrailingBytes"
certificate_error_name certificate_error.TooMany = codes "TooMany"
certificate_error_name certificate_error.Order = codes "Order"
certificate_error_name certificate_error.NoMemory = codes "NoMemory"

-- the name of an error, without its place
abbrev pub open_error_name : OpenError → List ℕ
open_error_name (open_error.WrongKind place) = codes "WrongKind"
open_error_name (open_error.ScalarOutOfInterval place) = codes "ScalarOutOfInterval"
open_error_name (open_error.WrongSize place) = codes "WrongSize"
open_error_name open_error.BoundTooLarge = codes "BoundTooLarge"
open_error_name open_error.WrongVlen = codes "WrongVlen"
open_error_name open_error.NoMemory = codes "NoMemory"

-- ---- the lines

-- the words for a refusal of the check or of the maker: the error's name, and its address
-- where it has one
abbrev pub reason_text : CheckError → List ℕ
reason_text error = at_address (name_of error) (address_of error)

abbrev pub misfit_text : MakeError → List ℕ
misfit_text error = at_address (maker.name_of error) (maker.address_of error)

abbrev pub refused_line : List ℕ → List ℕ
refused_line name = codes "refused: " ++ (name ++ codes "\n")

-- the line that tells a reason to stop. It is empty where standard output took no text
abbrev pub stop_text : Stop → List ℕ
stop_text (stop.Job error) = codes "job: " ++ (job_error_name error ++ codes "\n")
stop_text (stop.File path) = codes "file: " ++ (escaped_text path.now ++ codes "\n")
stop_text (stop.Image error) = refused_line (image_error_name error)
stop_text stop.NoCertificate = codes "refused: NoCertificate\n"
stop_text (stop.Certificate error) = refused_line (certificate_error_name error)
stop_text (stop.Check error) = refused_line (reason_text error)
stop_text (stop.Make error) = refused_line (misfit_text error)
stop_text (stop.Open error) = refused_line (open_error_name error)
stop_text stop.Memory = codes "out of memory\n"
stop_text stop.Output = []
