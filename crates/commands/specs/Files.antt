-- The files of a job: what is read before its run, and what is written after it.
use Rattle.std.specs.Prelude.{◌≡◌, ◌==◌, ◌&&◌, ◌<◌, ◌-◌, ◌^◌, ◌⊎◌, Bool, true, false, ℕ, List, [], ◌∷◌, length, get_or, take, Option, Some, None, Result, Ok, Err}
use Rattle.std.specs.List.{filter_map, zip}
use Rattle.std.specs.Str.{IsUtf8}
use Rattle.elf_image.specs.Faults.{fault_of}
use Rattle.elf_image.specs.File.{image_of}
use Rattle.elf_image.specs.declared.error.ElfError.TheVariants as fault
use Rattle.job_file.specs.declared.values.JobError.TheVariants.{NotToml}
use Rattle.job_file.specs.declared.values.RunParam.{RunParam}
use Rattle.job_file.specs.declared.values.RunParam.TheVariants as given
use Rattle.region_mem.specs.declared.arguments.Arg.TheVariants as argument
use Rattle.toml.specs.Parse.{parse_document}
use Rattle.endings.specs.Accepted.{OrMemory}
use Rattle.endings.specs.Ending.{IsOfFile, stop_of_image}
use Rattle.endings.specs.Halt.{stop_of}
use Rattle.commands.specs.Changes.{Change, Cuts, Wrote}
use Rattle.file_store.specs.Store.{Files}
use Rattle.file_store.specs.System.{IsFirst, Known}
use Rattle.endings.specs.Why.{ExplainsImage, ExplainsText}
use Rattle.commands.specs.Words.{Argument, ElfError, Gains, Halt, Held, ImageView, Members, Stop, Text, Written}
use Rattle.endings.specs.declared.did.Did.{Did}
use Rattle.endings.specs.declared.stop.Stop.TheVariants as stop

-- ---- what is read

-- what a job passes at a place: nothing, its scalar, or bytes that its file may be read as
abbrev pub IsPassed : Files → RunParam Text → Argument → Type 0
IsPassed files given.None arg = arg ≡ argument.None
IsPassed files (given.Scalar value) arg = arg ≡ argument.Scalar value
IsPassed files (given.Buffer file out) arg =
    (bytes : List ℕ) × files.holds file bytes × (arg ≡ argument.Buffer bytes)

-- place by place
abbrev pub ArePassed : Files → List (RunParam Text) → List Argument → Type 0
ArePassed files params args =
    (length args ≡ 8) × ((k : ℕ) → k < 8
    → IsPassed files (get_or params k given.None) (get_or args k argument.None))

-- the same of the file of a place, where it passes one
abbrev pub IsFirstOf : Option Known → ℕ → RunParam (List ℕ) → Argument → Type 0
IsFirstOf files most (given.Buffer file out) arg =
    (bytes : List ℕ) × IsFirst files file most bytes × (arg ≡ argument.Buffer bytes)
IsFirstOf files most other arg = Unit {0}

-- place by place
abbrev pub AreFirst : Option Known → ℕ → List (RunParam (List ℕ)) → List Argument → Type 0
AreFirst files most params args = (k : ℕ) → k < 8
    → IsFirstOf files most (get_or params k given.None) (get_or args k argument.None)

-- why what a job passes is not read: the file of a place is not, and those before it are
abbrev pub IsOfParam : Files → RunParam Text → Stop → Type 0
IsOfParam files (given.Buffer file out) reason = IsOfFile files.unread file reason
IsOfParam files other reason = ⊥

abbrev pub IsUnpassed : Files → List (RunParam Text) → Stop → Type 0
IsUnpassed files params reason =
    (place : ℕ) × IsOfParam files (get_or params place given.None) reason
    × ((k : ℕ) → k < place → (arg : Argument) × IsPassed files (get_or params k given.None) arg)

-- what there is where no fault is found, or the reason to stop
abbrev pub unless_fault : {A : Type 0} → Option ElfError → A → Result A Stop
unless_fault None a = Ok a
unless_fault (Some fault) a = Err (stop_of_image fault)

-- the image that a file spells
abbrev pub image_in : List ℕ → Result ImageView Stop
image_in file = unless_fault (fault_of file) (image_of file)

-- the file at a path spells this image
abbrev pub IsImageAt : Files → Text → ImageView → Type 0
IsImageAt files path image = (bytes : List ℕ) × files.holds path bytes × (image_in bytes ≡ Ok image)

-- whether a fault may come of what is left out: a table or a segment ends behind the last byte
abbrev pub may_lie_behind : Option ElfError → Bool
may_lie_behind (Some fault.BadHeaderTable) = true
may_lie_behind (Some fault.SegmentOutOfFile) = true
may_lie_behind other = false

-- whether the first `most` bytes of a file do not show why it is refused
abbrev pub lacks_rest : ℕ → List ℕ → Bool
lacks_rest most first = (length first == most) && may_lie_behind (fault_of first)

-- what is read of the file of an image: its first bytes, at most `most`, and all of it just where
-- these do not show why it is refused
abbrev pub IsReadSoFar : Option Known → Text → ℕ → List ℕ → Type 0
IsReadSoFar known path most bytes =
    (IsFirst known path most bytes × (lacks_rest most bytes ≡ false))
    ⊎ ((first : List ℕ) × IsFirst known path most first × (lacks_rest most first ≡ true)
    × IsFirst known path (2 ^ 64 - 1) bytes)

-- the image that the bytes of a file spell that are read
pub record IsImageOfFirst (known : Option Known) (path : Text) (most : ℕ) (image : ImageView)
    : Type 0 where
  pub bytes : List ℕ
  pub read : IsReadSoFar known path most bytes
  pub spells : image_in bytes ≡ Ok image

-- why a file spells no image: it has a fault
abbrev pub IsNoImage : List ℕ → Halt → Type 0
IsNoImage bytes why = OrMemory (image_in bytes) (Err (stop_of why)) × ExplainsImage bytes why

-- why no image is read at a path: the file is not read, or has a fault
abbrev pub IsNoImageAt : Files → Text → Halt → Type 0
IsNoImageAt files path why = IsOfFile files.unread path (stop_of why)
    ⊎ ((bytes : List ℕ) × files.holds path bytes × IsNoImage bytes why)

-- the file at a path has a text that spells this table of a job
abbrev pub IsTableAt : Files → Text → Members → Type 0
IsTableAt files path table =
    (text : List ℕ) × files.holds path text × (parse_document text ≡ Some table)

-- the same of the first bytes of the file
abbrev pub IsTableOfFirst : Option Known → Text → ℕ → Members → Type 0
IsTableOfFirst known path most table =
    (text : List ℕ) × IsFirst known path most text × (parse_document text ≡ Some table)

-- the reason of a text that spells no table: it is not UTF-8, or not TOML; memory may run out where
-- it is UTF-8
abbrev pub IsTextFault : List ℕ → Stop → Type 0
IsTextFault text (stop.Job NotToml) = (¬ (IsUtf8 text)) ⊎ (parse_document text ≡ None)
IsTextFault text stop.Memory = IsUtf8 text
IsTextFault text other = ⊥

-- why a text spells no table
abbrev pub IsNoTable : List ℕ → Halt → Type 0
IsNoTable text why = IsTextFault text (stop_of why) × ExplainsText text why

-- why no table is read at a path: the file is not read, or spells none
abbrev pub IsNoTableAt : Files → Text → Halt → Type 0
IsNoTableAt files path why = IsOfFile files.unread path (stop_of why)
    ⊎ ((text : List ℕ) × files.holds path text × IsNoTable text why)

-- the same on the table that the file at a path spells
abbrev pub OfTable : Files → Text → (Members → Did → Type 0) → Did → Type 0
OfTable files path does d = (table : Members) × IsTableAt files path table × does table d

-- why a command on a job stops: its file spells no table, or for a reason of the table. `wrote xs`
-- says that the files `xs` were written
abbrev pub StopsOfTable : Files → (Written → Type 0) → Text → (Members → Halt → Type 0) → Halt
    → Type 0
StopsOfTable files wrote path later why = (IsNoTableAt files path why × wrote [])
    ⊎ ((table : Members) × IsTableAt files path table × later table why)

-- ---- what is written

-- the file that a place has after the run, where the job names one: its path, and
-- the buffer's bytes
abbrev pub out_file : RunParam Text × Argument → Option (Text × List ℕ)
out_file (given.Buffer file (Some path), argument.Buffer bytes) = Some (path, bytes)
out_file other = None

-- the out files of places, in their order
abbrev pub outs_of : List (RunParam Text) → List Argument → Written
outs_of params args = filter_map out_file (zip params args)

-- the file was written, or the reason to stop is of its path
abbrev pub IsWritten : Files → Option Held → Option Held → Text × List ℕ
    → Result (Unit {0}) Stop → Type 0
IsWritten files old new file (Ok done) = Gains old new (file ∷ [])
IsWritten files old new file (Err reason) =
    (new ≡ old) × IsOfFile files.unwritten file.0 reason

-- the same of the out file of a place, where it has one
abbrev pub IsOutWritten : Files → Option Held → Option Held → Option (Text × List ℕ)
    → Result (Unit {0}) Stop → Type 0
IsOutWritten files old new (Some file) result = IsWritten files old new file result
IsOutWritten files old new None (Ok done) = new ≡ old
IsOutWritten files old new None (Err reason) = ⊥

-- the out files of the places before one were written, and its own was not
pub record IsUnwritten (files : Files) (wrote : Written → Type 0) (params : List (RunParam Text))
    (args : List Argument) (reason : Stop) : Type 0 where
  pub place : ℕ
  pub path : Text
  pub bytes : List ℕ
  pub out : out_file (get_or params place given.None, get_or args place argument.None)
      ≡ Some (path, bytes)
  pub before : wrote (outs_of (take place params) (take place args))
  pub why : IsOfFile files.unwritten path reason

-- all out files were written, by place, or those before the first that was not
abbrev pub AreWritten : Files → Option Held → Option Held → List (RunParam Text)
    → List Argument → Result (Unit {0}) Stop → Type 0
AreWritten files old new params args (Ok done) = Gains old new (outs_of params args)
AreWritten files old new params args (Err reason) =
    IsUnwritten files (Gains old new) params args reason

-- why a run that ended is not told by a text: an out file is not written, or, after all were,
-- standard output takes no more than the text's beginning
abbrev pub IsUnfinished : Files → Change → List (RunParam Text) → List Argument → List ℕ → Stop
    → Type 0
IsUnfinished files c params args text reason = IsUnwritten files (Wrote c) params args reason
    ⊎ ((reason ≡ stop.Output) × Cuts c text (outs_of params args))
