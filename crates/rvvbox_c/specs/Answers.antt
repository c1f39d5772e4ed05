-- What each call answers: what is wrong before memory is asked for, and what comes later.
use Rattle.std.specs.Prelude.{ℕ, ◌≡◌, ◌⊎◌, true, List, Option, None, Some}
use Rattle.std.specs.Option.{option_map, option_or}
use Rattle.block_checker.specs.Accepted.{AcceptedView}
use Rattle.elf_image.specs.Faults.{fault_of}
use Rattle.region_mem.specs.Parameter.{parameters_of}
use Rattle.sandbox_run.specs.Session.{open_fault}
use Rattle.vreg_groups.specs.VectorLength.{vlenb_of}
use Rattle.rvvbox_c.specs.Accept.{agnostic_at, vlen_at}
use Rattle.rvvbox_c.specs.Forms.{all_in, forms_of, place_of_no_kind}
use Rattle.rvvbox_c.specs.Runs.{open_refusal}
use Rattle.rvvbox_c.specs.Status.{IsThisOrWant, at_place, image_refusal, lacking, plain}
use Rattle.rvvbox_c.specs.Tries.{is_tried, params_in}
use Rattle.rvvbox_c.specs.declared.calls.Setting.{Setting}
use Rattle.rvvbox_c.specs.declared.forms.Forms.{Forms}
use Rattle.rvvbox_c.specs.declared.status.Refusal.{Refusal}
use Rattle.rvvbox_c.specs.declared.status.Status.{Status}
use Rattle.rvvbox_c.specs.declared.status.Status.TheVariants as status

-- ---- before memory is asked for

-- a length of registers that is none
abbrev pub length_fault : ℕ → Option Status
length_fault bits = lacking (vlen_at bits) status.BadVlen

-- a setting for agnostic elements that is none
abbrev pub agnostic_fault : ℕ → Option Status
agnostic_fault number = lacking (agnostic_at number) status.BadAgnostic

abbrev pub setting_fault : Setting → Option Status
setting_fault setting =
    option_or (length_fault setting.vlen) (agnostic_fault setting.agnostic)

-- an argument of no kind
abbrev pub kind_refusal : Forms → Option Refusal
kind_refusal forms = option_map (at_place status.BadKind) (place_of_no_kind forms)

abbrev pub asked_refusal : ℕ → Forms → Option Refusal
asked_refusal agnostic forms =
    option_or (option_map plain (agnostic_fault agnostic)) (kind_refusal forms)

-- ---- a run

abbrev pub run_refusal :
    ℕ → ℕ → Forms → List (List ℕ) → List (List ℕ) → AcceptedView → Option Refusal
run_refusal agnostic max forms reads puts a =
    option_or (asked_refusal agnostic forms) (option_map (open_refusal a forms)
    (open_fault (vlenb_of a.vlen) a (all_in (forms_of forms) reads puts) max))

-- of what a kernel keeps
abbrev pub kept_at_once : ℕ → Forms → Option AcceptedView → Option Refusal
kept_at_once agnostic forms None = Some (plain status.NothingKept)
kept_at_once agnostic forms (Some a) = asked_refusal agnostic forms

abbrev pub kept_refusal :
    ℕ → ℕ → Forms → List (List ℕ) → List (List ℕ) → Option AcceptedView → Option Refusal
kept_refusal agnostic max forms reads puts None = Some (plain status.NothingKept)
kept_refusal agnostic max forms reads puts (Some a) =
    run_refusal agnostic max forms reads puts a

-- ---- a file that is tried

-- buffers beyond what a try allows
abbrev pub size_fault : Forms → List (List ℕ) → List (List ℕ) → Option Status
size_fault forms reads puts =
    lacking (parameters_of (params_in (forms_of forms) reads puts)) status.TooLarge

-- what is wrong before the file is read
abbrev pub asked_to_try : Setting → Forms → Option Refusal
asked_to_try setting forms =
    option_or (option_map plain (setting_fault setting)) (kind_refusal forms)

-- what is wrong before memory is asked for
abbrev pub tried_at_once : List ℕ → Setting → Forms → Option Refusal
tried_at_once file setting forms =
    option_or (asked_to_try setting forms) (option_map image_refusal (fault_of file))

abbrev pub try_refusal :
    List ℕ → Setting → Forms → List (List ℕ) → List (List ℕ) → Option Refusal
try_refusal file setting forms reads puts =
    option_or (tried_at_once file setting forms)
    (option_map plain (size_fault forms reads puts))

-- The refusal is that of what is wrong, of a try that was done where nothing is, or of want of
-- memory.
abbrev pub IsTryAnswer : Option Refusal → Refusal → Type 0
IsTryAnswer (Some told) refusal = IsThisOrWant told refusal
IsTryAnswer None refusal =
    ((s : Status) × (refusal ≡ plain s) × (is_tried refusal.status ≡ true))
    ⊎ (refusal ≡ plain status.NoMemory)
