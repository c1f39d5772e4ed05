-- A try of any image on the host's own bytes: which run it is, and what the host learns of it.
use Rattle.std.specs.Prelude.{ℕ, ◌≡◌, ◌==◌, ◌||◌, Bool, List, [], ◌∷◌, length, min, None, Some, if◌then◌else◌}
use Rattle.elf_image.specs.Faults.{fault_of}
use Rattle.elf_image.specs.File.{image_of}
use Rattle.elf_image.specs.Image.{ImageView}
use Rattle.region_mem.specs.Faults.{number_of}
use Rattle.region_mem.specs.Parameter.{Argument}
use Rattle.region_mem.specs.declared.faults.Fault.{Fault}
use Rattle.region_mem.specs.declared.faults.Fault.TheVariants.{Illegal, FetchFault, LoadFault, StoreFault, JumpMisaligned}
use Rattle.region_mem.specs.declared.parameter.Mode.TheVariants.{Read, ReadWrite}
use Rattle.region_mem.specs.declared.parameter.Param.{Param}
use Rattle.region_mem.specs.declared.parameter.Param.TheVariants as param
use Rattle.sandbox_run.specs.Answer.{answer_of}
use Rattle.sandbox_run.specs.declared.outcome.Final.{Final}
use Rattle.sandbox_run.specs.declared.outcome.Outcome.{Outcome}
use Rattle.sandbox_run.specs.declared.outcome.Outcome.TheVariants as outcomes
use Rattle.machine.specs.Run.{outcome}
use Rattle.machine.specs.Start.{start}
use Rattle.vreg_groups.specs.VectorLength.{vlenb_of}
use Rattle.vreg_groups.specs.declared.policies.Agnostic.{Agnostic}
use Rattle.vreg_groups.specs.declared.vector_length.Vlen.{Vlen}
use Rattle.rvvbox_c.specs.Accept.{vlen_at, agnostic_at}
use Rattle.rvvbox_c.specs.Forms.{all_in, all_left, forms_of}
use Rattle.rvvbox_c.specs.Status.{code_of}
use Rattle.rvvbox_c.specs.declared.calls.Setting.{Setting}
use Rattle.rvvbox_c.specs.declared.forms.Form.{Form}
use Rattle.rvvbox_c.specs.declared.forms.Forms.{Forms}
use Rattle.rvvbox_c.specs.declared.status.Status.TheVariants as status
use Rattle.rvvbox_c.specs.declared.tries.Stopped.{Stopped}
use Rattle.rvvbox_c.specs.declared.tries.Tried.{Tried}

-- how many bytes there are, or 2^32 - 1 where there are more
abbrev pub size_in : List ℕ → ℕ
size_in bytes = min (length bytes) 0xFFFF_FFFF

-- what a try lets an image take at a place: a number of this one value, or as many bytes
abbrev pub param_in : Form → List ℕ → List ℕ → Param
param_in form read put =
    if form.kind == 0 then param.None
    else (if form.kind == 1 then param.Scalar form.value form.value
    else (if form.kind == 3 then param.Buffer Read (size_in read)
    else param.Buffer ReadWrite (size_in put)))

abbrev pub params_in : List Form → List (List ℕ) → List (List ℕ) → List Param
params_in [] reads puts = []
params_in (form ∷ forms) [] puts = []
params_in (form ∷ forms) (read ∷ reads) [] = []
params_in (form ∷ forms) (read ∷ reads) (put ∷ puts) =
    param_in form read put ∷ params_in forms reads puts

-- ---- what the host learns

-- the number of a fault
abbrev pub fault_number : Fault → ℕ
fault_number (Illegal word) = 1
fault_number (FetchFault pc) = 2
fault_number (LoadFault address) = 3
fault_number (StoreFault address) = 4
fault_number (JumpMisaligned target) = 5

-- where a run stopped in its last state, by a fault of this number with this word or address
abbrev pub stopped_at : {vlenb : ℕ} → ℕ → ℕ → Final vlenb (List ℕ) → Stopped
stopped_at fault number last = record {
  fault = fault;
  number = number;
  pc = last.registers.pc;
  reserved = 0;
  steps = last.steps;
}

-- what comes of an outcome, with the arguments as they then stand
abbrev pub tried_of : {vlenb : ℕ} → Outcome vlenb (List ℕ) → Tried
tried_of (outcomes.Ended last) =
    record { status = status.Done; stopped = stopped_at 0 0 last; args = last.args }
tried_of (outcomes.Trapped fault last) = record {
  status = status.Trapped;
  stopped = stopped_at (fault_number fault) (number_of fault) last;
  args = last.args;
}
tried_of (outcomes.OutOfSteps last) =
    record { status = status.OutOfSteps; stopped = stopped_at 0 0 last; args = last.args }

-- the number is the status of a try that was done
abbrev pub is_tried : ℕ → Bool
is_tried number = number == code_of status.Done || number == code_of status.Trapped
    || number == code_of status.OutOfSteps

-- ---- which run it is

-- what comes of a run of the image on these arguments, for at most `max` steps
abbrev pub tried_from : ℕ → Agnostic → ℕ → ImageView → List Param → List Argument → Tried
tried_from vlenb agnostic max image params args =
    tried_of (answer_of vlenb (outcome vlenb max (start vlenb agnostic image params args)))

-- It comes of the image that the file spells, at the setting, on what the forms name.
pub record IsTry (file : List ℕ) (setting : Setting) (forms : Forms) (reads puts : List (List ℕ))
    (tried : Tried) : Type 0 where
  pub faultless : fault_of file ≡ None
  pub vlen : Vlen
  pub bits : vlen_at setting.vlen ≡ Some vlen
  pub agnostic : Agnostic
  pub numbered : agnostic_at setting.agnostic ≡ Some agnostic
  pub run : tried ≡ tried_from (vlenb_of vlen) agnostic setting.max (image_of file)
      (params_in (forms_of forms) reads puts) (all_in (forms_of forms) reads puts)

-- Such a try was done: its status and where it stopped are told, and its last buffers stand at the
-- places that are put back.
pub record HasTried (file : List ℕ) (setting : Setting) (forms : Forms)
    (reads old new : List (List ℕ)) (number : ℕ) (stopped : Stopped) : Type 0 where
  pub tried : Tried
  pub try : IsTry file setting forms reads old tried
  pub status : number ≡ code_of tried.status
  pub told : stopped ≡ tried.stopped
  pub put : new ≡ all_left tried.args.places (forms_of forms) old
