-- What a file with the certificate that is made of its loop is, or why there is none.
use Rattle.std.specs.Prelude.{ℕ, ◌≡◌, ◌⊎◌, ◌==◌, List, Option, None, Some, Result, Ok, Err, if◌then◌else◌}
use Rattle.std.specs.Global.{Vec}
use Rattle.std.specs.Option.{option_or}
use Rattle.std.specs.Result.{result_map_both}
use Rattle.cert_maker.specs.Certificates as maker
use Rattle.cert_maker.specs.Loops.{loop_of}
use Rattle.cert_maker.specs.declared.errors.MakeError.TheVariants.{NotALoopOfTheClass}
use Rattle.cert_maker.specs.declared.loops.Loop.{Loop}
use Rattle.cert_note.specs.Certificate.{CertificateView}
use Rattle.cert_note.specs.Spelling.{spelling}
use Rattle.elf_image.specs.Attached.{attach_fault, attached_of}
use Rattle.elf_image.specs.Faults.{fault_of}
use Rattle.elf_image.specs.File.{image_of}
use Rattle.elf_image.specs.Image.{ImageView}
use Rattle.elf_image.specs.declared.error.ElfError.{ElfError}
use Rattle.job_reasons.specs.Make.{parameter_reason}
use Rattle.job_reasons.specs.declared.make.MakeReason.{MakeReason}
use Rattle.job_reasons.specs.declared.make.MakeReason.TheVariants as reason
use Rattle.region_mem.specs.Parameter.{parameters_of}
use Rattle.region_mem.specs.declared.parameter.Mode.TheVariants.{Read, ReadWrite}
use Rattle.region_mem.specs.declared.parameter.Param.{Param}
use Rattle.region_mem.specs.declared.parameter.Param.TheVariants as param
use Rattle.vreg_groups.specs.declared.vector_length.Vlen.{Vlen}
use Rattle.rvvbox_c.specs.Accept.{vlen_at}
use Rattle.rvvbox_c.specs.Forms.{eight, place_of_no_kind}
use Rattle.rvvbox_c.specs.Status.{at_place, image_refusal, make_refusal, plain}
use Rattle.rvvbox_c.specs.declared.facts.Parameter.{Parameter}
use Rattle.rvvbox_c.specs.declared.forms.Form.{Form}
use Rattle.rvvbox_c.specs.declared.forms.Forms.{Forms}
use Rattle.rvvbox_c.specs.declared.makes.Takes.{Takes}
use Rattle.rvvbox_c.specs.declared.status.Refusal.{Refusal}
use Rattle.rvvbox_c.specs.declared.status.Status.TheVariants as status

-- what follows a value, or the refusal
infixl 10 ◌>>=◌
abbrev pub ◌>>=◌ : {A B : Type 0} → Result A Refusal → (A → Result B Refusal) → Result B Refusal
(Ok a) >>= next = next a
(Err refusal) >>= next = Err refusal

abbrev pub or_else : {A : Type 0} → Option A → Refusal → Result A Refusal
or_else (Some a) refusal = Ok a
or_else None refusal = Err refusal

-- ---- what a kernel is to take

-- at a place, by its kind
abbrev pub param_of : Parameter → Param
param_of p =
    if p.kind == 0 then param.None
    else (if p.kind == 1 then param.Scalar p.lo p.hi
    else (if p.kind == 2 then param.Buffer ReadWrite p.size else param.Buffer Read p.size))

abbrev pub params_of : Takes → List Param
params_of t = eight (param_of t.a0) (param_of t.a1) (param_of t.a2) (param_of t.a3)
    (param_of t.a4) (param_of t.a5) (param_of t.a6) (param_of t.a7)

-- the kinds alone
abbrev pub kind_at : Parameter → Form
kind_at p = record { kind = p.kind; value = 0 }

abbrev pub kinds_of : Takes → Forms
kinds_of t = record {
  a0 = kind_at t.a0;
  a1 = kind_at t.a1;
  a2 = kind_at t.a2;
  a3 = kind_at t.a3;
  a4 = kind_at t.a4;
  a5 = kind_at t.a5;
  a6 = kind_at t.a6;
  a7 = kind_at t.a7;
}

-- at the place of the first that there can't be
abbrev pub at_told : MakeReason → Refusal
at_told (reason.Empty place lo hi) = at_place status.BadParameter place
at_told (reason.LargeBuffer place size) = at_place status.BadParameter place
at_told other = plain status.BadParameter

abbrev pub no_such : List Param → Refusal
no_such params = at_told (parameter_reason params)

abbrev pub if_of_kinds : Takes → Option ℕ → Result (List Param) Refusal
if_of_kinds takes (Some place) = Err (at_place status.BadKind place)
if_of_kinds takes None = or_else (parameters_of (params_of takes)) (no_such (params_of takes))

-- by place, each of a kind and valid
abbrev pub taken_by : Takes → Result (List Param) Refusal
taken_by takes = if_of_kinds takes (place_of_no_kind (kinds_of takes))

-- ---- the file with the certificate

abbrev pub length_in : ℕ → Result Vlen Refusal
length_in bits = or_else (vlen_at bits) (plain status.BadVlen)

abbrev pub unless_fault : {A : Type 0} → Option ElfError → A → Result A Refusal
unless_fault None a = Ok a
unless_fault (Some fault) a = Err (image_refusal fault)

-- the image that a file spells
abbrev pub image_in : List ℕ → Result ImageView Refusal
image_in file = unless_fault (fault_of file) (image_of file)

abbrev pub if_read :
    ImageView → List Param → Vlen → Result (Loop × ℕ) ℕ → Result CertificateView Refusal
if_read image params vlen (Err address) = Err (make_refusal (NotALoopOfTheClass address))
if_read image params vlen (Ok through) =
    Ok (maker.certificate_of image params vlen through.0 through.1)

-- the certificate of the loop at the entry, or the address of the first word that does not fit
abbrev pub certificate_for : ImageView → List Param → Vlen → Result CertificateView Refusal
certificate_for image params vlen = if_read image params vlen (loop_of image params)

-- the file with a certificate in a note
abbrev pub with_certificate : List ℕ → CertificateView → Result (List ℕ) Refusal
with_certificate file certificate =
    unless_fault (attach_fault file (spelling certificate))
    (attached_of file (spelling certificate))

-- the file with the certificate that is made of it, or the first refusal
abbrev pub made_of : ℕ → Takes → List ℕ → Result (List ℕ) Refusal
made_of bits takes file = do
  vlen ← length_in bits
  params ← taken_by takes
  image ← image_in file
  certificate ← certificate_for image params vlen
  with_certificate file certificate

-- ---- what is answered

-- what is wrong before memory is asked for
abbrev pub refused_by : {A : Type 0} → Result A Refusal → Option Refusal
refused_by (Ok a) = None
refused_by (Err refusal) = Some refusal

abbrev pub made_at_once : ℕ → Takes → List ℕ → Option Refusal
made_at_once bits takes file = option_or (refused_by (length_in bits))
    (option_or (refused_by (taken_by takes)) (refused_by (image_in file)))

-- the answer is what is defined, or want of memory
abbrev pub IsOrWant : {A : Type 0} → Result A Refusal → Result A Refusal → Type 0
IsOrWant defined answer = (answer ≡ defined) ⊎ (answer ≡ Err (plain status.NoMemory))

-- the refusal for an answer: its own, or that all was done
abbrev pub told : {A : Type 0} → Result A Refusal → Refusal
told (Ok done) = plain status.Done
told (Err refusal) = refusal

-- The refusal is that of the answer that is defined, or want of memory.
abbrev pub IsToldOrWant : {A : Type 0} → Result A Refusal → Refusal → Type 0
IsToldOrWant defined refusal = (refusal ≡ told defined) ⊎ (refusal ≡ plain status.NoMemory)

-- an answer's bytes, or its refusal
abbrev pub bytes_of : Result (Vec ℕ) Refusal → Result (List ℕ) Refusal
bytes_of answer = result_map_both (λ bytes. bytes.items) (λ refusal. refusal) answer

-- they are what is defined, or it is want of memory
abbrev pub AnswersBytes : Result (List ℕ) Refusal → Result (Vec ℕ) Refusal → Type 0
AnswersBytes defined answer = IsOrWant defined (bytes_of answer)
