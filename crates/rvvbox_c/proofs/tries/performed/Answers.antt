-- The image is that of the file, and nothing is refused before it is run.
use Rattle.std.specs.Option.{option_map, option_or}
use Rattle.std.proofs.Common.{◌≡◌, IfSome, Option, None, Some, sym}
use Rattle.elf_image.specs.declared.error.ElfError.{ElfError}
use Rattle.elf_image.specs.Faults.{fault_of}
use Rattle.elf_image.specs.File.{image_of}
use Rattle.rvvbox_c.specs.Answers.{asked_to_try}
use Rattle.rvvbox_c.specs.Forms.{bytes_of}
use Rattle.rvvbox_c.specs.Status.{image_refusal}
use Rattle.rvvbox_c.specs.declared.status.Refusal.{Refusal}
use Rattle.rvvbox_c.proofs.TryLemmas.{no_fault, none_before, try_of, where_none}
use Rattle.rvvbox_c.proofs.tries.performed.Goals as goal

-- where nothing is refused at once
not_at_once : (asked : Option Refusal) (fault : Option ElfError) (P : Refusal → Type 0)
    → asked ≡ None → fault ≡ None → IfSome (option_or asked (option_map image_refusal fault)) P
not_at_once None None P none nothing = tt
not_at_once (Some told) fault P none nothing = absurd (cc)
not_at_once None (Some e) P none nothing = absurd (cc)

pub returns-clause-tried : goal.returns-clause-tried
returns-clause-tried c =
    let faultless : fault_of c.args.file.now ≡ None = no_fault _ c.in_ok-image.image c.in_ok-image.ensures.refused in
    let is : c.in_ok-image.image ≡ image_of c.args.file.now =
    where_none (c.in_ok-image.image ≡ image_of c.args.file.now) _ faultless c.in_ok-image.ensures.image in
    try_of c.args.file.now c.args.setting.now c.args.forms.now
    (bytes_of c.args.reads.now) (bytes_of c.args.puts.now)
    c.in_ok-vlen.vlen c.in_ok-vlen.agnostic _ _ faultless is c.in_ok-vlen.ensures.vlen c.in_ok-vlen.ensures.agnostic c.tried_on.ensures.tried

pub returns-clause-refused : goal.returns-clause-refused
returns-clause-refused c =
    none_before _ (fault_of c.args.file.now) _ _ (sym c.in_ok-vlen.ensures.refused)
    (no_fault _ c.in_ok-image.image c.in_ok-image.ensures.refused) c.tried_on.ensures.refused

pub returns-clause-at_once : goal.returns-clause-at_once
returns-clause-at_once c =
    not_at_once (asked_to_try c.args.setting.now c.args.forms.now) (fault_of c.args.file.now) _ (sym c.in_ok-vlen.ensures.refused)
    (no_fault _ c.in_ok-image.image c.in_ok-image.ensures.refused)
