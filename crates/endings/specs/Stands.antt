-- Where a run stopped, and what explains why.
use Rattle.std.specs.Prelude.{◌++◌, codes, ℕ, List, [], Option, Some, None, option_map, string_bytes}
use Rattle.std.specs.Fmt.{decimal}
use Rattle.check_reasons.specs.Illegal.{illegal_in, illegal_text}
use Rattle.check_reasons.specs.Vtypes.{held_of}
use Rattle.elf_image.specs.Image.{code_at}
use Rattle.machine.specs.declared.registers.Registers.{Registers}
use Rattle.region_mem.specs.Digits.{digits_text}
use Rattle.region_mem.specs.declared.faults.Fault.TheVariants.{FetchFault, Illegal, JumpMisaligned, LoadFault, StoreFault}
use Rattle.rv_decode.specs.Decode.{meaning_of}
use Rattle.rv_decode.specs.declared.instructions.Insn.{Insn}
use Rattle.rv_listing.specs.Listing.{listing_text}
use Rattle.endings.specs.Words.{ImageView}
use Rattle.endings.specs.declared.stands.Cause.{Cause}
use Rattle.endings.specs.declared.stands.Cause.TheVariants as cause
use Rattle.endings.specs.declared.stands.Place.{Place}
use Rattle.endings.specs.declared.stands.Stand.{Stand}
use Rattle.endings.specs.declared.stands.End.{End}
use Rattle.endings.specs.declared.stands.End.TheVariants as end

-- ---- where a run stopped

abbrev pub word_line : Option (List ℕ) → List ℕ
word_line None = codes "no code"
word_line (Some listing) = listing

-- pc, and the listing of the word there
abbrev pub line_at : ℕ → Option (List ℕ) → List ℕ
line_at pc listing =
    codes "  pc " ++ (digits_text pc ++ (codes ": " ++ (word_line listing ++ codes "\n")))

abbrev pub place_text : Place → List ℕ
place_text place = line_at place.pc (option_map (λ listing. string_bytes listing) place.listing)

-- the same of an image and a pc
abbrev pub place_line : ImageView → ℕ → List ℕ
place_line image pc = line_at pc (option_map (λ word. listing_text pc word) (code_at pc image))

-- ---- why it stopped

-- the vector length as it stood, and what explains that an instruction is not legal
abbrev pub operands_text : ℕ → List ℕ → List ℕ
operands_text vl lines = codes "  vl: " ++ (decimal vl ++ (codes "\n" ++ lines))

abbrev pub before_text : List ℕ → List ℕ
before_text line = codes "  the step before:\n" ++ line

abbrev pub cause_text : Cause → List ℕ
cause_text cause.Untold = []
cause_text (cause.Illegal vl illegal) = operands_text vl (illegal_text illegal)
cause_text (cause.Behind place) = before_text (place_text place)

-- what explains that an instruction is not legal in these registers. There is nothing for a word
-- that is none
abbrev pub illegal_lines : Registers → Option Insn → List ℕ
illegal_lines registers None = []
illegal_lines registers (Some insn) =
    operands_text registers.vl (illegal_text (illegal_in (held_of registers.vtype) insn))

-- where the last step of a run was done, if there was one
abbrev pub before_lines : ImageView → Option ℕ → List ℕ
before_lines image None = []
before_lines image (Some pc) = before_text (place_line image pc)

-- what explains how a run ended in these registers
abbrev pub cause_lines : ImageView → Option ℕ → Registers → End → List ℕ
cause_lines image last registers (end.Trapped (Illegal word)) =
    illegal_lines registers (meaning_of word)
cause_lines image last registers (end.Trapped (FetchFault pc)) = before_lines image last
cause_lines image last registers (end.Trapped (LoadFault address)) = []
cause_lines image last registers (end.Trapped (StoreFault address)) = []
cause_lines image last registers (end.Trapped (JumpMisaligned target)) = []
cause_lines image last registers end.Ended = []
cause_lines image last registers end.OutOfSteps = []

-- ---- both

abbrev pub stand_text : Stand → List ℕ
stand_text stand = place_text stand.place ++ cause_text stand.cause

-- the same of a run of an image that ended so in these registers. Its last step was done at `last`
abbrev pub stand_line : ImageView → Option ℕ → Registers → End → List ℕ
stand_line image last registers how =
    place_line image registers.pc ++ cause_lines image last registers how
