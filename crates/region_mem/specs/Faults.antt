-- What a step answers, beside the definition that it follows; a fault's name, the number that it
-- carries, and its words.
use Rattle.std.specs.Prelude.{◌≡◌, ◌++◌, ℕ, List, codes, Result, Ok, Err}
use Rattle.region_mem.specs.Digits.{digits_text}
use Rattle.region_mem.specs.Words.{Fault}
use Rattle.region_mem.specs.declared.faults.Fault.TheVariants.{Illegal, FetchFault, LoadFault, StoreFault, JumpMisaligned}

-- A step of a state is the defined one, both ways: on Ok the new state is the definition's; on Err
-- the fault is the definition's, and the state has not changed.
abbrev pub Steps : {S : Type 0} → Result S Fault → S → S → Result (Unit {0}) Fault → Type 0
Steps defined old new (Ok _) = defined ≡ Ok new
Steps defined old new (Err fault) = (defined ≡ Err fault) × (new ≡ old)

-- the fault's name
abbrev pub name_of : Fault → List ℕ
name_of (Illegal word) = codes "Illegal"
name_of (FetchFault pc) = codes "FetchFault"
name_of (LoadFault address) = codes "LoadFault"
name_of (StoreFault address) = codes "StoreFault"
name_of (JumpMisaligned target) = codes "JumpMisaligned"

-- the word or the address that the fault carries
abbrev pub number_of : Fault → ℕ
number_of (Illegal word) = word
number_of (FetchFault pc) = pc
number_of (LoadFault address) = address
number_of (StoreFault address) = address
number_of (JumpMisaligned target) = target

-- what went wrong, in words
abbrev pub words_of : Fault → List ℕ
words_of (Illegal word) = codes "illegal instruction"
words_of (FetchFault pc) = codes "no instruction may be fetched at"
words_of (LoadFault address) = codes "no load is permitted at"
words_of (StoreFault address) = codes "no store is permitted at"
words_of (JumpMisaligned target) = codes "no jump is permitted to"

abbrev pub fault_text : Fault → List ℕ
fault_text fault = words_of fault ++ (codes " " ++ digits_text (number_of fault))
