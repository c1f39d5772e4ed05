-- What a run keeps of memory: only stores change memory.
use Rattle.std.proofs.Common.{◌≡◌, ◌∙◌, ℕ, zero, suc, refl, Option, Some, None, Result, Ok, Err}
use Rattle.rv_decode.specs.Decode.{meaning_of}
use Rattle.region_mem.specs.declared.faults.Right.TheVariants.{Write}
use Rattle.region_mem.specs.KeptCodeLemmas.{open_kept, stores_keep_unwritable}
use Rattle.region_mem.specs.Memory.{fetch_of, store_of}
use Rattle.region_mem.specs.ExtentLemmas.{stores_keep_extents}
use Rattle.vector_core.specs.Words.{Fault, Insn, Memory}
use Rattle.machine.specs.Kept.{Keeps, StepsKeep, RunsKeep}
use Rattle.machine.specs.Machine.{Machine}
use Rattle.machine.specs.MachineStep.{decoded, fetched, step}
use Rattle.machine.specs.Run.{after, then_step}
use Rattle.machine.specs.StoreLemmas.{carried_kept, list_kept}

same_extents : (m : Memory) → Keeps m m
same_extents m = record { extents = (refl, refl); unwritable = λ x is. refl }

kept_twice : (m next last : Memory) → Keeps m next → Keeps next last → Keeps m last
kept_twice m next last h k = record {
  extents = (k.extents.0 ∙ h.extents.0, k.extents.1 ∙ h.extents.1);
  unwritable = λ x is. k.unwritable x (open_kept Write x next.areas m.areas h.extents.0 ∙ is) ∙ h.unwritable x is;
}

one_store : (address n value : ℕ) (m next : Memory) → store_of address n value m ≡ Some next → Keeps m next
one_store address n value m next e = record {
  extents = stores_keep_extents address n value m next e;
  unwritable = λ x is. stores_keep_unwritable address n value x m next e is;
}

module _ (m t : Machine) where
  decoded_kept : (vlenb word : ℕ) (insn : Option Insn) → decoded vlenb word m insn ≡ Ok t → Keeps m.memory t.memory
  decoded_kept vlenb word None e = absurd (cc e)
  decoded_kept vlenb word (Some insn) e =
      carried_kept (Keeps m.memory) m t (same_extents m.memory) vlenb word insn
      (λ size rs1 rs2 offset next is e. one_store _ _ _ m.memory next e)
      (λ access values is stores. list_kept Keeps same_extents kept_twice one_store _ values m.memory) e

  fetched_kept : (vlenb : ℕ) (word : Option ℕ) → fetched vlenb m word ≡ Ok t → Keeps m.memory t.memory
  fetched_kept vlenb None e = absurd (cc e)
  fetched_kept vlenb (Some word) e = decoded_kept vlenb word (meaning_of word) e

pub steps_keep : StepsKeep
unfolding step
steps_keep vlenb m t e = fetched_kept m t vlenb (fetch_of m.hart.pc m.memory) e

pub runs_keep : RunsKeep
unfolding after
runs_keep vlenb m t zero e = let is : m ≡ t = cc e in rw (← is) (same_extents m.memory)
runs_keep vlenb m t (suc k) e =
    by_state (after vlenb m k) refl e (λ w is. runs_keep vlenb m w k is)
  where
    by_state : (r : Result Machine Fault) → after vlenb m k ≡ r → then_step vlenb r ≡ Ok t
        → ((w : Machine) → after vlenb m k ≡ Ok w → Keeps m.memory w.memory)
        → Keeps m.memory t.memory
    by_state (Ok w) is next before = kept_twice m.memory w.memory t.memory (before w is) (steps_keep vlenb w t next)
    by_state (Err fault) is next before = absurd (cc next)
