-- Each reading on the way to a loop is of that loop.
use Rattle.std.proofs.Common.{◌≡◌, ℕ, ◌+◌, ◌-◌, zero, suc, Bool, true, false, refl, sym, ◌∙◌, subst, Option, Some, None, List, [], ◌∷◌, get_or}
use Rattle.std.proofs.Math.ListN.{length-set}
use Rattle.std.specs.Prelude.{if◌then◌else◌, ◌&&◌, nat_le, nat_lt, slice_set}
use Rattle.rv_decode.specs.declared.instructions.Condition.TheVariants.{Ne}
use Rattle.rv_decode.specs.declared.instructions.Insn.{Insn}
use Rattle.rv_decode.specs.declared.instructions.Insn.TheVariants.{Scalar, VMem}
use Rattle.rv_decode.specs.declared.instructions.RegisterOp.TheVariants.{Add, Sub}
use Rattle.rv_decode.specs.declared.instructions.ScalarInsn.TheVariants.{Branch, Register, ShiftImmediate}
use Rattle.rv_decode.specs.declared.instructions.ShiftOp.TheVariants.{Slli}
use Rattle.vreg_groups.specs.Legality.{is_legal}
use Rattle.region_mem.specs.declared.parameter.Param.{Param}
use Rattle.cert_maker.specs.declared.loops.Loop.{Loop}
use Rattle.cert_maker.specs.declared.loops.Reading.{Reading}
use Rattle.cert_maker.specs.declared.loops.Reading.TheVariants.{Works, Moves, Back, Through}
use Rattle.cert_maker.specs.Loops.{is_flagged, is_arithmetic, with_pointer, moved_by, shift_of, step_by, works_on, back_by, next_of}
use Rattle.cert_maker.specs.Known.{IsPartOf, LeadsTo}
use Rattle.cert_maker.specs.Laws.{LoopsLead}
use Rattle.cert_maker.proofs.LoopWalks.{alike_without, part_same, leads}

taken_if : (t : Bool) (x next : Reading) → (if t then Some x else None) ≡ Some next → x ≡ next
taken_if true x next e = same x next e
  where
    same : (a b : Reading) → Some a ≡ Some b → a ≡ b
    same a b e = cc
taken_if false x next e = cc

came : (t : Bool) (x next : Reading) (loop : Loop) → (if t then Some x else None) ≡ Some next → LeadsTo next loop → LeadsTo x loop
came t x next loop e l = subst (λ (r : Reading). LeadsTo r loop) (sym (taken_if t x next e)) l

moved_leads : (of : Loop) (step : ℕ) (left : List Bool) (insn : Insn) (next : Reading) (loop : Loop) → moved_by of step left insn ≡ Some next
    → LeadsTo next loop → of ≡ loop
unfolding moved_by
moved_leads of step left (Scalar (Register Add rd rs1 rs2)) next loop e l =
    came _ (Moves of step (slice_set left (rd - 10) false)) next loop e l
moved_leads of step left (Scalar (Register Sub rd rs1 rs2)) next loop e l = came _ (Back of) next loop e l
moved_leads of step left other next loop e l = cc

pub step_leads : (of : Loop) (wanted : Option ℕ) (insn : Insn) (next : Reading) (loop : Loop) → step_by of wanted insn ≡ Some next
    → LeadsTo next loop → of ≡ loop
unfolding step_by
step_leads of None insn next loop e l = moved_leads of of.length of.pointers insn next loop e l
step_leads of (Some wanted) (Scalar (ShiftImmediate Slli rd rs1 amount)) next loop e l = came _ (Moves of rd of.pointers) next loop e l
step_leads of (Some wanted) other next loop e l = cc

back_leads : (of : Loop) (start pc : ℕ) (insn : Insn) (next : Reading) (loop : Loop) → back_by of start pc insn ≡ Some next
    → LeadsTo next loop → of ≡ loop
unfolding back_by
back_leads of start pc (Scalar (Branch Ne rs1 rs2 offset)) next loop e l = came _ (Through of) next loop e l
back_leads of start pc other next loop e l = cc

-- a flag that is set stays so where another one is set
set_keeps : (flags : List Bool) (i j : ℕ) → get_or flags j false ≡ true → get_or (slice_set flags i true) j false ≡ true
set_keeps [] i j e = cc
set_keeps (x ∷ xs) zero zero e = refl
set_keeps (x ∷ xs) zero (suc j) e = e
set_keeps (x ∷ xs) (suc i) zero e = e
set_keeps (x ∷ xs) (suc i) (suc j) e = set_keeps xs i j e

flag_stays : (flags : List Bool) (register i : ℕ) → is_flagged register flags ≡ true → is_flagged register (slice_set flags i true) ≡ true
unfolding is_flagged
flag_stays flags register i e = by_test (nat_le 10 register && nat_lt register 18) e
  where
    by_test : (t : Bool) → (if t then get_or flags (register - 10) false else false) ≡ true
        → (if t then get_or (slice_set flags i true) (register - 10) false else false) ≡ true
    by_test true f = set_keeps flags i (register - 10) f
    by_test false f = f

part_without : (of loop : Loop) (pointer : ℕ) → IsPartOf (with_pointer pointer of) loop → IsPartOf of loop
unfolding with_pointer
part_without of loop pointer is = record {
  flags = sym (length-set of.pointers (pointer - 10) true) ∙ is.flags;
  alike = alike_without of loop pointer is.alike;
  pointers = λ place l e. is.pointers place l (flag_stays of.pointers (place + 10) (pointer - 10) e);
}

part_of : (of loop : Loop) → of ≡ loop → IsPartOf of loop
part_of of loop e = subst (λ (l : Loop). IsPartOf of l) e (part_same of)

worked : (t u : Bool) (of loop : Loop) (o : Option Reading) (next : Reading) → (o ≡ Some next → LeadsTo next loop → of ≡ loop)
    → (if t then (if u then Some (Works of) else None) else o) ≡ Some next → LeadsTo next loop → IsPartOf of loop
worked true u of loop o next more e l = came u (Works of) next loop e l
worked false u of loop o next more e l = part_of of loop (more e l)

works_leads : (params : List Param) (of : Loop) (insn : Insn) (next : Reading) (loop : Loop) → works_on params of insn ≡ Some next
    → LeadsTo next loop → IsPartOf of loop
unfolding works_on
works_leads params of (VMem insn) next loop e l = part_without of loop insn.rs1 (came _ (Works (with_pointer insn.rs1 of)) next loop e l)
works_leads params of other next loop e l =
    worked (is_arithmetic other) (is_legal record { vtype = of.vtype; vl = 0 } other) of loop (step_by of (shift_of of.sew) other) next
    (λ f g. step_leads of (shift_of of.sew) other next loop f g) e l

pub next_leads : (params : List Param) (start pc : ℕ) (r next : Reading) (insn : Insn) (loop : Loop) → next_of params start pc r insn ≡ Some next
    → LeadsTo next loop → LeadsTo r loop
unfolding next_of
next_leads params start pc (Works of) next insn loop e l = works_leads params of insn next loop e l
next_leads params start pc (Moves of step left) next insn loop e l = moved_leads of step left insn next loop e l
next_leads params start pc (Back of) next insn loop e l = back_leads of start pc insn next loop e l
next_leads params start pc (Through of) next insn loop e l = cc

pub loops-lead : LoopsLead
loops-lead image params start more pc r through e =
    leads image params start (λ at a b insn loop f g. next_leads params start at a b insn loop f g) more pc r through e
