-- What is known after an instruction that sets vtype and vl is true of the machine to which it leads.
use Rattle.std.proofs.Common.{◌≡◌, ◌<◌, ◌+◌, ◌%◌, ◌^◌, ℕ, Bool, true, false, arith, refl, sym, ap, ◌∙◌, subst, eq-eqb, length, Some, None, IfSome}
use Rattle.std.specs.Prelude.{if◌then◌else◌, ◌==◌, Ok, Err}
use Rattle.std.specs.List.{AllByRecursion}
use Rattle.std.proofs.lemmas.Bool.Decides.{nat_tests}
use Rattle.linear_facts.specs.declared.ranges.Range.{Range}
use Rattle.rv_decode.specs.declared.instructions.Insn.TheVariants as class
use Rattle.rv_decode.specs.declared.instructions.VSet.{VSet}
use Rattle.rv_decode.specs.declared.instructions.VSet.TheVariants.{Vsetvli, Vsetivli, Vsetvl}
use Rattle.rv_decode.specs.EncodeVector.{VSetFits}
use Rattle.rv_decode.specs.Needs.{needs_of}
use Rattle.region_mem.specs.declared.faults.Fault.TheVariants.{JumpMisaligned}
use Rattle.vreg_groups.specs.declared.vector_length.Avl.{Avl}
use Rattle.vreg_groups.specs.declared.vector_length.Avl.TheVariants as avl
use Rattle.vreg_groups.specs.declared.vector_length.Vconfig.{Vconfig}
use Rattle.vreg_groups.specs.Legality.{are_operands_legal, is_destination_legal, is_legal}
use Rattle.vreg_groups.specs.VectorLength.{vset_of}
use Rattle.scalar_core.specs.Hart.{Hart, IsHart, next_pc, put, reg_of, with_reg}
use Rattle.scalar_core.specs.StateLemmas.{put-is_hart}
use Rattle.vector_core.specs.Configuration.{avl_of, request_of, vset_step}
use Rattle.vector_core.specs.declared.configuration.Request.{Request}
use Rattle.vector_core.specs.Step.{legal_step, vector_step}
use Rattle.vector_core.specs.Vectors.{Vectors}
use Rattle.machine.specs.Machine.{Machine}
use Rattle.machine.specs.MachineStep.{carry_out, unless_misaligned}
use Rattle.abs_transfer.specs.declared.vset.Asked.TheVariants.{Keep, Greatest, Register}
use Rattle.abs_transfer.specs.declared.vset.Wanted.{Wanted}
use Rattle.abs_state.specs.declared.state.Way.TheVariants.{To}
use Rattle.abs_domain.specs.declared.values.Effect.TheVariants.{Copied}
use Rattle.abs_domain.specs.Values.{known_of}
use Rattle.abs_domain.specs.Numbers.{NumbersView, value_at}
use Rattle.abs_domain.specs.Described.{LiesIn}
use Rattle.abs_domain.specs.Holds.{Holds, Follows}
use Rattle.abs_transfer.specs.Facts.{cut_groups}
use Rattle.abs_transfer.specs.Vset.{Configured, asked_of, configured, wanted_of, with_length_in}
use Rattle.abs_state.specs.State.{AbstractView}
use Rattle.abs_state.specs.After.{next_word, vset_after}
use Rattle.abs_state.specs.Held.{Setting, Held, IsProper, IsTrueOf, AreTrueOf, vlenb_in}
use Rattle.abs_state.specs.VectorLaws.{CutAreTrue, VsetsAreHeld}
use Rattle.abs_transfer.specs.AddressLemmas.{register_holds}
use Rattle.abs_transfer.specs.ConfigurationLemmas.{AskedFits, IsConfigured, avl_asked, configured_held, vset_is}
use Rattle.abs_domain.specs.MemoryLemmas.{nothing_changes}
use Rattle.abs_state.proofs.Followed.{follows_held, proper_kept}
use Rattle.abs_domain.specs.StateLemmas.{result_holds}
use Rattle.abs_state.proofs.StepScalars.{moved, pc_stays}

-- ---- what is asked for

-- what is known of a request is right
record IsWanted (w : Wanted) (r : Request) (h : Hart) : Type 0 where
  rd : w.rd ≡ r.rd
  register : w.rd < 32
  length : avl_asked w.length h ≡ r.avl
  fits : AskedFits w.length
  vtype : IfSome w.vtype (λ bits. r.vtype ≡ bits)

asked_is : (rd rs1 : ℕ) (h : Hart) → avl_asked (asked_of rd rs1) h ≡ avl_of rd rs1 h
asked_is rd rs1 h = by_test (rs1 == 0) (rd == 0)
  where
    by_test : (p q : Bool) → avl_asked (if p then (if q then Keep else Greatest) else Register rs1) h
        ≡ (if p then (if q then avl.Keep else avl.Greatest) else avl.Of (reg_of rs1 h))
    by_test true true = refl
    by_test true false = refl
    by_test false q = refl

asked_fits : (rd rs1 : ℕ) → rs1 < 32 → AskedFits (asked_of rd rs1)
asked_fits rd rs1 l = by_test (rs1 == 0) (rd == 0)
  where
    by_test : (p q : Bool) → AskedFits (if p then (if q then Keep else Greatest) else Register rs1)
    by_test true true = tt
    by_test true false = tt
    by_test false q = l

-- the one number of a range
known_is : (r : Range) (x : ℕ) → LiesIn r x → IfSome (known_of r) (λ n. x ≡ n)
known_is r x lies = by_test (r.lo == r.hi) refl
  where
    by_test : (t : Bool) → (r.lo == r.hi) ≡ t → IfSome (if t then Some r.lo else None) (λ n. x ≡ n)
    by_test true e = (let one : r.lo ≡ r.hi = grind (arith, nat_tests) in omega (arith, one, lies.low, lies.high))
    by_test false e = tt

wanted_is : (insn : VSet) (s : NumbersView) (v : ℕ → ℕ) (h : Hart) (config : Vconfig) → Holds s v h config → VSetFits insn
    → IsWanted (wanted_of insn s) (request_of insn h) h
unfolding wanted_of request_of
wanted_is (Vsetvli rd rs1 vtype) s v h config holds fits = record {
  rd = refl;
  register = fits.0;
  length = asked_is rd rs1 h;
  fits = asked_fits rd rs1 fits.1;
  vtype = refl;
}
wanted_is (Vsetivli rd length vtype) s v h config holds fits = record {
  rd = refl;
  register = fits.0;
  length = refl;
  fits = omega (arith, fits.1);
  vtype = refl;
}
wanted_is (Vsetvl rd rs1 rs2) s v h config holds fits = record {
  rd = refl;
  register = fits.0;
  length = asked_is rd rs1 h;
  fits = asked_fits rd rs1 fits.1;
  vtype =
      known_is (value_at s rs2).range (reg_of rs2 h)
      (register_holds s v h config holds rs2 fits.2).lies;
}

-- ---- rd

-- a register gets vl
length_in_holds : (s new : NumbersView) (v : ℕ → ℕ) (h : Hart) (next : Vconfig) (rd : ℕ) → IsHart h → rd < 32 → Follows s new v h next
    → Follows s (with_length_in rd new) v (with_reg rd next.vl h) next
unfolding with_length_in
length_in_holds s new v h next rd is l f =
    let vl = f.holds.each 32 (omega arith) in
    let g : Follows new (with_length_in rd new) f.numbers (with_reg rd next.vl h) next =
    result_holds new f.numbers h next rd next.vl (Copied (value_at new 32).form (value_at new 32).range) is l f.holds (vl.means, vl.lies) in
    record {
      numbers = g.numbers;
      same = λ a below. g.same a (omega (arith, below, f.grows)) ∙ f.same a below;
      grows = omega (arith, f.grows, g.grows);
      holds = g.holds;
    }

-- ---- machines

goes_on : (t : Machine) (pc : ℕ) → t.hart.pc ≡ next_word pc → pc % 4 ≡ 0 → Ok t ≡ unless_misaligned t
unfolding unless_misaligned
goes_on t pc e aligned = by_test (t.hart.pc % 4 == 0) (eq-eqb (t.hart.pc % 4) 0 (omega (arith, e, aligned)))
  where
    by_test : (b : Bool) → b ≡ true → Ok t ≡ (if b then Ok t else Err (JumpMisaligned t.hart.pc))
    by_test true k = refl
    by_test false k = cc

-- a request that is legal at every vtype leads to this machine
abbrev set_machine : Machine → ℕ → Vconfig → Machine
set_machine s rd next = record {
  hart = put rd next.vl s.hart;
  vectors = record s.vectors { config = next };
  memory = s.memory;
}

vset_leads : (vlenb word : ℕ) (s : Machine) (insn : VSet) → carry_out vlenb word s (class.VSet insn)
    ≡ Ok (set_machine s (request_of insn s.hart).rd (vset_of vlenb s.vectors.config (request_of insn s.hart).avl (request_of insn s.hart).vtype))
unfolding carry_out vector_step is_legal are_operands_legal is_destination_legal needs_of legal_step vset_step
vset_leads vlenb word s insn = refl

-- what is known after a request
abbrev state_after : ℕ → AbstractView → Wanted → Configured → AbstractView
state_after pc a w c = record a {
  numbers = with_length_in w.rd c.numbers;
  vtype = c.vtype;
  groups = if c.is_kept then a.groups else cut_groups a.vlenb (value_at a.numbers 32).range.lo a.groups;
  words = a.words + 1;
  way = To (next_word pc);
}

module _ (cut : CutAreTrue) (e : Setting) (n : ℕ) (a : AbstractView) (s : Machine) (held : Held e n a s) (c : Configured) (next : Vconfig)
    (are : IsConfigured c a.numbers held.numbers s.hart s.vectors.config next) where
  abbrev new_vectors : Vectors
  new_vectors = record s.vectors { config = next }

  -- facts are cut where vl may change
  groups_held : AreTrueOf (vlenb_in e) new_vectors
      (if c.is_kept then a.groups else cut_groups a.vlenb (value_at a.numbers 32).range.lo a.groups)
  groups_held = by_test c.is_kept refl
    where
      least : ℕ
      least = (value_at a.numbers 32).range.lo

      by_test : (b : Bool) → c.is_kept ≡ b → AreTrueOf (vlenb_in e) new_vectors (if b then a.groups else cut_groups a.vlenb least a.groups)
      by_test true k =
          subst (λ (vl : ℕ). AllByRecursion (IsTrueOf (vlenb_in e) vl s.vectors.registers) a.groups) (sym (are.kept k)) held.known.groups
      by_test false k =
          subst (λ (vlenb : ℕ). AreTrueOf (vlenb_in e) new_vectors (cut_groups vlenb least a.groups)) (sym held.known.vlenb)
          (cut (vlenb_in e) least s.vectors new_vectors a.groups refl (held.known.known.each 32 (omega arith)).lies.low held.known.groups)

  set_held : (rd : ℕ) (w : Wanted) → w.rd ≡ rd → w.rd < 32 → IsProper e (set_machine s rd next) → s.hart.pc % 4 ≡ 0
      → Held e n (state_after s.hart.pc a w c) (set_machine s rd next)
  set_held rd w is l proper aligned =
      let known = held.known in
      let hart : Hart = with_reg rd next.vl s.hart in
      let written : Follows a.numbers (with_length_in w.rd c.numbers) held.numbers (with_reg rd next.vl s.hart) next =
      subst (λ (r : ℕ). Follows a.numbers (with_length_in w.rd c.numbers) held.numbers (with_reg r next.vl s.hart) next) is
      (length_in_holds a.numbers c.numbers held.numbers s.hart next w.rd known.proper.hart l are.follows) in
      let follows : Follows a.numbers (with_length_in w.rd c.numbers) held.numbers (put rd next.vl s.hart) next =
      moved a.numbers (with_length_in w.rd c.numbers) held.numbers (next_pc hart) hart next written in
      follows_held e n a s (set_machine s rd next) held (with_length_in w.rd c.numbers) c.vtype
      (if c.is_kept then a.groups else cut_groups a.vlenb (value_at a.numbers 32).range.lo a.groups) (To (next_word s.hart.pc)) follows are.vtype groups_held proper
      (ap (λ (pc : ℕ). (pc + 4) % 2 ^ 32) (pc_stays rd next.vl s.hart))

-- vtype and vl are as they can be, and nothing else changes that is the same throughout a run
set_proper : (e : Setting) (s : Machine) (rd : ℕ) (asked : Avl) (bits : ℕ) → IsProper e s
    → (vset_of (vlenb_in e) s.vectors.config asked bits).vl < 2 ^ 32
    → IsProper e (set_machine s rd (vset_of (vlenb_in e) s.vectors.config asked bits))
set_proper e s rd asked bits p l =
    let next = vset_of (vlenb_in e) s.vectors.config asked bits in
    proper_kept e s (set_machine s rd next) p (put-is_hart rd next.vl s.hart l p.hart)
    (vset_is (vlenb_in e) s.vectors.config asked bits p.vectors.config) p.registers (nothing_changes s.memory)

-- what is known after a request is true of the machine to which it leads
pub vset_held : CutAreTrue → VsetsAreHeld
unfolding vset_after
vset_held cut e n a s word insn held aligned fits =
    let known = held.known in
    let vlenb : ℕ = vlenb_in e in
    let w : Wanted = wanted_of insn a.numbers in
    let r : Request = request_of insn s.hart in
    let is : IsWanted w r s.hart = wanted_is insn a.numbers held.numbers s.hart s.vectors.config known.known fits in
    let next : Vconfig = vset_of vlenb s.vectors.config r.avl r.vtype in
    let c : Configured = configured a.vlenb a.vtype w.length w.vtype a.numbers in
    let same : IsConfigured (configured vlenb a.vtype w.length w.vtype a.numbers) a.numbers held.numbers s.hart s.vectors.config next =
    subst (λ (asked : Avl). IsConfigured (configured vlenb a.vtype w.length w.vtype a.numbers) a.numbers held.numbers s.hart s.vectors.config
    (vset_of vlenb s.vectors.config asked r.vtype)) is.length
    (configured_held vlenb a.numbers held.numbers s.hart s.vectors.config known.proper.vectors.vlenb_is known.proper.vectors.config known.known
    a.vtype w.length w.vtype r.vtype known.vtype is.vtype is.fits) in
    let are : IsConfigured c a.numbers held.numbers s.hart s.vectors.config next =
    subst (λ (k : ℕ). IsConfigured (configured k a.vtype w.length w.vtype a.numbers) a.numbers held.numbers s.hart s.vectors.config next)
    (sym known.vlenb) same in
    let vl = (are.follows.holds.each 32 (omega arith)).lies in
    let t : Machine = set_machine s r.rd next in
    let proper : IsProper e t = set_proper e s r.rd r.avl r.vtype known.proper (omega (arith, vl.high, vl.fits)) in
    let after : Held e n (state_after s.hart.pc a w c) t = set_held cut e n a s held c next are r.rd w is.rd is.register proper aligned in
    record {
      t = t;
      is = vset_leads vlenb word s insn ∙ goes_on t s.hart.pc after.way aligned;
      held = after;
    }
