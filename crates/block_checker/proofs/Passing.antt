-- From the induction to runs: what passes the check ends on all arguments that match, if the laws on single steps hold there.
use Rattle.std.proofs.Common.{◌≡◌, ◌<◌, ◌*◌, ◌==◌, ℕ, Bool, true, false, arith, refl, sym, ap, ◌∙◌, subst, List, length, Option, Some, None, Ok, Err}
use Rattle.std.specs.Prelude.{if◌then◌else◌}
use Rattle.std.specs.List.{AllByRecursion}
use Rattle.std.proofs.lemmas.Bool.Decides.{nat_tests}
use Rattle.elf_image.specs.Image.{ImageView, IsImage}
use Rattle.region_mem.specs.Laws.{BringsBytes}
use Rattle.region_mem.specs.Parameter.{Argument, AreArguments}
use Rattle.vreg_groups.specs.declared.policies.Agnostic.{Agnostic}
use Rattle.vreg_groups.specs.declared.vector_length.Vlen.{Vlen}
use Rattle.vreg_groups.specs.VectorLength.{vlenb_of}
use Rattle.scalar_core.specs.Hart.{reg_of}
use Rattle.machine.specs.Machine.{Machine}
use Rattle.machine.specs.Start.{start, start_hart}
use Rattle.cert_note.specs.declared.values.Block.{Block}
use Rattle.cert_note.specs.Certificate.{CertificateView, IsCertificate, IsBlock, after_block}
use Rattle.abs_state.specs.State.{AbstractView}
use Rattle.abs_state.specs.Branches.{EdgeView}
use Rattle.block_checker.specs.declared.errors.CheckError.TheVariants.{WrongVlen}
use Rattle.block_checker.specs.Passes.{both, block_at, entry_passes_to, entry_passes, blocks_pass, checked}
use Rattle.block_checker.specs.Accepted.{AcceptedView}
use Rattle.abs_state.specs.Held.{budget_at}
use Rattle.block_checker.specs.Bound.{start_number, bound_in, bound_of, scalars_of}
use Rattle.block_checker.specs.BoundLaws.{BoundIsBudget}
use Rattle.block_checker.specs.Sound.{IsWellBehaved, PassingRunsEnd, RunsEnd}
use Rattle.block_checker.proofs.Finding.{both_first, both_second}
use Rattle.block_checker.proofs.StepLaws.{Laws, budget_in}
use Rattle.cert_note.specs.declared.values.Budget.{Budget}
use Rattle.abs_domain.specs.StartFormLemmas.{budget_below, second_below, found_is}
use Rattle.block_checker.proofs.Runs.{passing-ends}
use Rattle.abs_state.specs.EntryLemmas.{start_pc}
use Rattle.block_checker.proofs.Bounds.{start-is}

-- ---- what a check that passes says

record HasPassed (image : ImageView) (certificate : CertificateView) (vlen : Vlen) : Type 0 where
  pub same : vlenb_of certificate.vlen ≡ vlenb_of vlen
  pub entry : entry_passes image certificate ≡ Ok tt
  pub blocks : blocks_pass image certificate certificate.blocks ≡ Ok tt

has-passed : (image : ImageView) (certificate : CertificateView) (vlen : Vlen) → checked image certificate vlen ≡ Ok tt
    → HasPassed image certificate vlen
unfolding checked
has-passed image certificate vlen h = go (vlenb_of certificate.vlen == vlenb_of vlen) refl h
  where
    go : (t : Bool) → (vlenb_of certificate.vlen == vlenb_of vlen) ≡ t
        → (if t then both (entry_passes image certificate) (blocks_pass image certificate certificate.blocks) else Err WrongVlen) ≡ Ok tt
        → HasPassed image certificate vlen
    go true e h = record {
      same = grind (arith, nat_tests);
      entry = both_first _ _ h;
      blocks = both_second _ _ h;
    }
    go false e h = absurd (let bad : ⊥ = cc in bad)

-- a block begins at the entry
entry-block : (image : ImageView) (certificate : CertificateView) (o : Option Block) → entry_passes_to image certificate o ≡ Ok tt
    → (b : Block) × (o ≡ Some b)
unfolding entry_passes_to
entry-block image certificate None h = absurd (let bad : ⊥ = cc in bad)
entry-block image certificate (Some b) h = (b, refl)

-- ---- the budget's register

block-below : (certificate : CertificateView) (address : ℕ) (b : Block) → IsCertificate certificate
    → block_at address certificate.blocks ≡ Some b → (b.budget.register < 32) × (b.budget.second_register < 32)
unfolding block_at
block-below certificate address b is e =
    let valid = found_is (IsBlock certificate.version certificate.vlen certificate.parameters) after_block (λ (block : Block). block.start == address) 0 certificate.blocks b is.blocks e in
    (budget_below b.budget valid.1.budget, second_below b.budget valid.1.budget)

-- a budget comes to one number where its registers hold the same
budget-same : (budget : Budget) (f g : ℕ → ℕ) → f budget.register ≡ g budget.register → f budget.second_register ≡ g budget.second_register
    → budget_at budget f ≡ budget_at budget g
budget-same budget f g p q = omega (arith, ap (λ (n : ℕ). budget.factor * n) p, ap (λ (n : ℕ). budget.second_factor * n) q)

-- ---- runs

-- the laws at one start of a run, with the relations for it
pub record LawsAt (image : ImageView) (certificate : CertificateView) (begin : Machine) : Type 1 where
  pub held : ℕ → AbstractView → Machine → Type 0
  pub goes : ℕ → EdgeView → Machine → Type 0
  pub fits : Block → Machine → Type 0
  pub laws : Laws image certificate (vlenb_of certificate.vlen) begin held goes fits

-- the laws at every start
abbrev pub LawsHold : Type 1
LawsHold =
    (image : ImageView) (certificate : CertificateView) (args : List Argument) (agnostic : Agnostic)
    → IsImage image → IsCertificate certificate → length args ≡ 8 → AreArguments certificate.parameters args → AllByRecursion BringsBytes args
    → LawsAt image certificate (start (vlenb_of certificate.vlen) agnostic image certificate.parameters args)

pub passing-runs-end : LawsHold → PassingRunsEnd
unfolding start
passing-runs-end laws image certificate vlen args agnostic block is_image is_certificate eight matching bytes passes found =
    let begin = start (vlenb_of certificate.vlen) agnostic image certificate.parameters args in
    let given = laws image certificate args agnostic is_image is_certificate eight matching bytes in
    let passed = has-passed image certificate vlen passes in
    let starts : begin.hart.pc ≡ image.entry = start_pc image.entry certificate.parameters args in
    let ends : IsWellBehaved (vlenb_of certificate.vlen) (budget_in block begin) begin =
    passing-ends image certificate (vlenb_of certificate.vlen) begin given.held given.goes given.fits given.laws block starts found passed.entry passed.blocks in
    subst (λ (vlenb : ℕ). IsWellBehaved vlenb (budget_at block.budget (λ r. reg_of r (start_hart image.entry certificate.parameters args)))
    (start vlenb agnostic image certificate.parameters args)) passed.same ends

bound-is : (a : AcceptedView) (args : List Argument) (b : Block) → IsCertificate a.certificate → length args ≡ 8
    → AreArguments a.certificate.parameters args → block_at a.image.entry a.certificate.blocks ≡ Some b
    → bound_of a (scalars_of args) ≡ budget_at b.budget (λ r. reg_of r (start_hart a.image.entry a.certificate.parameters args))
unfolding bound_of bound_in
bound-is a args b is eight matching found =
    let below = block-below a.certificate a.image.entry b is found in
    let first = start-is a.image.entry a.certificate.parameters args is.eight eight matching b.budget.register below.0 in
    let second = start-is a.image.entry a.certificate.parameters args is.eight eight matching b.budget.second_register below.1 in
    ap (bound_in a.certificate.parameters (scalars_of args)) found ∙ budget-same b.budget (start_number a.certificate.parameters (scalars_of args)) (λ r. reg_of r (start_hart a.image.entry a.certificate.parameters args)) (sym first) (sym second)

pub runs-end : PassingRunsEnd → (a : AcceptedView) → IsImage a.image → IsCertificate a.certificate
    → checked a.image a.certificate a.vlen ≡ Ok tt → RunsEnd a
unfolding start entry_passes
runs-end passing a is_image is_certificate passes args agnostic eight matching bytes =
    let passed = has-passed a.image a.certificate a.vlen passes in
    let block = entry-block a.image a.certificate (block_at a.image.entry a.certificate.blocks) passed.entry in
    let ends = passing a.image a.certificate a.vlen args agnostic block.0 is_image is_certificate eight matching bytes passes block.1 in
    let bound = bound-is a args block.0 is_certificate eight matching block.1 in
    subst (λ (n : ℕ). IsWellBehaved (vlenb_of a.vlen) n (start (vlenb_of a.vlen) agnostic a.image a.certificate.parameters args)) (sym bound) ends

pub bound-is-budget : (a : AcceptedView) → IsCertificate a.certificate → checked a.image a.certificate a.vlen ≡ Ok tt → BoundIsBudget a
unfolding start entry_passes
bound-is-budget a is passes args agnostic eight matching =
    let passed = has-passed a.image a.certificate a.vlen passes in
    let block = entry-block a.image a.certificate (block_at a.image.entry a.certificate.blocks) passed.entry in
    (block.0, block.1, bound-is a args block.0 is eight matching block.1)
