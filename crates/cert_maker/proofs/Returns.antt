-- The block of the return passes.
use Rattle.std.proofs.Common.{◌≡◌, ℕ, ◌+◌, ◌≤◌, Bool, true, false, refl, ap, ◌∙◌, subst, arith, Option, Some, None, List, [], max, min}
use Rattle.std.specs.Prelude.{ℤ, Ok, if◌then◌else◌, nat_le}
use Rattle.std.proofs.lemmas.Bool.{and_parts, eqb-true, le-leb}
use Rattle.std.proofs.lemmas.Bool.Decides.{nat_tests}
use Rattle.linear_facts.specs.declared.ranges.Range.{Range}
use Rattle.elf_image.specs.Image.{ImageView}
use Rattle.rv_decode.specs.declared.instructions.Insn.{Insn}
use Rattle.rv_decode.specs.declared.instructions.Insn.TheVariants.{Scalar}
use Rattle.rv_decode.specs.declared.instructions.ScalarInsn.TheVariants.{Jalr}
use Rattle.region_mem.specs.declared.parameter.Param.{Param}
use Rattle.cert_note.specs.declared.values.RegisterFact.{RegisterFact}
use Rattle.cert_note.specs.Certificate.{CertificateView}
use Rattle.scalar_core.specs.Arithmetic.{unsigned}
use Rattle.scalar_core.specs.Hart.{exit}
use Rattle.abs_state.specs.declared.state.Way.TheVariants.{To}
use Rattle.abs_domain.specs.Values.{just, computed_range, or_own}
use Rattle.abs_domain.specs.Effects.{offset_range}
use Rattle.abs_domain.specs.Numbers.{NumbersView, value_at, with_result}
use Rattle.abs_domain.specs.Orders.{with_orders}
use Rattle.abs_domain.specs.Starts.{stated_range, stated_form, start_atoms, start_numbers}
use Rattle.abs_state.specs.Blocks.{at_block_of}
use Rattle.abs_state.specs.State.{AbstractView}
use Rattle.abs_transfer.specs.Scalar.{address_range, scalar_after}
use Rattle.abs_state.specs.After.{after_of, taken, way_of, jump_way}
use Rattle.abs_state.specs.Branches.{EdgeView, refined, edge_by, plain_edge, value_on}
use Rattle.abs_state.specs.Edges.{implied_by, implies_end, is_paid_for, pays, is_paid, own_total, next_total, least_of, most_of, no_budget}
use Rattle.abs_state.specs.StepLaws.{jumps}
use Rattle.abs_domain.specs.StartNumberLemmas.{range_by}
use Rattle.block_checker.specs.Passes.{edges_pass, possible_passes, edge_passes, block_for, is_branch, is_branch_insn, then_on, walk, block_passes}
use Rattle.cert_maker.specs.Loops.{insn_at, is_return}
use Rattle.cert_maker.specs.Certificates.{facts_by, budget, block}
use Rattle.cert_maker.specs.Laws.{ReturnsPass}
use Rattle.cert_maker.proofs.LoopWalks.{word_is, stops}

-- a range of one number stays what it is
pub computed_just : (x : ℕ) (o : Option Range) → computed_range (Some (just x)) o ≡ just x
unfolding computed_range
computed_just x None = refl
computed_just x (Some r) = by_test (nat_le (max x r.lo) (min x r.hi)) refl
  where
    of : ℕ → ℕ → Range
    of a b = record { lo = a; hi = b }

    ends_are : (a b c d : ℕ) → a ≡ c → b ≡ d → of a b ≡ of c d
    ends_are a b c d e f = rw (e, f) refl

    by_test : (t : Bool) → nat_le (max x r.lo) (min x r.hi) ≡ t
        → or_own (of x x) (if t then Some (of (max x r.lo) (min x r.hi)) else None) ≡ of x x
    by_test true e =
        let le : max x r.lo ≤ min x r.hi = grind (arith, nat_tests) in
        ends_are _ _ _ _ (omega (arith, le)) (omega (arith, le))
    by_test false e = refl

-- ra is EXIT where a block begins
pub ra_is : (params : List Param) (stated : ℕ → Option RegisterFact) → (value_at (start_numbers params (facts_by stated) []) 1).range ≡ just exit
unfolding start_numbers with_orders stated_range
ra_is params stated =
    range_by (start_atoms params (facts_by stated)) (stated_form (facts_by stated)) (λ i. Some (stated_range (facts_by stated) i)) 1 (omega arith)
    ∙ computed_just exit _

-- where ra is EXIT, a jump there ends the run
pub address_is : (s : NumbersView) → (value_at s 1).range ≡ just exit → address_range 1 0 s ≡ just exit
unfolding address_range offset_range
address_is s e = rw e (computed_just exit _)

ends_there : (certificate : CertificateView) (pc : ℕ) (b : AbstractView) → b.way ≡ To exit → b.budget ≡ Some (budget 1 0 0) → b.words ≡ 1
    → possible_passes certificate pc (refined false b) ≡ Ok tt
unfolding possible_passes refined edge_by edge_passes block_for implied_by implies_end is_paid_for pays is_paid value_on
ends_there certificate pc b way paid words =
    let edge : EdgeView = plain_edge b (Some exit) in
    let le : most_of (next_total edge no_budget) ≤ least_of (own_total edge (budget 1 0 0)) = omega (arith, words) in
    rw (way, paid, le-leb (most_of (next_total edge no_budget)) (least_of (own_total edge (budget 1 0 0))) le) refl

is_jump : (insn : Insn) → is_return insn ≡ true → (offset : ℤ) × (insn ≡ Scalar (Jalr 0 1 offset)) × (unsigned offset ≡ 0)
unfolding is_return
is_jump (Scalar (Jalr rd rs1 offset)) e =
    let first = and_parts _ _ e in
    let second = and_parts _ _ first.0 in
    (offset, parts _ _ (eqb-true _ _ second.0) (eqb-true _ _ second.1) offset, eqb-true _ _ first.1)
  where
    parts : (a b : ℕ) → a ≡ 0 → b ≡ 1 → (offset : ℤ) → Scalar (Jalr a b offset) ≡ Scalar (Jalr 0 1 offset)
    parts a b e f offset = rw (e, f) refl
is_jump other e = cc

module _ (image : ImageView) (certificate : CertificateView) (start : ℕ) (offset : ℤ) (zero_is : unsigned offset ≡ 0)
    (at : insn_at start image ≡ Some (Scalar (Jalr 0 1 offset))) where
  abbrev begin : AbstractView
  begin = at_block_of image certificate (block start (budget 1 0 0) (facts_by (λ place. None)))

  numbers : NumbersView
  numbers = start_numbers certificate.parameters (facts_by (λ place. None)) []

  after : AbstractView
  after = record begin { words = 1; way = To exit }

  way_is : way_of start (Jalr 0 1 offset) numbers ≡ To exit
  unfolding way_of jump_way numbers
  way_is = rw (zero_is, address_is (start_numbers certificate.parameters (facts_by (λ place. None)) []) (ra_is certificate.parameters (λ place. None))) refl

  after_is : after_of start (Scalar (Jalr 0 1 offset)) begin ≡ Ok after
  unfolding after_of taken scalar_after at_block_of with_result after numbers
  after_is = rw way_is refl

  passes : edges_pass certificate start (Scalar (Jalr 0 1 offset)) after ≡ Ok tt
  unfolding edges_pass is_branch is_branch_insn at_block_of after
  passes = ends_there certificate start after refl refl refl

  pub block_is : block_passes image certificate (block start (budget 1 0 0) (facts_by (λ place. None))) ≡ Ok tt
  unfolding block_passes walk jumps
  block_is =
      ap (λ x. then_on x (λ next. walk image certificate 4095 (start + 4) next))
      (word_is image certificate start (Scalar (Jalr 0 1 offset)) begin after at after_is
      ∙ stops certificate start (Scalar (Jalr 0 1 offset)) after refl passes)

pub returns-pass : ReturnsPass
returns-pass image certificate start insn at is =
    let jump = is_jump insn is in
    block_is image certificate start jump.0 jump.2 (subst (λ (i : Insn). insn_at start image ≡ Some i) jump.1 at)
