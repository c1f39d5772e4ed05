-- What an edge shows of a block whose facts are stated by place.
use Rattle.std.proofs.Common.{◌≡◌, ◌≢◌, ℕ, ◌+◌, ◌<◌, ◌≤◌, Bool, true, false, refl, ap, arith, subst, sym, Option, Some, None, IfSome, List}
use Rattle.std.specs.Prelude.{Ok, if◌then◌else◌, ◌==◌, slice_index_or}
use Rattle.std.proofs.lemmas.Bool.{eqb-true, ne_eqb, le-leb}
use Rattle.scalar_core.specs.Hart.{exit}
use Rattle.linear_facts.specs.declared.ranges.Range.{Range}
use Rattle.cert_note.specs.Certificate.{CertificateView}
use Rattle.cert_note.specs.declared.values.Block.{Block}
use Rattle.cert_note.specs.declared.values.Budget.{Budget}
use Rattle.cert_note.specs.declared.values.RegisterFact.{RegisterFact}
use Rattle.abs_domain.specs.declared.why.Why.TheVariants.{VtypeUnknown, TargetNotABlock, IntervalNotProved, EqualityNotProved, OrderNotProved, VectorFactNotProved, BudgetNotProved}
use Rattle.abs_domain.specs.Values.{just}
use Rattle.abs_state.specs.Branches.{EdgeView}
use Rattle.abs_state.specs.Edges.{shown_or, and_then, is_vtype_shown, is_interval_shown, is_equality_shown, is_paid_for, leads_to, implies_block, implied_by}
use Rattle.block_checker.specs.Passes.{block_at, block_for, edge_passes, told_at}
use Rattle.cert_maker.specs.declared.loops.Loop.{Loop}
use Rattle.cert_maker.specs.Loops.{is_flagged}
use Rattle.cert_maker.specs.Certificates.{fact, facts_by, stated_by, block}
use Rattle.cert_maker.specs.Known.{is_pointer}
use Rattle.cert_maker.specs.Laws.{FactsByPlace}
use Rattle.cert_maker.proofs.Facts.{facts-are}
use Rattle.cert_maker.proofs.Moves.{edge_within}

-- what is shown of a block
pub record Shows (e : EdgeView) (start : ℕ) (b : Budget) (stated : ℕ → Option RegisterFact) : Type 0 where
  pub target : leads_to e start ≡ true
  pub ra : is_interval_shown e (fact 1 exit exit None) ≡ true
  pub intervals : (place : ℕ) → place < 8 → IfSome (stated place) (λ f. is_interval_shown e f ≡ true)
  pub equalities : (place : ℕ) → place < 8 → IfSome (stated place) (λ f. is_equality_shown e f ≡ true)
  pub paid : is_paid_for e e.state.budget (Some b) ≡ true

ra_equal : (e : EdgeView) → is_equality_shown e (fact 1 exit exit None) ≡ true
unfolding is_equality_shown
ra_equal e = refl

vtype_any : (vtype : Option ℕ) → is_vtype_shown vtype None ≡ true
unfolding is_vtype_shown
vtype_any None = refl
vtype_any (Some t) = refl

all_shown : (t u i q p : Bool) → t ≡ true → u ≡ true → i ≡ true → q ≡ true → p ≡ true
    → and_then (shown_or TargetNotABlock t)
    (and_then (shown_or VtypeUnknown u)
    (and_then (shown_or IntervalNotProved i)
    (and_then (shown_or EqualityNotProved q)
    (and_then (shown_or OrderNotProved true)
    (and_then (shown_or VectorFactNotProved true)
    (shown_or BudgetNotProved p)))))) ≡ Ok tt
all_shown t u i q p et eu ei eq ep = rw (et, eu, ei, eq, ep) refl

pub block_shown : (e : EdgeView) (start : ℕ) (b : Budget) (stated : ℕ → Option RegisterFact) → FactsByPlace stated → Shows e start b stated
    → implies_block e (block start b (facts_by stated)) ≡ Ok tt
unfolding implies_block
block_shown e start b stated numbers shows =
    let facts = facts-are stated numbers in
    all_shown _ _ _ _ _ shows.target (vtype_any e.state.vtype) (facts.all (is_interval_shown e) shows.ra shows.intervals)
    (facts.all (is_equality_shown e) (ra_equal e) shows.equalities) shows.paid

-- a register whose range lies within is shown
pub interval_shown : (e : EdgeView) (f : RegisterFact) → f.low ≤ (slice_index_or e.ranges f.number (just 0)).lo
    → (slice_index_or e.ranges f.number (just 0)).hi ≤ f.high → is_interval_shown e f ≡ true
unfolding is_interval_shown
interval_shown e f low high =
    let inside = edge_within e f.number f.low f.high low high in
    rw (le-leb _ _ inside.0, le-leb _ _ inside.1) refl

-- ra is EXIT
pub exit_shown : (e : EdgeView) → slice_index_or e.ranges 1 (just 0) ≡ just exit → is_interval_shown e (fact 1 exit exit None) ≡ true
exit_shown e at =
    interval_shown e (fact 1 exit exit None) (subst (λ (r : Range). exit ≤ r.lo) (sym at) (omega arith))
    (subst (λ (r : Range). r.hi ≤ exit) (sym at) (omega arith))

-- ---- what is stated of the count and of pointers

pub if_stated : (P : RegisterFact → Type 0) (loop : Loop) (of_count : RegisterFact) (of_pointer : ℕ → RegisterFact) (place : ℕ)
    → (place + 10 ≡ loop.count → P of_count) → (is_pointer loop place ≡ true → P (of_pointer place))
    → IfSome (stated_by loop of_count of_pointer place) P
if_stated P loop of_count of_pointer place at_count at_pointer =
    by_tests (place + 10 == loop.count) (is_flagged (place + 10) loop.pointers) refl refl
  where
    by_tests : (t u : Bool) → (place + 10 == loop.count) ≡ t → is_flagged (place + 10) loop.pointers ≡ u
        → IfSome (if t then Some of_count else (if u then Some (of_pointer place) else None)) P
    by_tests true u e f = at_count (eqb-true _ _ e)
    by_tests false true e f = at_pointer f
    by_tests false false e f = tt

-- ---- an edge to a block

for_block : (o : Option ℕ) (address : ℕ) (blocks : List Block) (b : Block) → o ≡ Some address → address ≢ exit → block_at address blocks ≡ Some b
    → block_for o blocks ≡ Some b
unfolding block_for
for_block o address blocks b is ne at = rw (is, ne_eqb address exit ne) at

told : (pc : ℕ) (e : EdgeView) (o : Option Block) (b : Block) → o ≡ Some b → implies_block e b ≡ Ok tt → told_at pc (implied_by e o) ≡ Ok tt
unfolding implied_by
told pc e o b is ok = rw is (ap (λ x. told_at pc x) ok)

pub edge_ok : (certificate : CertificateView) (pc address : ℕ) (e : EdgeView) (b : Block) → e.target ≡ Some address → address ≢ exit
    → block_at address certificate.blocks ≡ Some b → implies_block e b ≡ Ok tt → edge_passes certificate pc e ≡ Ok tt
unfolding edge_passes
edge_ok certificate pc address e b target ne at ok =
    told pc e (block_for e.target certificate.blocks) b (for_block e.target address certificate.blocks b target ne at) ok
