-- What is true where an edge leads, and what an edge that implies a block, or the end of the
-- run, is good for.
use Rattle.std.specs.Prelude.{ℕ, ◌≡◌, ◌≤◌, ◌+◌, ◌==◌, Bool, true, false, find, Option, Some, None, Ok, IfSome}
use Rattle.abs_state.specs.Words.{exit, Machine, Block, IsCertificate}
use Rattle.abs_state.specs.declared.state.Way.{Way}
use Rattle.abs_state.specs.declared.state.Way.TheVariants.{To, Unknown, Fork}
use Rattle.abs_state.specs.State.{AbstractView}
use Rattle.abs_state.specs.Branches.{EdgeView, refined}
use Rattle.abs_state.specs.Edges.{implied_by}
use Rattle.abs_state.specs.Held.{Setting, Held, Goes, Fits, budget_of}

-- One of the edges out of the last instruction is there, and leads to the machine.
pub record TakesEdge (e : Setting) (n : ℕ) (a : AbstractView) (m : Machine) : Type 0 where
  pub taken : Bool
  pub edge : EdgeView
  pub is : refined taken a ≡ Some edge
  pub goes : Goes e n edge m

-- What is known is true on the edge that is taken; so where there is no edge, it
-- can't come to that.
abbrev pub EdgesAreTaken : Type 0
EdgesAreTaken =
    (e : Setting) (n : ℕ) (a : AbstractView) (m : Machine) → Held e n a m → TakesEdge e n a m

-- the block that begins where the machine is
abbrev pub block_of : Setting → Machine → Option Block
block_of e m = find (λ b. b.start == m.hart.pc) e.certificate.blocks

-- Where an edge implies the block that it leads to, all that the block states is true, and what the
-- budget was pays for the instructions taken and for the block's own budget.
abbrev pub ImpliedFits : Type 0
ImpliedFits =
    (e : Setting) (n : ℕ) (edge : EdgeView) (block : Block) (m : Machine) → Goes e n edge m
    → block_of e m ≡ Some block → IsCertificate e.certificate → implied_by edge (Some block) ≡ Ok tt
    → Fits e block m
    × IfSome edge.state.budget (λ own. budget_of block.budget m.hart + edge.state.words ≤ n)

-- Where an edge implies the end of the run, the run has ended, and what the budget was pays for the
-- instructions taken.
abbrev pub ImpliedEnds : Type 0
ImpliedEnds =
    (e : Setting) (n : ℕ) (edge : EdgeView) (m : Machine) → Goes e n edge m
    → implied_by edge None ≡ Ok tt
    → (m.hart.pc ≡ exit) × IfSome edge.state.budget (λ own. edge.state.words ≤ n)

-- An edge has the state that it leaves.
abbrev pub EdgesKeep : Type 0
EdgesKeep =
    (taken : Bool) (a : AbstractView) (edge : EdgeView) → refined taken a ≡ Some edge
    → edge.state ≡ a

-- whether a way is a branch's
abbrev pub is_fork : Way → Bool
is_fork (To target) = false
is_fork Unknown = false
is_fork (Fork condition rs1 rs2 target next) = true

-- An instruction that is no branch has one edge.
abbrev pub OneEdge : Type 0
OneEdge =
    (taken : Bool) (a : AbstractView) → is_fork a.way ≡ false
    → refined taken a ≡ refined false a

-- An edge leads where the instruction is known to lead.
abbrev pub StraightEdges : Type 0
StraightEdges =
    (taken : Bool) (a : AbstractView) (target : ℕ) (edge : EdgeView) → a.way ≡ To target
    → refined taken a ≡ Some edge → edge.target ≡ Some target
