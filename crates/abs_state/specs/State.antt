-- What is known of a machine at an instruction of a kernel.
use Rattle.std.specs.Prelude.{ℕ, List, Option}
use Rattle.abs_state.specs.Words.{Budget, VectorFact}
use Rattle.abs_domain.specs.declared.zones.Zone.{Zone}
use Rattle.abs_state.specs.declared.state.Way.{Way}
use Rattle.abs_domain.specs.Values.{ValueView}
use Rattle.abs_domain.specs.Numbers.{NumbersView}

-- The numbers of registers and vl; the zones of memory; vtype, if it is known; facts on vector
-- registers, of groups that share none. Of the block: its budget (none on the way from the entry),
-- the number that the budget's register had at the block's start, and that of its second one, how
-- many instructions have been taken, and where the last of them leads.
pub record AbstractView : Type 0 where
  pub vlenb : ℕ
  pub numbers : NumbersView
  pub zones : List Zone
  pub vtype : Option ℕ
  pub groups : List VectorFact
  pub budget : Option Budget
  pub paid : ValueView
  pub second_paid : ValueView
  pub words : ℕ
  pub way : Way
