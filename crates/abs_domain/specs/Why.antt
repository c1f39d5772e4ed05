-- What could not be proved, in words.
use Rattle.std.specs.Prelude.{ℕ, List, codes}
use Rattle.abs_domain.specs.declared.why.Why.{Why}
use Rattle.abs_domain.specs.declared.why.Why.TheVariants as why

abbrev pub why_text : Why → List ℕ
why_text why.IllegalWord = codes "no legal instruction"
why_text why.VtypeUnknown = codes "the vector type is not known"
why_text why.AccessNotProved = codes "an access is not proved"
why_text why.ReadOnly = codes "a store to read-only memory"
why_text why.TargetNotABlock = codes "a target is no block"
why_text why.IntervalNotProved = codes "an interval is not proved"
why_text why.EqualityNotProved = codes "an equality is not proved"
why_text why.OrderNotProved = codes "an order is not proved"
why_text why.VectorFactNotProved = codes "a vector fact is not proved"
why_text why.BudgetNotProved = codes "a budget is not proved"
