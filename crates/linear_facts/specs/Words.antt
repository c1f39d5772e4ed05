-- The types of this crate, and the variants whose name alone says whose they are.
pub use Rattle.linear_facts.specs.declared.forms.Term.{Term}
pub use Rattle.linear_facts.specs.declared.ranges.{Atom.Atom, Change.Change, End.End, Range.Range, Split.Split}
pub use Rattle.linear_facts.specs.declared.ranges.End.TheVariants.{Lo, Hi}
pub use Rattle.linear_facts.specs.declared.sums.{Interval.Interval, WholeTerm.WholeTerm}
pub use Rattle.linear_facts.specs.declared.sums.Side.{Side}
pub use Rattle.linear_facts.specs.declared.sums.Side.TheVariants.{Added, Taken}
