-- The words for an interval, and for that of vl.
use Rattle.std.specs.Prelude.{ℕ, ◌++◌, List, codes}
use Rattle.linear_facts.specs.declared.ranges.Range.{Range}
use Rattle.explanations.specs.Address.{address_text}

abbrev pub span_text : Range → List ℕ
span_text r = address_text r.lo ++ (codes "..=" ++ address_text r.hi)

abbrev pub vl_line : Range → List ℕ
vl_line vl = codes "  known: vl in " ++ (span_text vl ++ codes "\n")
