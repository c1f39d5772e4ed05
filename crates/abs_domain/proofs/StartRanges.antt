-- The form and the range of a number where a block begins.
use Rattle.std.proofs.Common.{◌≡◌, ℕ, ◌<◌, List, map, get_or, Option, Some, ap, ◌∙◌, arith}
use Rattle.std.specs.List.{range_with_len}
use Rattle.std.proofs.lemmas.List.FromFn.{get_or-map-range_with_len}
use Rattle.linear_facts.specs.declared.ranges.Range.{Range}
use Rattle.linear_facts.specs.Forms.{Linear}
use Rattle.linear_facts.specs.Ranges.{AtomTable}
use Rattle.linear_facts.specs.Sums.{range_of_form}
use Rattle.cert_note.specs.declared.values.RegisterFact.{RegisterFact}
use Rattle.abs_domain.specs.Values.{computed_range}
use Rattle.abs_domain.specs.Starts.{stated_range, stated_form}

pub form_there : (facts : List RegisterFact) (forms : List Linear) (n : ℕ) (f : Linear) → forms ≡ map (stated_form facts) (range_with_len 0 33)
    → n < 33 → f ≡ get_or forms n f → f ≡ stated_form facts n
form_there facts forms n f all l e =
    e ∙ (ap (λ (fs : List Linear). get_or fs n f) all ∙ get_or-map-range_with_len (stated_form facts) 0 33 n n f l (omega arith))

pub range_there : (table : AtomTable) (facts : List RegisterFact) (n : ℕ) (f : Linear) (r x : Range) (o : Option Range) → f ≡ stated_form facts n
    → r ≡ stated_range facts n → o ≡ range_of_form table f → x ≡ computed_range (Some r) o
    → x ≡ computed_range (Some (stated_range facts n)) (range_of_form table (stated_form facts n))
range_there table facts n f r x o form range rule e =
    e ∙ (ap (λ (q : Range). computed_range (Some q) o) range
    ∙ ap (computed_range (Some (stated_range facts n))) (rule ∙ ap (range_of_form table) form))
