-- The words for a budget.
use Rattle.std.specs.Prelude.{ℕ, ◌==◌, ◌++◌, List, [], codes, if◌then◌else◌}
use Rattle.std.specs.Fmt.{decimal}
use Rattle.cert_note.specs.Words.{Budget}

abbrev pub product_text : ℕ → ℕ → List ℕ
product_text factor register =
    codes " + " ++ (decimal factor ++ (codes " * x" ++ decimal register))

-- The second register follows where there is one.
abbrev pub budget_text : Budget → List ℕ
budget_text budget = decimal budget.constant ++ (product_text budget.factor budget.register
    ++ (if budget.second_factor == 0 then []
    else product_text budget.second_factor budget.second_register))
