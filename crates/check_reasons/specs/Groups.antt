-- Facts on vector registers, and in which words they are told.
use Rattle.std.specs.Prelude.{ℕ, ◌==◌, ◌++◌, find, List, codes, Option, if◌then◌else◌}
use Rattle.std.specs.Fmt.{decimal}
use Rattle.cert_note.specs.declared.values.VectorFact.{VectorFact}
use Rattle.abs_transfer.specs.Facts.{fact_range}
use Rattle.check_reasons.specs.Spans.{span_text}

-- what is known of a group that begins at a register
abbrev pub group_at : ℕ → List VectorFact → Option VectorFact
group_at register groups = find (λ fact. fact.register == register) groups

-- ---- the words

-- how many elements a fact speaks of; 0 stands for vl
unfoldable pub count_text : ℕ → List ℕ
count_text count = if count == 0 then codes "vl" else decimal count

abbrev pub group_text : VectorFact → List ℕ
group_text fact =
    codes "v" ++ (decimal fact.register ++ (codes ", registers " ++ (decimal fact.registers
    ++ (codes ", SEW " ++ decimal fact.width))))

abbrev pub elements_text : VectorFact → List ℕ
elements_text fact =
    codes ": " ++ (count_text fact.count
    ++ (codes " elements in " ++ span_text (fact_range fact)))

unfoldable pub vector_text : VectorFact → List ℕ
vector_text fact = group_text fact ++ elements_text fact
