-- What is written to a window goes into the area that has it, and moves none.
use Rattle.std.proofs.Common.{◌≡◌, ℕ, suc, ◌+◌, ◌-◌, ◌<◌, ◌≤◌, Bool, true, false, not, cond, List, [], ◌∷◌, ◌++◌, length, take, drop, set, position, Some, None, is_some, get_or, arith, sym, ap, refl, ◌∙◌}
use Rattle.std.specs.List.{position_or_len}
use Rattle.std.proofs.lemmas.List.{length-append, length-take-le, length-drop}
use Rattle.region_mem.specs.Words.{Right, Write}
use Rattle.region_mem.specs.Areas.{Area, AreInOrder, holds, spans, admits, part_of, part_into, with_part, window_in}
use Rattle.region_mem.specs.Laws.{extent_of}
use Rattle.region_mem.specs.WriteLemmas.{suc_first}
use Rattle.region_mem.specs.AccessLemmas.{find_place, admits_spans, spans_from, spans_to}
use Rattle.region_mem.proofs.WindowLemmas.{window_at}

-- Where there is a window a search for its first address finds the area that has it.
is_some_cond : (b : Bool) (bytes : List ℕ) → is_some (cond b (Some bytes) None) ≡ true → b ≡ true
is_some_cond true bytes is = refl
is_some_cond false bytes is = absurd (cc)

pub window_admits : (right : Right) (address n : ℕ) (areas : List Area) (i : ℕ) (d : Area) → 0 < n → AreInOrder 0 areas →
    position (holds address) areas ≡ Some i → is_some (window_in right address n areas) ≡ true → admits right address n (get_or areas i d) ≡ true
window_admits right address n areas i d some order found has =
    let at = window_at right address n areas (get_or areas i d) some order (find_place (holds address) areas i d found) in
    is_some_cond (admits right address n (get_or areas i d)) (part_of address n (get_or areas i d)) (ap is_some (sym at) ∙ has)

pub window_spans : (right : Right) (address n : ℕ) (areas : List Area) (i : ℕ) (d : Area) → 0 < n → AreInOrder 0 areas →
    position (holds address) areas ≡ Some i → is_some (window_in right address n areas) ≡ true → spans address n (get_or areas i d) ≡ true
window_spans right address n areas i d some order found has =
    admits_spans right address n (get_or areas i d) (window_admits right address n areas i d some order found has)

-- What is written to a window goes into that area.
part_step : (b : Bool) (address : ℕ) (bytes : List ℕ) (area : Area) (areas : List Area) (d : Area) (n : ℕ) →
    (n < length areas → with_part address bytes areas ≡ set areas n (part_into address bytes (get_or areas n d))) →
    cond (not b) (1 + n) 0 < suc (length areas) →
    cond b (part_into address bytes area ∷ areas) (area ∷ with_part address bytes areas)
    ≡ set (area ∷ areas) (cond (not b) (1 + n) 0) (part_into address bytes (get_or (area ∷ areas) (cond (not b) (1 + n) 0) d))
part_step true address bytes area areas d n rest below = refl
part_step false address bytes area areas d n rest below =
    let here : n < length areas = omega arith in
    rw suc_first (ap (λ xs. area ∷ xs) (rest here))

pub part_first : (address : ℕ) (bytes : List ℕ) (areas : List Area) (d : Area) → position_or_len (admits Write address (length bytes)) areas < length areas →
    with_part address bytes areas ≡ set areas (position_or_len (admits Write address (length bytes)) areas)
    (part_into address bytes (get_or areas (position_or_len (admits Write address (length bytes)) areas) d))
unfolding with_part
part_first address bytes [] d below = absurd (omega arith)
part_first address bytes (area ∷ areas) d below =
    part_step (admits Write address (length bytes) area) address bytes area areas d (position_or_len (admits Write address (length bytes)) areas)
    (part_first address bytes areas d) below

-- It moves no area.
length_part : (at : ℕ) (bytes old : List ℕ) → at + length bytes ≤ length old → length (take at old ++ bytes ++ drop (at + length bytes) old) ≡ length old
length_part at bytes old fits =
    omega (arith, length-append (take at old ++ bytes) (drop (at + length bytes) old), length-append (take at old) bytes, length-take-le at old (omega arith), length-drop (at + length bytes) old)

pub part_keeps : (address : ℕ) (bytes : List ℕ) (area : Area) → spans address (length bytes) area ≡ true → extent_of (part_into address bytes area) ≡ extent_of area
unfolding extent_of part_into
part_keeps address bytes area span =
    rw (length_part (address - area.first) bytes area.bytes (omega (arith, spans_from address (length bytes) area span, spans_to address (length bytes) area span))) refl
