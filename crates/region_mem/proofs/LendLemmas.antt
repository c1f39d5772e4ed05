-- What is written to a part that was lent leaves as many bytes.
use Rattle.std.proofs.Common.{◌≡◌, ℕ, ◌+◌, ◌-◌, ◌<◌, ◌≤◌, Bool, true, false, cond, List, map, set, get_or, refl, ◌++◌, length, take, drop, position, Some, None, is_some, arith, ap, sym, ◌∙◌}
use Rattle.std.specs.List.{position_or_len}
use Rattle.std.proofs.lemmas.Grind.{common_steps}
use Rattle.std.proofs.lemmas.List.Quantifiers.{position-Some}
use Rattle.region_mem.specs.Words.{Right, Write}
use Rattle.region_mem.specs.Areas.{Area, AreInOrder, ArePlaced, nothing, holds, spans, part_of, part_into, overlaid, overlaid_area, window_in}
use Rattle.region_mem.specs.AccessLemmas.{find_place, find_none, admits_spans, spans_from, spans_to}
use Rattle.region_mem.specs.SearchLemmas.{same_place}
use Rattle.region_mem.proofs.WindowLaws.{place_in, area_in, window_below, area_admits}
use Rattle.region_mem.proofs.WindowFills.{window_filled}
use Rattle.region_mem.proofs.WindowLemmas.{window_at, window_nowhere, admits_holds}
use Rattle.region_mem.proofs.WindowWrites.{window_admits}
use Rattle.region_mem.specs.ExtentLemmas.{order_of, inside_of}
use Rattle.std.proofs.Math.Seq.{map-set_same}
use Rattle.std.proofs.lemmas.Option.{slice_get-get_or}
use Rattle.region_mem.specs.Laws.{extent_of, LentWindowsAreWritten}
use Rattle.region_mem.specs.Memory.{Memory, has_window, overlaid_window}
use Rattle.std.proofs.lemmas.List.{length-append, length-take-le, length-drop, take-append-drop, take_all, append_assoc, drop-drop}

pub length_overlaid : (at : ℕ) (bytes ws : List ℕ) → length (overlaid at bytes ws) ≡ length bytes
unfolding overlaid
length_overlaid at bytes ws =
    let both : length (take at bytes) + length (drop at bytes) ≡ length bytes =
    sym (length-append (take at bytes) (drop at bytes)) ∙ ap length (take-append-drop at bytes) in
    let rest = length-append ws (drop (length ws) (drop at bytes)) in
    let all = length-append (take at bytes) (ws ++ drop (length ws) (drop at bytes)) in
    let enough : length bytes ≤ length (take at bytes ++ (ws ++ drop (length ws) (drop at bytes))) =
    omega (arith, both, rest, all, length-drop (length ws) (drop at bytes)) in
    length-take-le (length bytes) (take at bytes ++ (ws ++ drop (length ws) (drop at bytes))) enough

pub found_below : (address : ℕ) (areas : List Area) (i : ℕ) → position (holds address) areas ≡ Some i → i < length areas
found_below address areas i found = (position-Some (holds address) areas i nothing found).0

pub found_is : (address : ℕ) (areas : List Area) (i : ℕ) → position (holds address) areas ≡ Some i → i ≡ position_or_len (holds address) areas
found_is address areas i found = grind (arith, common_steps, found)

pub found_some : (right : Right) (address n : ℕ) (areas : List Area) → 0 < n → is_some (window_in right address n areas) ≡ true → position (holds address) areas ≡ None → true ≡ false
found_some right address n areas some has none =
    absurd (cc (has, window_nowhere right address n areas some (find_none (holds address) areas none)))

cond_true : (b : Bool) (bytes : List ℕ) → b ≡ true → cond b (Some bytes) None ≡ Some bytes
cond_true true bytes is = refl
cond_true false bytes is = absurd (cc)

pub window_is : (right : Right) (address n : ℕ) (areas : List Area) (i : ℕ) (d : Area) → 0 < n → AreInOrder 0 areas → position (holds address) areas ≡ Some i →
    is_some (window_in right address n areas) ≡ true → window_in right address n areas ≡ Some (part_of address n (get_or areas i d))
window_is right address n areas i d some order found has =
    window_at right address n areas (get_or areas i d) some order (find_place (holds address) areas i d found)
    ∙ cond_true _ (part_of address n (get_or areas i d)) (window_admits right address n areas i d some order found has)

-- what an index has, whatever stands for one that is too large
same_item : (areas : List Area) (i : ℕ) (a d : Area) → i < length areas → a ≡ get_or areas i a → a ≡ get_or areas i d
same_item areas i a d below is =
    let x = slice_get-get_or areas i a below in
    let y = slice_get-get_or areas i d below in
    cc (x, y, is)

extent_overlaid : (address : ℕ) (a : Area) (ws : List ℕ) → extent_of (overlaid_area address a ws) ≡ extent_of a
unfolding extent_of
extent_overlaid address a ws = rw (length_overlaid (address - a.first) a.bytes ws) refl

pub overlaid_placed : (address i : ℕ) (areas : List Area) (a : Area) (ws : List ℕ) → a ≡ get_or areas i a → ArePlaced areas → ArePlaced (set areas i (overlaid_area address a ws))
overlaid_placed address i areas a ws is placed =
    let same : map extent_of (set areas i (overlaid_area address a ws)) ≡ map extent_of areas =
    map-set_same extent_of areas i (overlaid_area address a ws) a (extent_overlaid address a ws ∙ ap extent_of is) in
    (order_of 0 _ areas same placed.0, inside_of _ areas same placed.1)

pub overlaid_is : (address place : ℕ) (memory : Memory) (a : Area) (ws : List ℕ) → place ≡ position_or_len (holds address) memory.areas → place < length memory.areas →
    a ≡ get_or memory.areas place a → record memory { areas = set memory.areas place (overlaid_area address a ws) } ≡ overlaid_window address memory ws
overlaid_is address place memory a ws at below is =
    let item = same_item memory.areas place a nothing below is in
    ap (λ x. record memory { areas = set memory.areas place (overlaid_area address x ws) }) item
    ∙ ap (λ k. record memory { areas = set memory.areas k (overlaid_area address (get_or memory.areas k nothing) ws) }) at

pub part_is : (address n place : ℕ) (areas : List Area) (a : Area) (bytes : List ℕ) → place < length areas → a ≡ get_or areas place a →
    window_in Write address n areas ≡ Some (part_of address n (get_or areas place nothing)) → bytes ≡ part_of address n a → Some bytes ≡ window_in Write address n areas
part_is address n place areas a bytes below is window part =
    ap Some (part ∙ ap (part_of address n) (same_item areas place a nothing below is)) ∙ sym window

-- Where they fit, bytes over others are bytes in the place of as many.
overlaid_fits : (at : ℕ) (old bytes : List ℕ) → at + length bytes ≤ length old → overlaid at old bytes ≡ take at old ++ bytes ++ drop (at + length bytes) old
unfolding overlaid
overlaid_fits at old bytes fits =
    let rest = drop (length bytes) (drop at old) in
    let size : length (take at old ++ (bytes ++ rest)) ≡ length old =
    omega (arith, length-append (take at old) (bytes ++ rest), length-append bytes rest, length-take-le at old (omega arith), length-drop (length bytes) (drop at old), length-drop at old) in
    take_all (length old) (take at old ++ (bytes ++ rest)) (omega (arith, size))
    ∙ (sym (append_assoc (take at old) bytes rest) ∙ ap (λ xs. take at old ++ bytes ++ xs) (drop-drop (length bytes) at old))

overlaid_part : (address : ℕ) (area : Area) (bytes : List ℕ) → spans address (length bytes) area ≡ true → overlaid_area address area bytes ≡ part_into address bytes area
unfolding part_into
overlaid_part address area bytes span =
    let from = spans_from address (length bytes) area span in
    let to = spans_to address (length bytes) area span in
    ap (λ b. record area { bytes = b }) (overlaid_fits (address - area.first) area.bytes bytes (omega (arith, from, to)))

pub lent_windows_are_written : (memory : Memory) → ArePlaced memory.areas → LentWindowsAreWritten memory
unfolding has_window
lent_windows_are_written memory placed address bytes some has =
    let n = length bytes in
    let areas = memory.areas in
    let i = place_in Write address n areas in
    let area = area_in Write address n areas in
    let below = window_below Write address n areas has in
    let admitted = area_admits Write address n areas has in
    let place = same_place address areas i nothing placed.0 below (admits_holds Write address n area some admitted) in
    ap (λ k. record memory { areas = set areas k (overlaid_area address (get_or areas k nothing) bytes) }) place
    ∙ (ap (λ a. record memory { areas = set areas i a }) (overlaid_part address area bytes (admits_spans Write address n area admitted))
    ∙ sym (window_filled address bytes n memory refl below))
