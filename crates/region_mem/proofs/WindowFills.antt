-- Stores end to end in a window leave what one write of their bytes leaves.
use Rattle.std.proofs.Common.{◌≡◌, ℕ, zero, suc, ◌+◌, ◌*◌, ◌<◌, ◌≤◌, Bool, true, false, ◌&&◌, cond, subst, List, [], ◌∷◌, ◌++◌, length, take, map, set, flat_map, Some, None, unwrap_or, slice_index, get_or, arith, sym, ap, refl, ◌∙◌}
use Rattle.std.specs.List.{fold, range_with_len}
use Rattle.std.proofs.Math.Seq.{map-set_same}
use Rattle.std.proofs.lemmas.Grind.{flat_map-append}
use Rattle.std.proofs.lemmas.List.{length-append, length-take-le, take_more, take_all, append-nil, set-get_or, set-set, get_or-set_same, length-set}
use Rattle.std.proofs.lemmas.List.Sums.{fold-append}
use Rattle.std.proofs.lemmas.Nat.{column_fits}
use Rattle.region_mem.specs.Words.{Right, Read, Write, Fetch}
use Rattle.region_mem.specs.Areas.{Area, nothing, ArePlaced, spans, admits, has_right, bytes_of, part_into}
use Rattle.region_mem.specs.Memory.{Memory, is_permitted, store_of, has_window, with_window}
use Rattle.region_mem.specs.Laws.{extent_of, StoresFillWindows}
use Rattle.region_mem.specs.PartLemmas.{parts_join, part_none, length_bytes}
use Rattle.region_mem.specs.ExtentLemmas.{order_of, inside_of}
use Rattle.region_mem.specs.AccessLemmas.{admits_spans, spans_from, spans_to, number_goes}
use Rattle.region_mem.proofs.WindowWrites.{part_keeps, part_first}
use Rattle.region_mem.proofs.WindowLaws.{place_in, window_below, area_admits, admits_part, open_in_area}

-- the bytes of the first values
abbrev front_bytes : ℕ → List ℕ → ℕ → List ℕ
front_bytes size values j = flat_map (bytes_of size) (take j values)

length_flat : (size : ℕ) (values : List ℕ) → length (flat_map (bytes_of size) values) ≡ size * length values
length_flat size [] = omega arith
length_flat size (v ∷ values) =
    omega (arith, length-append (bytes_of size v) (flat_map (bytes_of size) values), length_bytes size v, length_flat size values)

length_front : (size j : ℕ) (values : List ℕ) → j ≤ length values → length (front_bytes size values j) ≡ size * j
length_front size j values le = length_flat size (take j values) ∙ ap (λ k. size * k) (length-take-le j values le)

front_more : (size j : ℕ) (values : List ℕ) → j < length values → front_bytes size values (j + 1) ≡ front_bytes size values j ++ bytes_of size (slice_index values j)
front_more size j values lt =
    ap (flat_map (bytes_of size)) (take_more values j 0 lt)
    ∙ (flat_map-append (bytes_of size) (take j values) (slice_index values j ∷ [])
    ∙ ap (λ bs. front_bytes size values j ++ bs) (append-nil (bytes_of size (slice_index values j))))

range_more : (a n : ℕ) → range_with_len a (suc n) ≡ range_with_len a n ++ (a + n) ∷ []
range_more a zero = let same : a ≡ a + 0 = omega arith in ap (λ k. k ∷ []) same
range_more a (suc n) =
    let same : (a + 1) + n ≡ a + suc n = omega arith in
    ap (λ xs. a ∷ xs) (range_more (a + 1) n ∙ ap (λ k. range_with_len (a + 1) n ++ k ∷ []) same)

fold_more : (f : Memory → ℕ → Memory) (memory : Memory) (n : ℕ) → fold f memory (range_with_len 0 (suc n)) ≡ f (fold f memory (range_with_len 0 n)) n
fold_more f memory n =
    let same : 0 + n ≡ n = omega arith in
    ap (fold f memory) (range_more 0 n ∙ ap (λ k. range_with_len 0 n ++ k ∷ []) same) ∙ fold-append f memory (range_with_len 0 n) (n ∷ [])

-- An area with the same extent admits the same.
rights : (right : Right) (a b : Area) → a.read ≡ b.read → a.write ≡ b.write → a.fetch ≡ b.fetch → has_right right a ≡ has_right right b
unfolding has_right
rights Read a b read write fetch = read
rights Write a b read write fetch = write
rights Fetch a b read write fetch = fetch

spans_same : (address n : ℕ) (a b : Area) → a.first ≡ b.first → length a.bytes ≡ length b.bytes → spans address n a ≡ spans address n b
unfolding spans
spans_same address n a b first size = rw (first, size) refl

admits_same : (right : Right) (address n : ℕ) (a b : Area) → extent_of a ≡ extent_of b → admits right address n a ≡ admits right address n b
unfolding admits extent_of
admits_same right address n a b same =
    let first : a.first ≡ b.first = ap (λ e. e.first) same in
    let size : length a.bytes ≡ length b.bytes = ap (λ e. e.size) same in
    let read : a.read ≡ b.read = ap (λ e. e.read) same in
    let write : a.write ≡ b.write = ap (λ e. e.write) same in
    let fetch : a.fetch ≡ b.fetch = ap (λ e. e.fetch) same in
    ap (λ x. x && has_right right a) (spans_same address n a b first size) ∙ ap (λ x. spans address n b && x) (rights right a b read write fetch)

store_is : (b : Bool) (memory stored : Memory) → b ≡ true → unwrap_or (cond b (Some stored) None) memory ≡ stored
store_is true memory stored is = refl
store_is false memory stored is = absurd (cc)

-- the memory whose area at a place has these bytes from an address on
abbrev filled : Memory → ℕ → ℕ → List ℕ → Memory
filled memory i address bytes = record memory { areas = set memory.areas i (part_into address bytes (get_or memory.areas i nothing)) }

fill_step : (memory : Memory) (address n i at size value : ℕ) (bytes : List ℕ) → ArePlaced memory.areas → i < length memory.areas →
    admits Write address n (get_or memory.areas i nothing) ≡ true → address + length bytes ≡ at → at + size ≤ address + n →
    unwrap_or (store_of at size value (filled memory i address bytes)) (filled memory i address bytes) ≡ filled memory i address (bytes ++ bytes_of size value)
unfolding store_of is_permitted
fill_step memory address n i at size value bytes placed below admitted place fits =
    let areas = memory.areas in
    let area = get_or areas i nothing in
    let new = part_into address bytes area in
    let next = set areas i new in
    let span = admits_spans Write address n area admitted in
    let from = spans_from address n area span in
    let to = spans_to address n area span in
    let front = admits_part Write address n address (length bytes) area admitted (omega arith) (omega (arith, place)) in
    let same : extent_of new ≡ extent_of area = part_keeps address bytes area (admits_spans Write address (length bytes) area front) in
    let extents : map extent_of next ≡ map extent_of areas = map-set_same extent_of areas i new nothing same in
    let placed2 : ArePlaced next = (order_of 0 next areas extents placed.0, inside_of next areas extents placed.1) in
    let below2 : i < length next = rw (length-set areas i new) below in
    let got : get_or next i nothing ≡ new = get_or-set_same areas i new nothing below in
    let here = admits_part Write address n at size new (admits_same Write address n new area same ∙ admitted) (omega (arith, place)) fits in
    let here2 : admits Write at size (get_or next i nothing) ≡ true = ap (admits Write at size) got ∙ here in
    let opened = open_in_area Write at size next i nothing placed2 below2 here2 in
    let span2 = admits_spans Write at size (get_or next i nothing) here2 in
    let goes = number_goes size at value next i nothing placed2.0 below2 (spans_from at size _ span2) (spans_to at size _ span2) in
    let join : part_into at (bytes_of size value) new ≡ part_into address (bytes ++ bytes_of size value) area =
    ap (λ k. part_into k (bytes_of size value) new) (sym place) ∙ parts_join address bytes (bytes_of size value) area from (omega (arith, to)) in
    store_is _ _ _ opened
    ∙ ap (λ xs. record memory { areas = xs }) (goes ∙ (set-set areas i new (part_into at (bytes_of size value) (get_or next i nothing))
    ∙ ap (set areas i) (ap (part_into at (bytes_of size value)) got ∙ join)))

fill_up : (place : ℕ → ℕ) (memory : Memory) (address size i j : ℕ) (values : List ℕ) → ArePlaced memory.areas → i < length memory.areas →
    admits Write address (size * length values) (get_or memory.areas i nothing) ≡ true → ((k : ℕ) → k < length values → place k ≡ address + size * k) → j ≤ length values →
    fold (λ m k. unwrap_or (store_of (place k) size (slice_index values k) m) m) memory (range_with_len 0 j) ≡ filled memory i address (front_bytes size values j)
fill_up place memory address size i zero values placed below admitted places le =
    ap (λ xs. record memory { areas = xs }) (sym (set-get_or memory.areas i nothing) ∙ ap (set memory.areas i) (sym (part_none address (get_or memory.areas i nothing))))
fill_up place memory address size i (suc j) values placed below admitted places le =
    let next : suc j ≡ j + 1 = omega arith in
    let lt : j < length values = omega arith in
    let f : Memory → ℕ → Memory = λ m k. unwrap_or (store_of (place k) size (slice_index values k) m) m in
    let front = front_bytes size values j in
    let first = fill_up place memory address size i j values placed below admitted places (omega arith) in
    let at : address + length front ≡ place j = omega (arith, length_front size j values (omega arith), places j lt) in
    let room = column_fits size j size (length values) lt (omega arith) in
    let step = fill_step memory address (size * length values) i (place j) size (slice_index values j) front placed below admitted at (omega (arith, places j lt, room)) in
    fold_more f memory j ∙ (ap (λ m. f m j) first ∙ (step
    ∙ (ap (filled memory i address) (sym (front_more size j values lt)) ∙ ap (λ k. filled memory i address (front_bytes size values k)) (sym next))))

pub window_filled : (address : ℕ) (bytes : List ℕ) (n : ℕ) (memory : Memory) → length bytes ≡ n → place_in Write address n memory.areas < length memory.areas →
    with_window address bytes memory ≡ filled memory (place_in Write address n memory.areas) address bytes
unfolding with_window
window_filled address bytes n memory size below =
    let P : ℕ → Type 0 = λ k. place_in Write address k memory.areas < length memory.areas →
    with_window address bytes memory ≡ filled memory (place_in Write address k memory.areas) address bytes in
    subst P size (λ b. ap (λ xs. record memory { areas = xs }) (part_first address bytes memory.areas nothing b)) below

pub stores_fill_windows : (memory : Memory) → ArePlaced memory.areas → StoresFillWindows memory
unfolding has_window
stores_fill_windows memory placed place address size values has places =
    let n : ℕ = size * length values in
    let i = place_in Write address n memory.areas in
    let below = window_below Write address n memory.areas has in
    let all = fill_up place memory address size i (length values) values placed below (area_admits Write address n memory.areas has) places (omega arith) in
    let bytes = flat_map (bytes_of size) values in
    all ∙ (ap (λ vs. filled memory i address (flat_map (bytes_of size) vs)) (take_all (length values) values (omega arith))
    ∙ sym (window_filled address bytes n memory (length_flat size values) below))
