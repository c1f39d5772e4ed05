-- The places of buffers, and the lines of zones, one by one.
use Rattle.std.proofs.Common.{◌≡◌, ℕ, ◌+◌, ◌<◌, ◌≤◌, List, [], ◌∷◌, ◌++◌, length, drop, take, get_or, ap, sym, ◌∙◌, zero, suc, append_assoc, append-nil, arith}
use Rattle.std.proofs.lemmas.List.{drop_more, drop_all}
use Rattle.std.proofs.lemmas.Grind.{common_steps}
use Rattle.region_mem.specs.declared.parameter.Param.{Param}
use Rattle.abs_domain.specs.declared.zones.Zone.{Zone}
use Rattle.check_reasons.specs.Access.{buffer_place, buffer_places, zone_line, zones_from}

places_step : (params : List Param) (i : ℕ) (d : Param) → i < length params
    → buffer_places i (drop i params)
    ≡ buffer_place i (get_or params i d) ++ buffer_places (i + 1) (drop (i + 1) params)
unfolding buffer_places
places_step params i d l = ap (buffer_places i) (drop_more params i d l)

places_end : (params : List Param) (i : ℕ) → length params ≤ i → buffer_places i (drop i params) ≡ []
unfolding buffer_places
places_end params i l = ap (buffer_places i) (drop_all i params l)

-- the places so far and those that are left
pub places_more : (params : List Param) (i : ℕ) (d : Param) (front places all : List ℕ) → i < length params
    → front ++ buffer_places i (drop i params) ≡ all
    → places ≡ front ++ buffer_place i (get_or params i d)
    → places ++ buffer_places (i + 1) (drop (i + 1) params) ≡ all
places_more params i d front places all l e f =
    ap (λ xs. xs ++ buffer_places (i + 1) (drop (i + 1) params)) f
    ∙ (append_assoc front (buffer_place i (get_or params i d)) (buffer_places (i + 1) (drop (i + 1) params))
    ∙ (ap (λ xs. front ++ xs) (sym (places_step params i d l)) ∙ e))

pub places_done : (params : List Param) (i : ℕ) (front all : List ℕ) → length params ≤ i
    → front ++ buffer_places i (drop i params) ≡ all → front ≡ all
places_done params i front all l e =
    sym (append-nil front) ∙ (ap (λ xs. front ++ xs) (sym (places_end params i l)) ∙ e)

-- ---- the lines of zones

zones_later : (s : ℕ) (b : List ℕ) (n k : ℕ) (xs : List Zone) (d : Zone) → k < length xs
    → zones_from s b n (take k xs) ++ zone_line s b (n + k) (get_or xs k d) ≡ zones_from s b n (take (suc k) xs)
unfolding zones_from
zones_later s b n k [] d l = absurd (omega (arith, l))
zones_later s b n zero (x ∷ xs) d l = grind (arith, common_steps)
zones_later s b n (suc k) (x ∷ xs) d l =
    append_assoc (zone_line s b n x) (zones_from s b (n + 1) (take k xs)) (zone_line s b (n + suc k) (get_or xs k d))
    ∙ ap (λ t. zone_line s b n x ++ t) (ap (λ i. zones_from s b (n + 1) (take k xs) ++ zone_line s b i (get_or xs k d)) (next n k)
    ∙ zones_later s b (n + 1) k xs d (omega (arith, l)))
  where
    next : (n k : ℕ) → n + suc k ≡ (n + 1) + k
    next n k = grind (arith)

-- the lines so far, and that of the zone at a place
pub zones_snoc : (s : ℕ) (b : List ℕ) (k : ℕ) (xs : List Zone) (d : Zone) → k < length xs
    → zones_from s b 0 (take k xs) ++ zone_line s b k (get_or xs k d) ≡ zones_from s b 0 (take (k + 1) xs)
zones_snoc s b k xs d l =
    ap (λ i. zones_from s b 0 (take k xs) ++ zone_line s b i (get_or xs k d)) (at k)
    ∙ (zones_later s b 0 k xs d l ∙ ap (λ i. zones_from s b 0 (take i xs)) (behind k))
  where
    at : (k : ℕ) → k ≡ 0 + k
    at k = grind (arith)

    behind : (k : ℕ) → suc k ≡ k + 1
    behind k = grind (arith)
