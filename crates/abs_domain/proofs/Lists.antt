-- Zones of buffers, one by one.
use Rattle.std.proofs.Common.{◌≡◌, ℕ, ◌+◌, ◌<◌, ◌≤◌, Option, List, [], ◌++◌, length, drop, get_or, ap, sym, ◌∙◌, append_assoc, append-nil}
use Rattle.std.specs.Option.{option_to_list}
use Rattle.std.proofs.lemmas.List.{drop_more, drop_all}
use Rattle.region_mem.specs.declared.parameter.Param.{Param}
use Rattle.abs_domain.specs.declared.zones.Zone.{Zone}
use Rattle.abs_domain.specs.Zones.{buffer_zone, buffer_zones}

buffer_zones_more : (params : List Param) (i : ℕ) (d : Param) → i < length params
    → buffer_zones params i (drop i params)
    ≡ option_to_list (buffer_zone params i (get_or params i d)) ++ buffer_zones params (i + 1) (drop (i + 1) params)
unfolding buffer_zones
buffer_zones_more params i d l = ap (λ xs. buffer_zones params i xs) (drop_more params i d l)

buffer_zones_done : (params : List Param) (i : ℕ) → length params ≤ i → buffer_zones params i (drop i params) ≡ []
unfolding buffer_zones
buffer_zones_done params i l = ap (λ xs. buffer_zones params i xs) (drop_all i params l)

-- the zones so far and those of the places that are left
pub zones_more : (params : List Param) (i : ℕ) (d : Param) (front zones all : List Zone) → i < length params
    → front ++ buffer_zones params i (drop i params) ≡ all
    → zones ≡ front ++ option_to_list (buffer_zone params i (get_or params i d))
    → zones ++ buffer_zones params (i + 1) (drop (i + 1) params) ≡ all
zones_more params i d front zones all l e f =
    ap (λ xs. xs ++ buffer_zones params (i + 1) (drop (i + 1) params)) f
    ∙ (append_assoc front (option_to_list (buffer_zone params i (get_or params i d))) (buffer_zones params (i + 1) (drop (i + 1) params))
    ∙ (ap (λ xs. front ++ xs) (sym (buffer_zones_more params i d l)) ∙ e))

pub zones_done : (params : List Param) (i : ℕ) (front all : List Zone) → length params ≤ i
    → front ++ buffer_zones params i (drop i params) ≡ all → front ≡ all
zones_done params i front all l e =
    sym (append-nil front) ∙ (ap (λ xs. front ++ xs) (sym (buffer_zones_done params i l)) ∙ e)

-- the zone of a place, by another name of the parameters
pub zone_is : (params ps : List Param) (i : ℕ) (p : Param) (o : Option Zone) → o ≡ buffer_zone ps i p → params ≡ ps
    → o ≡ buffer_zone params i p
zone_is params ps i p o e f = e ∙ ap (λ xs. buffer_zone xs i p) (sym f)
