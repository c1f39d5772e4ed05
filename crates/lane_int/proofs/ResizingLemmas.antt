-- A kernel that writes the number of each element of another list.
use Rattle.std.proofs.Common.{◌≡◌, ℕ, ◌+◌, ◌<◌, List, length, get_or, set, map, ap, sym, ◌∙◌, arith}
use Rattle.std.proofs.lemmas.List.{get_or-map, length-map, map-set}
use Rattle.lane_int.proofs.Overlay.{overlaid, overlaid_more}

pub each_more : {A X : Type 0} (number : X → ℕ) (f : A → ℕ) (xs : List A) (i : ℕ) (x : A) (old : List ℕ) (now : List X) (y : X) → map number now ≡ overlaid i (map f xs) old → i < length old → length xs ≡ length old → x ≡ get_or xs i x → number y ≡ f x → map number (set now i y) ≡ overlaid (i + 1) (map f xs) old
each_more number f xs i x old now y e lt same is_x is_y =
    let at : get_or (map f xs) i (number y) ≡ f (get_or xs i x) = get_or-map f xs i x (number y) (omega arith) in
    map-set number now i y ∙ overlaid_more i (map f xs) old (map number now) (number y) e lt (length-map xs f ∙ same) (at ∙ ap f (sym is_x) ∙ sym is_y)
