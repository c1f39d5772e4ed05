-- The elements that are kept, from the front on.
use Rattle.std.proofs.Common.{◌≡◌, ℕ, ◌+◌, ◌<◌, ◌≤◌, Bool, true, false, List, [], ◌∷◌, ◌++◌, zero, suc, length, get_or, set, take, drop, refl, ap, sym, ◌∙◌, arith, add-one}
use Rattle.std.specs.List.{fold}
use Rattle.std.proofs.lemmas.List.{drop_all, take_more_set, drop-set-lt}
use Rattle.std.proofs.Math.Seq.{drop-cons}
use Rattle.lane_masks.specs.Folds.{kept}

kept-yes : {A : Type 0} (bits : List Bool) (xs : List A) (i : ℕ) (x : A) → i < length bits → i < length xs → get_or bits i false ≡ true → x ≡ get_or xs i x → kept (drop i bits) (drop i xs) ≡ x ∷ kept (drop (i + 1) bits) (drop (i + 1) xs)
unfolding kept
kept-yes bits xs i x p q is_set is_x =
    let e = drop-cons bits i false p in let f = drop-cons xs i x q in
    rw (e, f, is_set, sym is_x, add-one) refl

kept-no-suc : {A : Type 0} (bits : List Bool) (xs : List A) (i : ℕ) → i < length bits → i < length xs → get_or bits i false ≡ false → kept (drop i bits) (drop i xs) ≡ kept (drop (suc i) bits) (drop (suc i) xs)
unfolding kept
kept-no-suc [] xs i p q is_clear = absurd (omega arith)
kept-no-suc (b ∷ bits) [] i p q is_clear = absurd (omega arith)
kept-no-suc (b ∷ bits) (x ∷ xs) zero p q is_clear = rw is_clear refl
kept-no-suc (b ∷ bits) (x ∷ xs) (suc i) p q is_clear = kept-no-suc bits xs i (omega arith) (omega arith) is_clear

kept-no : {A : Type 0} (bits : List Bool) (xs : List A) (i : ℕ) → i < length bits → i < length xs → get_or bits i false ≡ false → kept (drop i bits) (drop i xs) ≡ kept (drop (i + 1) bits) (drop (i + 1) xs)
kept-no bits xs i p q is_clear = rw add-one (kept-no-suc bits xs i p q is_clear)

pub kept-end : {A : Type 0} (bits : List Bool) (xs : List A) (i : ℕ) → length bits ≤ i → kept (drop i bits) (drop i xs) ≡ []
unfolding kept
kept-end bits xs i end = rw (drop_all i bits end) refl

-- a fold takes one more element, or leaves it
pub fold_taken : (f : ℕ → ℕ → ℕ) (active : List Bool) (numbers : List ℕ) (i so_far new x whole : ℕ) → i < length active → length active ≡ length numbers → get_or active i false ≡ true → x ≡ get_or numbers i x → new ≡ f so_far x → fold f so_far (kept (drop i active) (drop i numbers)) ≡ whole → fold f new (kept (drop (i + 1) active) (drop (i + 1) numbers)) ≡ whole
fold_taken f active numbers i so_far new x whole lt same is_set is_x is_new e =
    let k = kept-yes active numbers i x lt (omega arith) is_set is_x in
    rw is_new (sym (ap (fold f so_far) k) ∙ e)

pub fold_left : (f : ℕ → ℕ → ℕ) (active : List Bool) (numbers : List ℕ) (i so_far whole : ℕ) → i < length active → length active ≡ length numbers → get_or active i false ≡ false → fold f so_far (kept (drop i active) (drop i numbers)) ≡ whole → fold f so_far (kept (drop (i + 1) active) (drop (i + 1) numbers)) ≡ whole
fold_left f active numbers i so_far whole lt same is_clear e =
    let k = kept-no active numbers i lt (omega arith) is_clear in sym (ap (fold f so_far) k) ∙ e

push : {A : Type 0} (xs ys : List A) (x : A) → (xs ++ x ∷ []) ++ ys ≡ xs ++ (x ∷ ys)
push [] ys x = refl
push (z ∷ xs) ys x = ap (λ l. z ∷ l) (push xs ys x)

-- a packed element more, or not
pub packed_more : {A : Type 0} (bits : List Bool) (values whole : List A) (i count : ℕ) (x : A) → i < length bits → length bits ≡ length values → count ≤ i → get_or bits i false ≡ true → x ≡ get_or values i x → take count values ++ kept (drop i bits) (drop i values) ≡ whole → take (count + 1) (set values count x) ++ kept (drop (i + 1) bits) (drop (i + 1) (set values count x)) ≡ whole
packed_more bits values whole i count x lt same before is_set is_x e =
    let k = kept-yes bits values i x lt (omega arith) is_set is_x in
    let front = take_more_set values count x (omega arith) in
    let rest = drop-set-lt (i + 1) values count x (omega arith) in
    rw (front, rest) (push (take count values) (kept (drop (i + 1) bits) (drop (i + 1) values)) x ∙ sym (ap (λ l. take count values ++ l) k) ∙ e)

pub packed_same : {A : Type 0} (bits : List Bool) (values whole : List A) (i count : ℕ) → i < length bits → length bits ≡ length values → get_or bits i false ≡ false → take count values ++ kept (drop i bits) (drop i values) ≡ whole → take count values ++ kept (drop (i + 1) bits) (drop (i + 1) values) ≡ whole
packed_same bits values whole i count lt same is_clear e =
    let k = kept-no bits values i lt (omega arith) is_clear in sym (ap (λ l. take count values ++ l) k) ∙ e
