-- Chunks that are written one after the other, and whether an active element of one saturates.
use Rattle.std.proofs.Common.{◌≡◌, ℕ, ◌+◌, ◌-◌, ◌^◌, ◌<◌, ◌≤◌, ◌==◌, Bool, true, false, not, ◌&&◌, ◌||◌, List, [], ◌∷◌, zero, suc, length, take, drop, map, refl, ap, sym, ◌∙◌, arith}
use lib.Lanes.{zip2, chunk, put_chunk, mask_l}
use mir.Val.{bits}
use mathlib.Core.Bool.{cond}
use mathlib.Core.Logic.{inl, inr}
use Rattle.std.specs.Int.{Width}
use Rattle.std.specs.List.{list_any}
use Rattle.std.proofs.Math.Seq.{take-add}
use Rattle.std.proofs.lemmas.Bool.Decides.{eqb_tells}
use Rattle.std.proofs.lemmas.List.{map-id}
use Rattle.std.proofs.lemmas.List.Folds.{list_any-append}
use Rattle.std.proofs.lemmas.Simd.{length-zip2}
use Rattle.lane_fixed.specs.FixedPoint.{any_active}
use Rattle.lane_fixed.specs.Chunks.{lane_flag, lane_saturates}
use Rattle.lane_fixed.specs.declared.operations.Op.{Op}
use Rattle.lane_fixed.proofs.KernelLemmas.{overlaid, any_before}
use Rattle.lane_fixed.proofs.RoundedLaneLemmas.{two_most}

-- lists that are taken apart by chunks
zip2_nil : {A B C : Type 0} (f : A → B → C) (xs : List A) → zip2 f xs [] ≡ []
zip2_nil f [] = refl
zip2_nil f (x ∷ xs) = refl

take_zip2 : {A B C : Type 0} (f : A → B → C) (n : ℕ) (xs : List A) (ys : List B) → take n (zip2 f xs ys) ≡ zip2 f (take n xs) (take n ys)
take_zip2 f zero xs ys = refl
take_zip2 f (suc n) [] ys = refl
take_zip2 f (suc n) (x ∷ xs) [] = refl
take_zip2 f (suc n) (x ∷ xs) (y ∷ ys) = ap (λ zs. f x y ∷ zs) (take_zip2 f n xs ys)

drop_zip2 : {A B C : Type 0} (f : A → B → C) (n : ℕ) (xs : List A) (ys : List B) → drop n (zip2 f xs ys) ≡ zip2 f (drop n xs) (drop n ys)
drop_zip2 f zero xs ys = refl
drop_zip2 f (suc n) [] ys = refl
drop_zip2 f (suc n) (x ∷ xs) [] = sym (zip2_nil f (drop n xs))
drop_zip2 f (suc n) (x ∷ xs) (y ∷ ys) = drop_zip2 f n xs ys

chunk_zip2 : {A B C : Type 0} (f : A → B → C) (i n : ℕ) (xs : List A) (ys : List B) → chunk i n (zip2 f xs ys) ≡ zip2 f (chunk i n xs) (chunk i n ys)
chunk_zip2 f i n xs ys = ap (take n) (drop_zip2 f i xs ys) ∙ take_zip2 f n (drop i xs) (drop i ys)

-- the elements that are not yet written
drop_overlaid : {X : Type 0} (i : ℕ) (new old : List X) → i ≤ length old → length new ≡ length old → drop i (overlaid i new old) ≡ drop i old
drop_overlaid zero new old le same = refl
drop_overlaid (suc i) [] [] le same = refl
drop_overlaid (suc i) [] (o ∷ os) le same = absurd (omega (arith, same))
drop_overlaid (suc i) (n ∷ ns) [] le same = absurd (omega (arith, same))
drop_overlaid (suc i) (n ∷ ns) (o ∷ os) le same = drop_overlaid i ns os (omega (arith, le)) (omega (arith, same))

-- one more chunk is written
over_front : {X : Type 0} (n : ℕ) (new old : List X) → n ≤ length old → length new ≡ length old → put_chunk 0 old (take n new) ≡ overlaid n new old
over_front zero new [] le same = refl
over_front zero new (o ∷ os) le same = refl
over_front (suc n) [] [] le same = refl
over_front (suc n) [] (o ∷ os) le same = absurd (omega (arith, same))
over_front (suc n) (x ∷ new) [] le same = absurd (omega (arith, same))
over_front (suc n) (x ∷ new) (o ∷ os) le same = ap (λ zs. x ∷ zs) (over_front n new os (omega (arith, le)) (omega (arith, same)))

over_more : {X : Type 0} (i n m : ℕ) (new old : List X) → m ≡ i + n → m ≤ length old → length new ≡ length old → put_chunk i (overlaid i new old) (chunk i n new) ≡ overlaid m new old
over_more zero n m new old e le same = let is : m ≡ n = omega (arith, e) in rw is (over_front n new old (omega (arith, le, e)) same)
over_more (suc i) n zero new old e le same = absurd (omega (arith, e))
over_more (suc i) n (suc m) [] old e le same = absurd (omega (arith, le, same))
over_more (suc i) n (suc m) (x ∷ new) [] e le same = absurd (omega (arith, same))
over_more (suc i) n (suc m) (x ∷ new) (o ∷ os) e le same = ap (λ zs. x ∷ zs) (over_more i n m new os (omega (arith, e)) (omega (arith, le)) (omega (arith, same)))

pub chunk_still : (f : ℕ → ℕ → ℕ) (i n : ℕ) (xs ys now : List ℕ) → now ≡ overlaid i (zip2 f xs ys) xs → i ≤ length xs → length ys ≡ length xs → chunk i n now ≡ chunk i n xs
chunk_still f i n xs ys now e le same = ap (chunk i n) e ∙ ap (take n) (drop_overlaid i (zip2 f xs ys) xs le (length-zip2 f xs ys (sym same)))

pub chunk_written : (f : ℕ → ℕ → ℕ) (i n m : ℕ) (xs ys now new : List ℕ) → now ≡ overlaid i (zip2 f xs ys) xs → m ≡ i + n → m ≤ length xs → length ys ≡ length xs → new ≡ put_chunk i now (zip2 f (chunk i n now) (chunk i n ys)) → new ≡ overlaid m (zip2 f xs ys) xs
chunk_written f i n m xs ys now new e is le same written =
    let still = chunk_still f i n xs ys now e (omega (arith, is, le)) same in
    written ∙ ap (λ zs. put_chunk i now (zip2 f zs (chunk i n ys))) still ∙ ap (put_chunk i now) (sym (chunk_zip2 f i n xs ys)) ∙ ap (λ zs. put_chunk i zs (chunk i n (zip2 f xs ys))) e
    ∙ over_more i n m (zip2 f xs ys) xs is le (length-zip2 f xs ys (sym same))

pub chunk_any : (test : ℕ → ℕ → Bool) (f : ℕ → ℕ → ℕ) (i n m : ℕ) (xs ys now : List ℕ) (active : List Bool) (flag new : Bool) → now ≡ overlaid i (zip2 f xs ys) xs → m ≡ i + n → m ≤ length xs → length ys ≡ length xs → flag ≡ any_before i test xs ys active → new ≡ (flag || any_active test (chunk i n now) (chunk i n ys) (chunk i n active)) → new ≡ any_before m test xs ys active
unfolding any_active
chunk_any test f i n m xs ys now active flag new e is le same before after =
    let still = chunk_still f i n xs ys now e (omega (arith, is, le)) same in
    let both = λ (a s : Bool). a && s in
    let flags : List Bool = zip2 both active (zip2 test xs ys) in
    let part : chunk i n flags ≡ zip2 both (chunk i n active) (zip2 test (chunk i n xs) (chunk i n ys)) = chunk_zip2 both i n active (zip2 test xs ys) ∙ ap (zip2 both (chunk i n active)) (chunk_zip2 test i n xs ys) in
    let whole : list_any (λ b. b) (take (i + n) flags) ≡ (list_any (λ b. b) (take i flags) || list_any (λ b. b) (chunk i n flags)) = ap (list_any (λ b. b)) (take-add i n flags) ∙ list_any-append (λ b. b) (take i flags) (chunk i n flags) in
    after ∙ ap (λ zs. flag || list_any (λ b. b) (zip2 both (chunk i n active) (zip2 test zs (chunk i n ys)))) still
    ∙ ap (λ zs. flag || list_any (λ b. b) zs) (sym part) ∙ ap (λ b. b || list_any (λ c. c) (chunk i n flags)) before ∙ sym whole ∙ ap (λ k. list_any (λ b. b) (take k flags)) (sym is)

-- flags and the test that made them
flag_set : (t : Bool) (m : ℕ) → 0 < m → not (cond t m 0 == 0) ≡ t
flag_set true m some = elim (eqb_tells m 0) [
  | inl e ↦ absurd (omega (arith, e.1, some))
  | inr e ↦ rw (e.0) refl
]
flag_set false m some = refl

flags_set : (w : Width) (op : Op) (xs ys : List ℕ) → zip2 (λ f g. not (f == 0)) (zip2 (lane_flag op w) xs ys) (zip2 (lane_flag op w) xs ys) ≡ zip2 (lane_saturates op w) xs ys
flags_set w op [] ys = refl
flags_set w op (x ∷ xs) [] = refl
flags_set w op (x ∷ xs) (y ∷ ys) =
    rw (flag_set (lane_saturates op w x y) (2 ^ bits w - 1) (omega (arith, two_most w)), flags_set w op xs ys) refl

no_flag : (b m rest : Bool) → b ≡ false → rest ≡ false → ((m && b) || rest) ≡ false
no_flag b true rest e none = rw (e, none) refl
no_flag b false rest e none = none

none_flagged : (fs : List ℕ) (active : List Bool) → mask_l (map (λ f. not (f == 0)) fs) ≡ 0 → list_any (λ b. b) (zip2 (λ m s. m && s) active (zip2 (λ f g. not (f == 0)) fs fs)) ≡ false
none_flagged [] [] e = refl
none_flagged [] (m ∷ ms) e = refl
none_flagged (f ∷ fs) [] e = refl
none_flagged (f ∷ fs) (m ∷ ms) e = go (not (f == 0)) refl (λ z. none_flagged fs ms z)
  where
    go : (t : Bool) → not (f == 0) ≡ t → (mask_l (map (λ f. not (f == 0)) fs) ≡ 0 → list_any (λ b. b) (zip2 (λ m s. m && s) ms (zip2 (λ f g. not (f == 0)) fs fs)) ≡ false) → ((m && not (f == 0)) || list_any (λ b. b) (zip2 (λ m s. m && s) ms (zip2 (λ f g. not (f == 0)) fs fs))) ≡ false
    go true h rest = absurd (omega (arith, ap {B = ℕ} (λ t. cond t 1 0) h, e))
    go false h rest = no_flag (not (f == 0)) m _ h (rest (omega (arith, ap {B = ℕ} (λ t. cond t 1 0) h, e)))

-- what one chunk's flags say
pub flags_say : (w : Width) (op : Op) (xs ys fs gs : List ℕ) (active : List Bool) (mask : ℕ) (so_far result : Bool) → fs ≡ zip2 (lane_flag op w) xs ys → gs ≡ fs → mask ≡ mask_l (map (λ f. not (f == 0)) fs) → result ≡ (so_far || (not (mask == 0) && any_active (λ f g. not (f == 0)) gs gs active)) → result ≡ (so_far || any_active (lane_saturates op w) xs ys active)
unfolding any_active
flags_say w op xs ys fs gs active mask so_far result is_flags is_same is_mask is =
    let test = λ (m : ℕ). not (m == 0) && list_any (λ b. b) (zip2 (λ m s. m && s) active (zip2 (λ f g. not (f == 0)) fs fs)) in
    let tested : test mask ≡ list_any (λ b. b) (zip2 (λ m s. m && s) active (zip2 (λ f g. not (f == 0)) fs fs)) = elim (eqb_tells mask 0) [
      | inl e ↦ rw (e.0) (sym (none_flagged fs active (sym is_mask ∙ e.1)))
      | inr e ↦ rw (e.0) refl
    ] in
    let same : zip2 (λ f g. not (f == 0)) fs fs ≡ zip2 (lane_saturates op w) xs ys = rw is_flags (flags_set w op xs ys) in
    is ∙ ap (λ zs. so_far || (not (mask == 0) && list_any (λ b. b) (zip2 (λ m s. m && s) active (zip2 (λ f g. not (f == 0)) zs zs)))) is_same ∙ ap (λ b. so_far || b) (tested ∙ ap (λ zs. list_any (λ b. b) (zip2 (λ m s. m && s) active zs)) same)

-- the same of a chunk of slices
pub chunk_flags_say : (w : Width) (op : Op) (n at : ℕ) (xs ys fs : List ℕ) (active : List Bool) {mask : ℕ} (so_far result : Bool) → fs ≡ zip2 (lane_flag op w) (chunk at n xs) (chunk at n ys) → mask ≡ mask_l (map (λ f. not (f == 0)) fs)
    → result ≡ (so_far || (not (mask == 0) && any_active (λ f g. not (f == 0)) (map (λ f. f) fs) (map (λ f. f) fs) (take (at + n - at) (drop at active))))
    → result ≡ (so_far || any_active (lane_saturates op w) (chunk at n (map (λ x. x) xs)) (chunk at n (map (λ y. y) ys)) (chunk at n active))
chunk_flags_say w op n at xs ys fs active {mask} so_far result is_flags is_mask is =
    let few : at + n - at ≡ n = omega arith in
    rw (map-id xs, map-id ys)
    (flags_say w op (chunk at n xs) (chunk at n ys) fs (map (λ f. f) fs) (take (at + n - at) (drop at active)) mask so_far result is_flags (map-id fs) is_mask is
    ∙ ap (λ k. so_far || any_active (lane_saturates op w) (chunk at n xs) (chunk at n ys) (take k (drop at active))) few)
