-- Chunks that are written one after the other.
use Rattle.std.proofs.Common.{◌≡◌, ℕ, ◌+◌, ◌-◌, ◌^◌, ◌<◌, ◌≤◌, ◌==◌, Bool, true, false, not, get_or, inl, inr, lit<, w8, w16, w32, w64, List, [], ◌∷◌, zero, suc, length, take, drop, cond, refl, ap, ap₂, sym, ◌∙◌, arith}
use lib.Lanes.{zip2, chunk, put_chunk}
use Rattle.std.specs.Int.{Width, w128}
use mir.Val.{bits}
use Rattle.std.proofs.lemmas.Bool.Decides.{eqb_tells}
use Rattle.rv_decode.specs.declared.instructions.CompareOp.{CompareOp}
use Rattle.lane_int.specs.declared.operations.Op.TheVariants.{Compare}
use Rattle.std.proofs.lemmas.Simd.{length-zip2, length-chunk, get_or-chunk}
use Rattle.rv_decode.specs.declared.instructions.IntOp.{IntOp}
use Rattle.rv_decode.specs.declared.instructions.IntOp.TheVariants.{Add, Sub, Rsub, Minu, Min, Maxu, Max, And, Or, Xor, Sll, Srl, Sra, Mul}
use Rattle.lane_int.specs.Chunks.{all_ones, chunk_op, has_chunk, lane_of}
use Rattle.lane_int.specs.Integer.{compares, element}
use Rattle.lane_int.specs.Lists.{zip3}
use Rattle.lane_int.proofs.Overlay.{get_or-zip3, length-zip3, overlaid}

-- a chunk call's operation is the kernels'
same_lane : (op : IntOp) (w : Width) (a b d : ℕ) → has_chunk op ≡ true → lane_of (chunk_op op) w a b d ≡ element op w a b
unfolding lane_of
same_lane Add w a b d is = refl
same_lane Sub w a b d is = refl
same_lane Rsub w a b d is = refl
same_lane Minu w a b d is = refl
same_lane Min w a b d is = refl
same_lane Maxu w a b d is = refl
same_lane Max w a b d is = refl
same_lane And w a b d is = refl
same_lane Or w a b d is = refl
same_lane Xor w a b d is = refl
same_lane Sll w a b d is = refl
same_lane Srl w a b d is = refl
same_lane Sra w a b d is = refl
same_lane Mul w a b d is = refl
same_lane op w a b d is = absurd (omega (arith, ap {B = ℕ} (λ t. cond t 1 0) is))

pub same_lanes : (op : IntOp) (w : Width) (xs ys zs : List ℕ) → has_chunk op ≡ true → length ys ≡ length xs → length zs ≡ length xs → zip3 (lane_of (chunk_op op) w) xs ys zs ≡ zip2 (element op w) xs ys
same_lanes op w [] ys zs is p q = refl
same_lanes op w (x ∷ xs) [] zs is p q = absurd (omega (arith, p))
same_lanes op w (x ∷ xs) (y ∷ ys) [] is p q = absurd (omega (arith, q))
same_lanes op w (x ∷ xs) (y ∷ ys) (z ∷ zs) is p q = ap₂ (λ r rs. r ∷ rs) (same_lane op w x y z is) (same_lanes op w xs ys zs is (omega (arith, p)) (omega (arith, q)))

pub computed_lanes : (op : IntOp) (w : Width) (n at : ℕ) (xs ys : List ℕ) → has_chunk op ≡ true → at + n ≤ length xs → at + n ≤ length ys → zip3 (lane_of (chunk_op op) w) (chunk at n xs) (chunk at n ys) (chunk at n xs) ≡ zip2 (element op w) (chunk at n xs) (chunk at n ys)
computed_lanes op w n at xs ys is p q = same_lanes op w (chunk at n xs) (chunk at n ys) (chunk at n xs) is (length-chunk at n ys q ∙ sym (length-chunk at n xs p)) refl

-- a lane of a compare is 0 where it does not hold
some_ones : (w : Width) → 0 < 2 ^ bits w - 1
some_ones w8 = lit< tt
some_ones w16 = lit< tt
some_ones w32 = lit< tt
some_ones w64 = lit< tt
some_ones w128 = lit< tt

holds_told : (w : Width) (holds : Bool) → not (all_ones w holds == 0) ≡ holds
holds_told w false = refl
holds_told w true = elim (eqb_tells (2 ^ bits w - 1) 0) [
  | inl e ↦ absurd (omega (arith, e.1, some_ones w))
  | inr e ↦ rw (e.0) refl
]

pub tested_lane : (w : Width) (op : CompareOp) (n at j d e : ℕ) (xs ys rs : List ℕ) (test : Bool) → rs ≡ zip3 (lane_of (Compare op) w) (chunk at n xs) (chunk at n ys) (chunk at n xs) → at + n ≤ length xs → at + n ≤ length ys → j < n → test ≡ not (get_or rs j 0 == 0)
    → test ≡ compares op w (get_or xs (at + j) d) (get_or ys (at + j) e)
unfolding lane_of
tested_lane w op n at j d e xs ys rs test is p q lt is_test =
    let us = chunk at n xs in
    let vs = chunk at n ys in
    let long_x : length us ≡ n = length-chunk at n xs p in
    let long_y : length vs ≡ n = length-chunk at n ys q in
    let lane : get_or rs j 0 ≡ all_ones w (compares op w (get_or us j d) (get_or vs j e)) = ap (λ l. get_or l j 0) is ∙ get_or-zip3 (lane_of (Compare op) w) us vs us j d e 0 0 (omega (arith, long_x, lt)) (omega (arith, long_y, lt)) (omega (arith, long_x, lt)) in
    is_test ∙ ap (λ x. not (x == 0)) lane ∙ holds_told w (compares op w (get_or us j d) (get_or vs j e)) ∙ ap₂ (compares op w) (get_or-chunk at n xs j d lt) (get_or-chunk at n ys j e lt)

-- lists that are taken apart by chunks
zip2_nil : {A B C : Type 0} (f : A → B → C) (xs : List A) → zip2 f xs [] ≡ []
zip2_nil f [] = refl
zip2_nil f (x ∷ xs) = refl

take_zip2 : {A B C : Type 0} (f : A → B → C) (n : ℕ) (xs : List A) (ys : List B) → take n (zip2 f xs ys) ≡ zip2 f (take n xs) (take n ys)
take_zip2 f zero xs ys = refl
take_zip2 f (suc n) [] ys = refl
take_zip2 f (suc n) (x ∷ xs) [] = refl
take_zip2 f (suc n) (x ∷ xs) (y ∷ ys) = ap (λ zs. f x y ∷ zs) (take_zip2 f n xs ys)

drop_zip2 : {A B C : Type 0} (f : A → B → C) (n : ℕ) (xs : List A) (ys : List B) → drop n (zip2 f xs ys) ≡ zip2 f (drop n xs) (drop n ys)
drop_zip2 f zero xs ys = refl
drop_zip2 f (suc n) [] ys = refl
drop_zip2 f (suc n) (x ∷ xs) [] = sym (zip2_nil f (drop n xs))
drop_zip2 f (suc n) (x ∷ xs) (y ∷ ys) = drop_zip2 f n xs ys

pub chunk_zip2 : {A B C : Type 0} (f : A → B → C) (i n : ℕ) (xs : List A) (ys : List B) → chunk i n (zip2 f xs ys) ≡ zip2 f (chunk i n xs) (chunk i n ys)
chunk_zip2 f i n xs ys = ap (take n) (drop_zip2 f i xs ys) ∙ take_zip2 f n (drop i xs) (drop i ys)

-- the elements that are not yet written
drop_overlaid : {X : Type 0} (i : ℕ) (new old : List X) → i ≤ length old → length new ≡ length old → drop i (overlaid i new old) ≡ drop i old
drop_overlaid zero new old le same = refl
drop_overlaid (suc i) [] [] le same = refl
drop_overlaid (suc i) [] (o ∷ os) le same = absurd (omega (arith, same))
drop_overlaid (suc i) (n ∷ ns) [] le same = absurd (omega (arith, same))
drop_overlaid (suc i) (n ∷ ns) (o ∷ os) le same = drop_overlaid i ns os (omega (arith, le)) (omega (arith, same))

-- one more chunk is written
over_front : {X : Type 0} (n : ℕ) (new old : List X) → n ≤ length old → length new ≡ length old → put_chunk 0 old (take n new) ≡ overlaid n new old
over_front zero new [] le same = refl
over_front zero new (o ∷ os) le same = refl
over_front (suc n) [] [] le same = refl
over_front (suc n) [] (o ∷ os) le same = absurd (omega (arith, same))
over_front (suc n) (x ∷ new) [] le same = absurd (omega (arith, same))
over_front (suc n) (x ∷ new) (o ∷ os) le same = ap (λ zs. x ∷ zs) (over_front n new os (omega (arith, le)) (omega (arith, same)))

over_more : {X : Type 0} (i n m : ℕ) (new old : List X) → m ≡ i + n → m ≤ length old → length new ≡ length old → put_chunk i (overlaid i new old) (chunk i n new) ≡ overlaid m new old
over_more zero n m new old e le same = let is : m ≡ n = omega (arith, e) in rw is (over_front n new old (omega (arith, le, e)) same)
over_more (suc i) n zero new old e le same = absurd (omega (arith, e))
over_more (suc i) n (suc m) [] old e le same = absurd (omega (arith, le, same))
over_more (suc i) n (suc m) (x ∷ new) [] e le same = absurd (omega (arith, same))
over_more (suc i) n (suc m) (x ∷ new) (o ∷ os) e le same = ap (λ zs. x ∷ zs) (over_more i n m new os (omega (arith, e)) (omega (arith, le)) (omega (arith, same)))

pub chunk_still : {A B : Type 0} (f : A → B → A) (i n : ℕ) (xs : List A) (ys : List B) (now : List A) → now ≡ overlaid i (zip2 f xs ys) xs → i ≤ length xs → length ys ≡ length xs → chunk i n now ≡ chunk i n xs
chunk_still f i n xs ys now e le same = ap (chunk i n) e ∙ ap (take n) (drop_overlaid i (zip2 f xs ys) xs le (length-zip2 f xs ys (sym same)))

pub chunk_written : {A B : Type 0} (f : A → B → A) (i n m : ℕ) (xs : List A) (ys : List B) (now new : List A) → now ≡ overlaid i (zip2 f xs ys) xs → m ≡ i + n → m ≤ length xs → length ys ≡ length xs → new ≡ put_chunk i now (zip2 f (chunk i n now) (chunk i n ys)) → new ≡ overlaid m (zip2 f xs ys) xs
chunk_written f i n m xs ys now new e is le same written =
    let still = chunk_still f i n xs ys now e (omega (arith, is, le)) same in
    written ∙ ap (λ zs. put_chunk i now (zip2 f zs (chunk i n ys))) still ∙ ap (put_chunk i now) (sym (chunk_zip2 f i n xs ys)) ∙ ap (λ zs. put_chunk i zs (chunk i n (zip2 f xs ys))) e
    ∙ over_more i n m (zip2 f xs ys) xs is le (length-zip2 f xs ys (sym same))

-- the same of three lists, the third of them written
zip3_none : {A B C D : Type 0} (f : A → B → C → D) (xs : List A) (zs : List C) → zip3 f xs [] zs ≡ []
zip3_none f [] zs = refl
zip3_none f (x ∷ xs) zs = refl

zip3_last_none : {A B C D : Type 0} (f : A → B → C → D) (xs : List A) (ys : List B) → zip3 f xs ys [] ≡ []
zip3_last_none f [] ys = refl
zip3_last_none f (x ∷ xs) [] = refl
zip3_last_none f (x ∷ xs) (y ∷ ys) = refl

take_zip3 : {A B C D : Type 0} (f : A → B → C → D) (n : ℕ) (xs : List A) (ys : List B) (zs : List C) → take n (zip3 f xs ys zs) ≡ zip3 f (take n xs) (take n ys) (take n zs)
take_zip3 f zero xs ys zs = refl
take_zip3 f (suc n) [] ys zs = refl
take_zip3 f (suc n) (x ∷ xs) [] zs = refl
take_zip3 f (suc n) (x ∷ xs) (y ∷ ys) [] = refl
take_zip3 f (suc n) (x ∷ xs) (y ∷ ys) (z ∷ zs) = ap (λ rs. f x y z ∷ rs) (take_zip3 f n xs ys zs)

drop_zip3 : {A B C D : Type 0} (f : A → B → C → D) (n : ℕ) (xs : List A) (ys : List B) (zs : List C) → drop n (zip3 f xs ys zs) ≡ zip3 f (drop n xs) (drop n ys) (drop n zs)
drop_zip3 f zero xs ys zs = refl
drop_zip3 f (suc n) [] ys zs = refl
drop_zip3 f (suc n) (x ∷ xs) [] zs = sym (zip3_none f (drop n xs) (drop (suc n) zs))
drop_zip3 f (suc n) (x ∷ xs) (y ∷ ys) [] = sym (zip3_last_none f (drop n xs) (drop n ys))
drop_zip3 f (suc n) (x ∷ xs) (y ∷ ys) (z ∷ zs) = drop_zip3 f n xs ys zs

chunk_zip3 : {A B C D : Type 0} (f : A → B → C → D) (i n : ℕ) (xs : List A) (ys : List B) (zs : List C) → chunk i n (zip3 f xs ys zs) ≡ zip3 f (chunk i n xs) (chunk i n ys) (chunk i n zs)
chunk_zip3 f i n xs ys zs = ap (take n) (drop_zip3 f i xs ys zs) ∙ take_zip3 f n (drop i xs) (drop i ys) (drop i zs)

pub chunk_added : {A B C : Type 0} (f : A → B → C → C) (i n m : ℕ) (xs : List A) (ys : List B) (zs now new : List C) → now ≡ overlaid i (zip3 f xs ys zs) zs → m ≡ i + n → m ≤ length zs → length xs ≡ length zs → length ys ≡ length zs
    → new ≡ put_chunk i now (zip3 f (chunk i n xs) (chunk i n ys) (chunk i n now)) → new ≡ overlaid m (zip3 f xs ys zs) zs
chunk_added f i n m xs ys zs now new e is le same_x same_y written =
    let long : length (zip3 f xs ys zs) ≡ length zs = length-zip3 f xs ys zs (same_y ∙ sym same_x) (sym same_x) ∙ same_x in
    let still : chunk i n now ≡ chunk i n zs = ap (chunk i n) e ∙ ap (take n) (drop_overlaid i (zip3 f xs ys zs) zs (omega (arith, is, le)) long) in
    written ∙ ap (λ rs. put_chunk i now (zip3 f (chunk i n xs) (chunk i n ys) rs)) still ∙ ap (put_chunk i now) (sym (chunk_zip3 f i n xs ys zs)) ∙ ap (λ rs. put_chunk i rs (chunk i n (zip3 f xs ys zs))) e
    ∙ over_more i n m (zip3 f xs ys zs) zs is le long
