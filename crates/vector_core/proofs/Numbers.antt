-- The numbers of what a kernel computes, from what it makes of elements.
use Rattle.std.proofs.Common.{◌≡◌, ℕ, ◌+◌, ◌<◌, ◌≤◌, Bool, List, [], ◌∷◌, ◌++◌, take, drop, set, get_or, length, append_assoc, append-nil, ap, sym, ◌∙◌, arith, map, refl, true, false}
use Rattle.std.proofs.lemmas.List.{take_more_set, drop-set-lt, drop_more, drop_all, take_all}
use lib.Lanes.{zip2}
use Rattle.lane_int.specs.Lists.{zip3}
use Rattle.vector_core.specs.Moves.{chosen}

pub map_two : {A : Type 0} (number : A → ℕ) (f : A → A → A) (g : ℕ → ℕ → ℕ) (xs ys : List A) → ((a b : A) → number (f a b) ≡ g (number a) (number b)) → map number (zip2 f xs ys) ≡ zip2 g (map number xs) (map number ys)
map_two number f g [] ys law = refl
map_two number f g (x ∷ xs) [] law = refl
map_two number f g (x ∷ xs) (y ∷ ys) law = let head = law x y in let tail = map_two number f g xs ys law in cc

pub test_two : {A : Type 0} (number : A → ℕ) (f : A → A → Bool) (g : ℕ → ℕ → Bool) (xs ys : List A) → ((a b : A) → f a b ≡ g (number a) (number b)) → zip2 f xs ys ≡ zip2 g (map number xs) (map number ys)
test_two number f g [] ys law = refl
test_two number f g (x ∷ xs) [] law = refl
test_two number f g (x ∷ xs) (y ∷ ys) law = let head = law x y in let tail = test_two number f g xs ys law in cc

pub map_three : {A : Type 0} (number : A → ℕ) (f : A → A → A → A) (g : ℕ → ℕ → ℕ → ℕ) (xs ys zs : List A) → ((a b c : A) → number (f a b c) ≡ g (number a) (number b) (number c)) → map number (zip3 f xs ys zs) ≡ zip3 g (map number xs) (map number ys) (map number zs)
map_three number f g [] ys zs law = refl
map_three number f g (x ∷ xs) [] zs law = refl
map_three number f g (x ∷ xs) (y ∷ ys) [] law = refl
map_three number f g (x ∷ xs) (y ∷ ys) (z ∷ zs) law = let head = law x y z in let tail = map_three number f g xs ys zs law in cc

pub map_by_bits : {A : Type 0} (number : A → ℕ) (f : A → A → Bool → A) (g : ℕ → ℕ → Bool → ℕ) (xs ys : List A) (bits : List Bool) → ((a b : A) (c : Bool) → number (f a b c) ≡ g (number a) (number b) c) → map number (zip3 f xs ys bits) ≡ zip3 g (map number xs) (map number ys) bits
map_by_bits number f g [] ys bits law = refl
map_by_bits number f g (x ∷ xs) [] bits law = refl
map_by_bits number f g (x ∷ xs) (y ∷ ys) [] law = refl
map_by_bits number f g (x ∷ xs) (y ∷ ys) (bit ∷ bits) law = let head = law x y bit in let tail = map_by_bits number f g xs ys bits law in cc

pub test_by_bits : {A : Type 0} (number : A → ℕ) (f : A → A → Bool → Bool) (g : ℕ → ℕ → Bool → Bool) (xs ys : List A) (bits : List Bool) → ((a b : A) (c : Bool) → f a b c ≡ g (number a) (number b) c) → zip3 f xs ys bits ≡ zip3 g (map number xs) (map number ys) bits
test_by_bits number f g [] ys bits law = refl
test_by_bits number f g (x ∷ xs) [] bits law = refl
test_by_bits number f g (x ∷ xs) (y ∷ ys) [] law = refl
test_by_bits number f g (x ∷ xs) (y ∷ ys) (bit ∷ bits) law = let head = law x y bit in let tail = test_by_bits number f g xs ys bits law in cc

chosen_number : {A : Type 0} (number : A → ℕ) (a b : A) (bit : Bool) → number (chosen a b bit) ≡ chosen (number a) (number b) bit
chosen_number number a b true = refl
chosen_number number a b false = refl

pub choose_numbers : {A : Type 0} (number : A → ℕ) (xs ys : List A) (bits : List Bool) → map number (zip3 chosen xs ys bits) ≡ zip3 chosen (map number xs) (map number ys) bits
choose_numbers number xs ys bits = map_by_bits number chosen chosen xs ys bits (chosen_number number)

-- one more element is computed from three lists, over the first of them, and the end
pub zip3_more : {A B C : Type 0} (f : A → B → C → A) (xs : List A) (ys : List B) (zs : List C) (i : ℕ) (x : A) (y : B) (z : C) (new : A) →
    i < length xs → i < length ys → i < length zs → x ≡ get_or xs i x → y ≡ get_or ys i y → z ≡ get_or zs i z → new ≡ f x y z →
    take (i + 1) (set xs i new) ++ zip3 f (drop (i + 1) (set xs i new)) (drop (i + 1) ys) (drop (i + 1) zs)
    ≡ take i xs ++ zip3 f (drop i xs) (drop i ys) (drop i zs)
zip3_more f xs ys zs i x y z new hx hy hz ex ey ez is =
    let taken = take_more_set xs i new hx in
    let dropped : drop (i + 1) (set xs i new) ≡ drop (i + 1) xs = drop-set-lt (i + 1) xs i new (omega arith) in
    let a : drop i xs ≡ x ∷ drop (i + 1) xs = drop_more xs i x hx ∙ ap (λ v. v ∷ drop (i + 1) xs) (sym ex) in
    let b : drop i ys ≡ y ∷ drop (i + 1) ys = drop_more ys i y hy ∙ ap (λ v. v ∷ drop (i + 1) ys) (sym ey) in
    let c : drop i zs ≡ z ∷ drop (i + 1) zs = drop_more zs i z hz ∙ ap (λ v. v ∷ drop (i + 1) zs) (sym ez) in
    let step : zip3 f (x ∷ drop (i + 1) xs) (y ∷ drop (i + 1) ys) (z ∷ drop (i + 1) zs)
    ≡ f x y z ∷ zip3 f (drop (i + 1) xs) (drop (i + 1) ys) (drop (i + 1) zs) = refl in
    let join = append_assoc (take i xs) (new ∷ []) (zip3 f (drop (i + 1) xs) (drop (i + 1) ys) (drop (i + 1) zs)) in
    cc

pub zip3_end : {A B C : Type 0} (f : A → B → C → A) (xs : List A) (ys : List B) (zs : List C) (i : ℕ) → length xs ≤ i →
    take i xs ++ zip3 f (drop i xs) (drop i ys) (drop i zs) ≡ xs
zip3_end f xs ys zs i h = rw (drop_all i xs h, append-nil) (take_all i xs h)
