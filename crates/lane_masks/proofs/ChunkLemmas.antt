-- Mask logic on lanes of whole bytes.
use Rattle.std.proofs.Common.{◌≡◌, ℕ, ◌+◌, ◌-◌, ◌%◌, ◌^◌, ◌<◌, ◌==◌, List, [], ◌∷◌, length, map, slice_index, get_or, refl, ap, ◌∙◌, zero, suc, arith, min, max, w8, Fits}
use lib.Lanes.{zip2, Each1}
use Rattle.std.specs.Int.{bit_at, bit_not}
use Rattle.std.specs.Int.RustNames.{bit_and, bit_or, bit_xor}
use Rattle.std.specs.Int.Bits.{and_le_l}
use Rattle.std.proofs.lemmas.Nat.{or_of_8, xor_of_8}
use Rattle.std.proofs.lemmas.Nat.Bits.{bit_at_and, bit_at_or, bit_at_xor, bit_at_not, bit_at-lt}
use Rattle.std.proofs.lemmas.Simd.{get_or-zip2, Each1-get_or}
use Rattle.lane_masks.specs.Chunks.{byte_of, is_set}
use Rattle.lane_masks.specs.Masks.{logic_of}
use Rattle.rv_decode.specs.declared.instructions.LogicOp.{LogicOp}
use Rattle.rv_decode.specs.declared.instructions.LogicOp.TheVariants.{And, Nand, Andn, Xor, Or, Nor, Orn, Xnor}

pub same_lanes : {A B C : Type 0} (f g : A → B → C) → ((a : A) (b : B) → f a b ≡ g a b) → (xs : List A) (ys : List B) → zip2 f xs ys ≡ zip2 g xs ys
same_lanes f g e [] ys = refl
same_lanes f g e (x ∷ xs) [] = refl
same_lanes f g e (x ∷ xs) (y ∷ ys) = rw (e x y, same_lanes f g e xs ys) refl

-- a function of each result, and of each lane of the second
pub after_zip2 : {A B C D : Type 0} (g : C → D) (f : A → B → C) (xs : List A) (ys : List B) → map g (zip2 f xs ys) ≡ zip2 (λ a b. g (f a b)) xs ys
after_zip2 g f [] ys = refl
after_zip2 g f (x ∷ xs) [] = refl
after_zip2 g f (x ∷ xs) (y ∷ ys) = ap (λ zs. g (f x y) ∷ zs) (after_zip2 g f xs ys)

pub before_zip2 : {A B C D : Type 0} (f : A → C → D) (g : B → C) (xs : List A) (ys : List B) → zip2 f xs (map g ys) ≡ zip2 (λ a b. f a (g b)) xs ys
before_zip2 f g [] ys = refl
before_zip2 f g (x ∷ xs) [] = refl
before_zip2 f g (x ∷ xs) (y ∷ ys) = ap (λ zs. f x (g y) ∷ zs) (before_zip2 f g xs ys)

-- two bits, as numbers
abbrev on_bits : LogicOp → ℕ → ℕ → ℕ
on_bits And x y = min x y
on_bits Nand x y = 1 - min x y
on_bits Andn x y = min x (1 - y)
on_bits Xor x y = (x + y) % 2
on_bits Or x y = max x y
on_bits Nor x y = 1 - max x y
on_bits Orn x y = max x (1 - y)
on_bits Xnor x y = 1 - (x + y) % 2

bit_of_byte : (op : LogicOp) (a b j : ℕ) → a < 2 ^ 8 → b < 2 ^ 8 → j < 8 → bit_at (byte_of op a b) j ≡ on_bits op (bit_at a j) (bit_at b j)
unfolding byte_of
bit_of_byte And a b j p q r = bit_at_and a b j
bit_of_byte Nand a b j p q r = bit_at_not w8 (bit_and a b) j (omega (arith, and_le_l a b)) r ∙ ap (λ n. 1 - n) (bit_at_and a b j)
bit_of_byte Andn a b j p q r = bit_at_and a (bit_not w8 b) j ∙ ap (λ n. min (bit_at a j) n) (bit_at_not w8 b j q r)
bit_of_byte Xor a b j p q r = bit_at_xor a b j
bit_of_byte Or a b j p q r = bit_at_or a b j
bit_of_byte Nor a b j p q r = bit_at_not w8 (bit_or a b) j (or_of_8 a b p q) r ∙ ap (λ n. 1 - n) (bit_at_or a b j)
bit_of_byte Orn a b j p q r = bit_at_or a (bit_not w8 b) j ∙ ap (λ n. max (bit_at a j) n) (bit_at_not w8 b j q r)
bit_of_byte Xnor a b j p q r = bit_at_not w8 (bit_xor a b) j (xor_of_8 a b p q) r ∙ ap (λ n. 1 - n) (bit_at_xor a b j)

abbrev SameBit : LogicOp → ℕ → ℕ → Type 0
SameBit op x y = (on_bits op x y == 1) ≡ logic_of op (x == 1) (y == 1)

on_two : (op : LogicOp) → SameBit op 0 0 → SameBit op 0 1 → SameBit op 1 0 → SameBit op 1 1 → (x y : ℕ) → x < 2 → y < 2 → SameBit op x y
on_two op a b c d zero zero p q = a
on_two op a b c d zero (suc zero) p q = b
on_two op a b c d (suc zero) zero p q = c
on_two op a b c d (suc zero) (suc zero) p q = d
on_two op a b c d (suc (suc x)) y p q = absurd (omega arith)
on_two op a b c d x (suc (suc y)) p q = absurd (omega arith)

as_bools : (op : LogicOp) (x y : ℕ) → x < 2 → y < 2 → SameBit op x y
unfolding logic_of
as_bools And = on_two And refl refl refl refl
as_bools Nand = on_two Nand refl refl refl refl
as_bools Andn = on_two Andn refl refl refl refl
as_bools Xor = on_two Xor refl refl refl refl
as_bools Or = on_two Or refl refl refl refl
as_bools Nor = on_two Nor refl refl refl refl
as_bools Orn = on_two Orn refl refl refl refl
as_bools Xnor = on_two Xnor refl refl refl refl

-- each bit of a chunk
pub bits_of_chunk : (op : LogicOp) (xs ys zs : List ℕ) → (length xs ≡ 16) × Each1 (Fits w8) xs → (length ys ≡ 16) × Each1 (Fits w8) ys → zs ≡ zip2 (byte_of op) xs ys → (i j : ℕ) → i < 16 → j < 8 → is_set j (slice_index zs i) ≡ logic_of op (is_set j (slice_index xs i)) (is_set j (slice_index ys i))
bits_of_chunk op xs ys zs fx fy e i j li lj =
    let p : Fits w8 (get_or xs i 0) = Each1-get_or (Fits w8) xs i 0 (omega (arith, fx.0)) fx.1 in
    let q : Fits w8 (get_or ys i 0) = Each1-get_or (Fits w8) ys i 0 (omega (arith, fy.0)) fy.1 in
    let at : get_or zs i 0 ≡ byte_of op (get_or xs i 0) (get_or ys i 0) = rw e (get_or-zip2 (byte_of op) xs ys i 0 0 0 (omega (arith, fx.0)) (omega (arith, fy.0))) in
    rw (at, bit_of_byte op (get_or xs i 0) (get_or ys i 0) j p.fits q.fits lj) (as_bools op (bit_at (get_or xs i 0) j) (bit_at (get_or ys i 0) j) (bit_at-lt (get_or xs i 0) j) (bit_at-lt (get_or ys i 0) j))
