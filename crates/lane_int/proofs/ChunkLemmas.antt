-- What each operation of the chunk calls makes of vectors, by the operations on vectors that compute it.
use Rattle.std.proofs.Common.{◌≡◌, ◌∙◌, ℕ, ◌+◌, ◌-◌, ◌*◌, ◌/◌, ◌%◌, ◌^◌, List, cond, length, map, ltb, leb, not, nat_eq, replicate, refl, sym, Fits}
use Rattle.std.specs.Int.{Width}
use Rattle.std.specs.Int.RustNames.{bit_and, bit_or, bit_xor}
use Rattle.std.specs.Simd.Lanes.{zip2, sel_l, top}
use lib.Lanes.{Each1}
use mir.Val.{bits, hbits}
use Rattle.rv_decode.specs.declared.instructions.CompareOp.{CompareOp}
use Rattle.rv_decode.specs.declared.instructions.CompareOp.TheVariants.{Eq, Ne, Ltu, Lt, Leu, Le, Gtu, Gt}
use Rattle.rv_decode.specs.declared.instructions.IntOp.TheVariants as int
use Rattle.rv_decode.specs.declared.instructions.MultiplyAddOp.{MultiplyAddOp}
use Rattle.lane_int.specs.declared.operations.Op.TheVariants.{Add, Sub, Rsub, Minu, Min, Maxu, Max, And, Or, Xor, Sll, Srl, Sra, Mul, Compare, MultiplyAdd}
use Rattle.lane_int.specs.Chunks.{all_ones, lane_of, turned}
use Rattle.lane_int.specs.Integer.{compares, element, multiply_added, shift_amount}
use Rattle.lane_int.specs.Lists.{zip3}
use Rattle.lane_int.proofs.TurnedLemmas.{least_turned, greatest_turned, less_turned, less_equal_turned}
use Rattle.lane_int.proofs.VectorLemmas.{compared, greatest, least, picked, select_splats, zip2_maps, zip2_map_right, zip2_swapped, zip3_agrees}

pub sums : (w : Width) (xs ys zs : List ℕ) → Each1 (Fits w) xs → Each1 (Fits w) ys → length zs ≡ length xs → zip3 (lane_of Add w) xs ys zs ≡ zip2 (λ a b. (a + b) % 2 ^ bits w) xs ys
unfolding lane_of element
sums w xs ys zs fits_x fits_y long = sym (zip3_agrees w xs ys zs (λ a b d p q. refl) fits_x fits_y long)

pub differences : (w : Width) (xs ys zs : List ℕ) → Each1 (Fits w) xs → Each1 (Fits w) ys → length zs ≡ length xs → zip3 (lane_of Sub w) xs ys zs ≡ zip2 (λ a b. (a + (2 ^ bits w - b)) % 2 ^ bits w) xs ys
unfolding lane_of element
differences w xs ys zs fits_x fits_y long = sym (zip3_agrees w xs ys zs (λ a b d p q. refl) fits_x fits_y long)

pub differences_of : (w : Width) (xs ys zs : List ℕ) → Each1 (Fits w) xs → Each1 (Fits w) ys → length zs ≡ length xs → zip3 (lane_of Rsub w) xs ys zs ≡ zip2 (λ a b. (a + (2 ^ bits w - b)) % 2 ^ bits w) ys xs
unfolding lane_of element
differences_of w xs ys zs fits_x fits_y long = sym (zip2_swapped (λ a b. (a + (2 ^ bits w - b)) % 2 ^ bits w) xs ys ∙ zip3_agrees w xs ys zs (λ a b d p q. refl) fits_x fits_y long)

pub least_lanes : (w : Width) (xs ys zs : List ℕ) → Each1 (Fits w) xs → Each1 (Fits w) ys → length zs ≡ length xs → zip3 (lane_of Minu w) xs ys zs ≡ sel_l (map (top (hbits w)) (zip2 (λ a b. cond (ltb a b) (2 ^ bits w - 1) 0) xs ys)) xs ys
unfolding lane_of element
least_lanes w xs ys zs fits_x fits_y long = sym (picked w ltb xs ys refl ∙ zip3_agrees w xs ys zs (λ a b d p q. least a b) fits_x fits_y long)

pub least_signed : (w : Width) (xs ys zs : List ℕ) → Each1 (Fits w) xs → Each1 (Fits w) ys → length zs ≡ length xs → zip3 (lane_of Min w) xs ys zs ≡ sel_l (map (top (hbits w)) (zip2 (λ a b. cond (ltb a b) (2 ^ bits w - 1) 0) (map (turned w) ys) (map (turned w) xs))) ys xs
unfolding lane_of element
least_signed w xs ys zs fits_x fits_y long = sym (picked w (λ b a. ltb (turned w b) (turned w a)) ys xs (zip2_maps (λ a b. cond (ltb a b) (2 ^ bits w - 1) 0) (turned w) (turned w) ys xs) ∙ zip2_swapped (λ b a. cond (ltb (turned w b) (turned w a)) b a) xs ys ∙ zip3_agrees w xs ys zs (λ a b d p q. least_turned w a b p q) fits_x fits_y long)

pub greatest_lanes : (w : Width) (xs ys zs : List ℕ) → Each1 (Fits w) xs → Each1 (Fits w) ys → length zs ≡ length xs → zip3 (lane_of Maxu w) xs ys zs ≡ sel_l (map (top (hbits w)) (zip2 (λ a b. cond (ltb a b) (2 ^ bits w - 1) 0) xs ys)) ys xs
unfolding lane_of element
greatest_lanes w xs ys zs fits_x fits_y long = sym (picked w (λ b a. ltb a b) ys xs (zip2_swapped (λ a b. cond (ltb a b) (2 ^ bits w - 1) 0) ys xs) ∙ zip2_swapped (λ b a. cond (ltb a b) b a) xs ys ∙ zip3_agrees w xs ys zs (λ a b d p q. greatest a b) fits_x fits_y long)

pub greatest_signed : (w : Width) (xs ys zs : List ℕ) → Each1 (Fits w) xs → Each1 (Fits w) ys → length zs ≡ length xs → zip3 (lane_of Max w) xs ys zs ≡ sel_l (map (top (hbits w)) (zip2 (λ a b. cond (ltb a b) (2 ^ bits w - 1) 0) (map (turned w) ys) (map (turned w) xs))) xs ys
unfolding lane_of element
greatest_signed w xs ys zs fits_x fits_y long = sym (picked w (λ a b. ltb (turned w b) (turned w a)) xs ys (zip2_maps (λ a b. cond (ltb a b) (2 ^ bits w - 1) 0) (turned w) (turned w) ys xs ∙ zip2_swapped (λ b a. cond (ltb (turned w b) (turned w a)) (2 ^ bits w - 1) 0) xs ys) ∙ zip3_agrees w xs ys zs (λ a b d p q. greatest_turned w a b p q) fits_x fits_y long)

pub ands : (w : Width) (xs ys zs : List ℕ) → Each1 (Fits w) xs → Each1 (Fits w) ys → length zs ≡ length xs → zip3 (lane_of And w) xs ys zs ≡ zip2 bit_and xs ys
unfolding lane_of element
ands w xs ys zs fits_x fits_y long = sym (zip3_agrees w xs ys zs (λ a b d p q. refl) fits_x fits_y long)

pub ors : (w : Width) (xs ys zs : List ℕ) → Each1 (Fits w) xs → Each1 (Fits w) ys → length zs ≡ length xs → zip3 (lane_of Or w) xs ys zs ≡ zip2 bit_or xs ys
unfolding lane_of element
ors w xs ys zs fits_x fits_y long = sym (zip3_agrees w xs ys zs (λ a b d p q. refl) fits_x fits_y long)

pub xors : (w : Width) (xs ys zs : List ℕ) → Each1 (Fits w) xs → Each1 (Fits w) ys → length zs ≡ length xs → zip3 (lane_of Xor w) xs ys zs ≡ zip2 bit_xor xs ys
unfolding lane_of element
xors w xs ys zs fits_x fits_y long = sym (zip3_agrees w xs ys zs (λ a b d p q. refl) fits_x fits_y long)

pub shifted_left : (w : Width) (xs ys zs : List ℕ) → Each1 (Fits w) xs → Each1 (Fits w) ys → length zs ≡ length xs → zip3 (lane_of Sll w) xs ys zs ≡ zip2 (λ a s. a * 2 ^ s % 2 ^ bits w) xs (map (shift_amount w) ys)
unfolding lane_of element
shifted_left w xs ys zs fits_x fits_y long = sym (zip2_map_right (λ a s. a * 2 ^ s % 2 ^ bits w) (shift_amount w) xs ys ∙ zip3_agrees w xs ys zs (λ a b d p q. refl) fits_x fits_y long)

pub shifted_right : (w : Width) (xs ys zs : List ℕ) → Each1 (Fits w) xs → Each1 (Fits w) ys → length zs ≡ length xs → zip3 (lane_of Srl w) xs ys zs ≡ zip2 (λ a s. a / 2 ^ s) xs (map (shift_amount w) ys)
unfolding lane_of element
shifted_right w xs ys zs fits_x fits_y long = sym (zip2_map_right (λ a s. a / 2 ^ s) (shift_amount w) xs ys ∙ zip3_agrees w xs ys zs (λ a b d p q. refl) fits_x fits_y long)

pub shifted_signed : (w : Width) (xs ys zs : List ℕ) → Each1 (Fits w) xs → Each1 (Fits w) ys → length zs ≡ length xs → zip3 (lane_of Sra w) xs ys zs ≡ zip2 (element int.Sra w) xs ys
unfolding lane_of element
shifted_signed w xs ys zs fits_x fits_y long = sym (zip3_agrees w xs ys zs (λ a b d p q. refl) fits_x fits_y long)

pub products : (w : Width) (xs ys zs : List ℕ) → Each1 (Fits w) xs → Each1 (Fits w) ys → length zs ≡ length xs → zip3 (lane_of Mul w) xs ys zs ≡ zip2 (λ a b. a * b % 2 ^ bits w) xs ys
unfolding lane_of element
products w xs ys zs fits_x fits_y long = sym (zip3_agrees w xs ys zs (λ a b d p q. refl) fits_x fits_y long)

pub compares_of : (op : CompareOp) (w : Width) (xs ys zs : List ℕ) → Each1 (Fits w) xs → Each1 (Fits w) ys → length zs ≡ length xs → zip3 (lane_of (Compare op) w) xs ys zs ≡ zip2 (λ a b. all_ones w (compares op w a b)) xs ys
unfolding lane_of
compares_of op w xs ys zs fits_x fits_y long = sym (zip3_agrees w xs ys zs (λ a b d p q. refl) fits_x fits_y long)

pub multiply_adds_of : (op : MultiplyAddOp) (w : Width) (xs ys zs : List ℕ) → zip3 (lane_of (MultiplyAdd op) w) xs ys zs ≡ zip3 (multiply_added op w) xs ys zs
unfolding lane_of
multiply_adds_of op w xs ys zs = refl

pub ruleset lanes_of_each = (sums, differences, differences_of, least_lanes, least_signed, greatest_lanes, greatest_signed, ands, ors, xors, shifted_left, shifted_right, shifted_signed, products, compares_of, multiply_adds_of)

-- lanes that a compare chooses
pub where_equal : (w : Width) (xs ys us vs : List ℕ) → Each1 (Fits w) xs → Each1 (Fits w) ys → sel_l (zip2 (compares Eq w) xs ys) us vs ≡ sel_l (map (top (hbits w)) (zip2 (λ a b. cond (nat_eq a b) (2 ^ bits w - 1) 0) xs ys)) us vs
unfolding compares
where_equal w xs ys us vs fits_x fits_y = compared w xs ys us vs refl (λ a b p q. refl) fits_x fits_y

pub where_other : (w : Width) (xs ys us vs : List ℕ) → Each1 (Fits w) xs → Each1 (Fits w) ys → sel_l (zip2 (compares Ne w) xs ys) us vs ≡ sel_l (map (top (hbits w)) (zip2 (λ a b. cond (not (nat_eq a b)) (2 ^ bits w - 1) 0) xs ys)) us vs
unfolding compares
where_other w xs ys us vs fits_x fits_y = compared w xs ys us vs refl (λ a b p q. refl) fits_x fits_y

pub where_below : (w : Width) (xs ys us vs : List ℕ) → Each1 (Fits w) xs → Each1 (Fits w) ys → sel_l (zip2 (compares Ltu w) xs ys) us vs ≡ sel_l (map (top (hbits w)) (zip2 (λ a b. cond (ltb a b) (2 ^ bits w - 1) 0) xs ys)) us vs
unfolding compares
where_below w xs ys us vs fits_x fits_y = compared w xs ys us vs refl (λ a b p q. refl) fits_x fits_y

pub where_below_signed : (w : Width) (xs ys us vs : List ℕ) → Each1 (Fits w) xs → Each1 (Fits w) ys → sel_l (zip2 (compares Lt w) xs ys) us vs ≡ sel_l (map (top (hbits w)) (zip2 (λ a b. cond (ltb a b) (2 ^ bits w - 1) 0) (map (turned w) xs) (map (turned w) ys))) us vs
unfolding compares
where_below_signed w xs ys us vs fits_x fits_y = compared w xs ys us vs (zip2_maps _ (turned w) (turned w) xs ys) (less_turned w) fits_x fits_y

pub where_at_most : (w : Width) (xs ys us vs : List ℕ) → Each1 (Fits w) xs → Each1 (Fits w) ys → sel_l (zip2 (compares Leu w) xs ys) us vs ≡ sel_l (map (top (hbits w)) (zip2 (λ a b. cond (leb a b) (2 ^ bits w - 1) 0) xs ys)) us vs
unfolding compares
where_at_most w xs ys us vs fits_x fits_y = compared w xs ys us vs refl (λ a b p q. refl) fits_x fits_y

pub where_at_most_signed : (w : Width) (xs ys us vs : List ℕ) → Each1 (Fits w) xs → Each1 (Fits w) ys → sel_l (zip2 (compares Le w) xs ys) us vs ≡ sel_l (map (top (hbits w)) (zip2 (λ a b. cond (leb a b) (2 ^ bits w - 1) 0) (map (turned w) xs) (map (turned w) ys))) us vs
unfolding compares
where_at_most_signed w xs ys us vs fits_x fits_y = compared w xs ys us vs (zip2_maps _ (turned w) (turned w) xs ys) (less_equal_turned w) fits_x fits_y

pub where_above : (w : Width) (xs ys us vs : List ℕ) → Each1 (Fits w) xs → Each1 (Fits w) ys → sel_l (zip2 (compares Gtu w) xs ys) us vs ≡ sel_l (map (top (hbits w)) (zip2 (λ a b. cond (ltb a b) (2 ^ bits w - 1) 0) ys xs)) us vs
unfolding compares
where_above w xs ys us vs fits_x fits_y = compared w xs ys us vs (zip2_swapped _ xs ys) (λ a b p q. refl) fits_x fits_y

pub where_above_signed : (w : Width) (xs ys us vs : List ℕ) → Each1 (Fits w) xs → Each1 (Fits w) ys → sel_l (zip2 (compares Gt w) xs ys) us vs ≡ sel_l (map (top (hbits w)) (zip2 (λ a b. cond (ltb a b) (2 ^ bits w - 1) 0) (map (turned w) ys) (map (turned w) xs))) us vs
unfolding compares
where_above_signed w xs ys us vs fits_x fits_y = compared w xs ys us vs (zip2_maps _ (turned w) (turned w) ys xs ∙ zip2_swapped _ xs ys) (λ a b p q. less_turned w b a q p) fits_x fits_y

-- all ones where it holds, and 0 elsewhere
pub ones_where : (op : CompareOp) (w : Width) (xs ys us vs : List ℕ) → us ≡ replicate (length xs) (2 ^ bits w - 1) → vs ≡ replicate (length xs) 0 → sel_l (zip2 (compares op w) xs ys) us vs ≡ zip2 (λ a b. all_ones w (compares op w a b)) xs ys
ones_where op w xs ys us vs ones zeros = rw (ones, zeros) (select_splats (compares op w) (length xs) (2 ^ bits w - 1) 0 xs ys refl)

pub ruleset chosen_lanes = (where_equal, where_other, where_below, where_below_signed, where_at_most, where_at_most_signed, where_above, where_above_signed)
