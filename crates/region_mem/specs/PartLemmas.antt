-- Parts of an area: what one write after another leaves.
use Rattle.std.proofs.Common.{◌≡◌, ℕ, suc, ◌+◌, ◌-◌, ◌*◌, ◌<◌, ◌≤◌, List, [], ◌∷◌, ◌++◌, length, take, drop, set, arith, sym, ap, refl, ◌∙◌}
use Rattle.std.specs.Int.{to_le_bytes, w32}
use Rattle.std.proofs.Math.Seq.{take-append_seam, drop-append-add}
use Rattle.std.proofs.lemmas.List.{length-append, length-take-le, take-append-drop, append-nil, append_assoc, drop-drop, set_split}
use Rattle.byteorder.specs.Numbers.{length-bytes_low_first, little_from-cons}
use Rattle.region_mem.specs.Areas.{Area, number_of, bytes_of, part_into}
use Rattle.region_mem.specs.ApartLemmas.{end_of}
use Rattle.region_mem.specs.WriteLemmas.{written}

-- a list with ys in the place of as many from an index on
abbrev put : ℕ → List ℕ → List ℕ → List ℕ
put at ys xs = take at xs ++ ys ++ drop (at + length ys) xs

put_none : (at : ℕ) (xs : List ℕ) → put at [] xs ≡ xs
put_none at xs =
    let same : at + 0 ≡ at = omega arith in
    rw (append-nil (take at xs), same) (take-append-drop at xs)

put_one : (at y : ℕ) (xs : List ℕ) → at < length xs → set xs at y ≡ put at (y ∷ []) xs
put_one at y xs below =
    let next : suc at ≡ at + 1 = omega arith in
    set_split xs at y below ∙ (ap (λ k. take at xs ++ y ∷ drop k xs) next ∙ sym (append_assoc (take at xs) (y ∷ []) (drop (at + 1) xs)))

front_is : (at : ℕ) (ys xs : List ℕ) → at ≤ length xs → length (take at xs ++ ys) ≡ at + length ys
front_is at ys xs low = omega (arith, length-append (take at xs) ys, length-take-le at xs low)

put_take : (at : ℕ) (ys xs : List ℕ) → at ≤ length xs → take (at + length ys) (put at ys xs) ≡ take at xs ++ ys
put_take at ys xs low =
    rw (← front_is at ys xs low) (take-append_seam (take at xs ++ ys) (drop (length (take at xs ++ ys)) xs))

put_drop : (at n : ℕ) (ys xs : List ℕ) → at ≤ length xs → drop ((at + length ys) + n) (put at ys xs) ≡ drop ((at + length ys) + n) xs
put_drop at n ys xs low =
    let front = front_is at ys xs low in
    ap (λ k. drop (k + n) (put at ys xs)) (sym front) ∙ (drop-append-add (take at xs ++ ys) (drop (at + length ys) xs) n ∙ drop-drop n (at + length ys) xs)

-- Two parts end to end are one.
put_both : (at : ℕ) (ys zs xs : List ℕ) → at ≤ length xs → put (at + length ys) zs (put at ys xs) ≡ put at (ys ++ zs) xs
put_both at ys zs xs low =
    let size : (at + length ys) + length zs ≡ at + length (ys ++ zs) = omega (arith, length-append ys zs) in
    ap (λ front. front ++ zs ++ drop ((at + length ys) + length zs) (put at ys xs)) (put_take at ys xs low)
    ∙ (ap (λ back. take at xs ++ ys ++ zs ++ back) (put_drop at (length zs) ys xs low)
    ∙ (ap (λ k. take at xs ++ ys ++ zs ++ drop k xs) size ∙ ap (λ front. front ++ drop (at + length (ys ++ zs)) xs) (append_assoc (take at xs) ys zs)))

pub parts_join : (at : ℕ) (ys zs : List ℕ) (area : Area) → area.first ≤ at → at ≤ end_of area →
    part_into (at + length ys) zs (part_into at ys area) ≡ part_into at (ys ++ zs) area
unfolding part_into
parts_join at ys zs area low high =
    let place : (at + length ys) - area.first ≡ (at - area.first) + length ys = omega arith in
    rw place (ap (λ b. record area { bytes = b }) (put_both (at - area.first) ys zs area.bytes (omega arith)))

pub part_none : (at : ℕ) (area : Area) → part_into at [] area ≡ area
unfolding part_into
part_none at area = ap (λ b. record area { bytes = b }) (put_none (at - area.first) area.bytes)

pub part_one : (at y : ℕ) (area : Area) → area.first ≤ at → at < end_of area → written at y area ≡ part_into at (y ∷ []) area
unfolding part_into
part_one at y area low high = ap (λ b. record area { bytes = b }) (put_one (at - area.first) y area.bytes (omega arith))

pub length_bytes : (n value : ℕ) → length (bytes_of n value) ≡ n
unfolding bytes_of
length_bytes n value = length-bytes_low_first 0 n value

-- the lowest byte and the others
pub number_of-cons : (byte : ℕ) (bytes : List ℕ) → number_of (byte ∷ bytes) ≡ byte + 256 * number_of bytes
unfolding number_of
number_of-cons byte bytes = ap (λ (n : ℕ). byte + 256 * n) (little_from-cons 0 (length bytes) byte bytes)

-- The lowest bytes are the first ones.
pub one_byte : (value : ℕ) → take 1 (to_le_bytes w32 value) ≡ bytes_of 1 value
unfolding bytes_of
one_byte value = refl

pub two_bytes : (value : ℕ) → take 2 (to_le_bytes w32 value) ≡ bytes_of 2 value
unfolding bytes_of
two_bytes value = refl

pub four_bytes : (value : ℕ) → to_le_bytes w32 value ≡ bytes_of 4 value
unfolding bytes_of
four_bytes value = refl
