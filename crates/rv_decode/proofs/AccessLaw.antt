-- The rows of the vector loads and stores: each gives a word the instruction that it encodes.
use Rattle.std.proofs.Common.{◌≡◌, ℕ, ◌^◌, ◌*◌, ◌+◌, ◌<◌, ◌%◌, Bool, true, false, refl, arith}
use Rattle.rv_decode.specs.Bits.{bits}
use Rattle.rv_decode.specs.Encode.{low_fields}
use Rattle.rv_decode.specs.EncodeAccess.{encode_m, encode_access, opcode_of_direction, f3_of_width, number_of_count, nf_of_count, mop_of_order, WholeFits}
use Rattle.rv_decode.specs.Access.{unit, strided, indexed, mask, whole, element_rows, whole_rows, mask_rows, byte_rows, wide_load_rows, vector_load_groups, vector_store_groups}
use Rattle.rv_decode.proofs.TableLaw.{RowsHold, GroupsHold, append_rows}
use Rattle.rv_decode.proofs.ScalarLaw.{Encodes}
use Rattle.rv_decode.proofs.Wholes.{below5, mask_bit}
use Rattle.rv_decode.specs.Words.{Count, Direction, Width, One, Two, Four, Eight, W8, W16, W32}

parts_m : (word : ℕ) → word < 2 ^ 32 → word ≡ bits 29 3 word * 2 ^ 29 + bits 26 3 word * 2 ^ 26 + bits 25 1 word * 2 ^ 25 + bits 20 5 word * 2 ^ 20 + low_fields (bits 0 7 word) (bits 7 5 word) (bits 12 3 word) (bits 15 5 word)
unfolding bits low_fields
parts_m word w = omega arith

-- what the fields of a word say of an access
record Spells (word : ℕ) (direction : Direction) (width : Width) : Type 0 where
  at_opcode : bits 0 7 word ≡ opcode_of_direction direction
  at_f3 : bits 12 3 word ≡ f3_of_width width

word_of : (word : ℕ) (direction : Direction) (width : Width) → Spells word direction width → word < 2 ^ 32 → word ≡ bits 29 3 word * 2 ^ 29 + bits 26 3 word * 2 ^ 26 + bits 25 1 word * 2 ^ 25 + bits 20 5 word * 2 ^ 20 + low_fields (opcode_of_direction direction) (bits 7 5 word) (f3_of_width width) (bits 15 5 word)
word_of word direction width s w =
    let h = parts_m word w in let o = s.at_opcode in let f = s.at_f3 in cc

unit_is : (word : ℕ) (direction : Direction) (width : Width) → Spells word direction width → bits 26 3 word ≡ 0 → bits 20 5 word ≡ 0 → bits 29 3 word ≡ 0 → Encodes word (unit direction width word)
unfolding encode_access encode_m
unit_is word direction width s mop kind nf =
    let vm = mask_bit word in
    ((λ w. let h = word_of word direction width s w in cc), (below5 7 word, below5 15 word, tt))

strided_is : (word : ℕ) (direction : Direction) (width : Width) → Spells word direction width → bits 26 3 word ≡ 2 → bits 29 3 word ≡ 0 → Encodes word (strided direction width word)
unfolding encode_access encode_m
strided_is word direction width s mop nf =
    let vm = mask_bit word in
    ((λ w. let h = word_of word direction width s w in cc), (below5 7 word, below5 15 word, below5 20 word))

indexed_is : (word : ℕ) (ordered : Bool) (direction : Direction) (width : Width) → Spells word direction width → bits 26 3 word ≡ mop_of_order ordered → bits 29 3 word ≡ 0 → Encodes word (indexed ordered direction width word)
unfolding encode_access encode_m
indexed_is word ordered direction width s mop nf =
    let vm = mask_bit word in
    ((λ w. let h = word_of word direction width s w in cc), (below5 7 word, below5 15 word, below5 20 word))

mask_is : (word : ℕ) (direction : Direction) → Spells word direction W8 → bits 26 3 word ≡ 0 → bits 20 5 word ≡ 0x0b → bits 25 1 word ≡ 1 → bits 29 3 word ≡ 0 → Encodes word (mask direction word)
unfolding encode_access encode_m
mask_is word direction s mop kind vm nf =
    ((λ w. let h = word_of word direction W8 s w in cc), (below5 7 word, below5 15 word, tt))

whole_is : (word : ℕ) (count : Count) (direction : Direction) (width : Width) → Spells word direction width → WholeFits direction width → bits 26 3 word ≡ 0 → bits 20 5 word ≡ 8 → bits 25 1 word ≡ 1 → bits 29 3 word ≡ nf_of_count count → bits 7 5 word % number_of_count count ≡ 0 → Encodes word (whole count direction width word)
unfolding encode_access encode_m
whole_is word count direction width s stored mop kind vm nf aligned =
    ((λ w. let h = word_of word direction width s w in cc), (below5 7 word, below5 15 word, (aligned, stored)))

-- whole registers begin at a multiple of their number

multiple_of_one : (word : ℕ) → bits 7 5 word % 1 ≡ 0
multiple_of_one word = omega arith

multiple_of_two : (word : ℕ) → bits 7 1 word ≡ 0 → bits 7 5 word % 2 ≡ 0
unfolding bits
multiple_of_two word e = omega arith

multiple_of_four : (word : ℕ) → bits 7 2 word ≡ 0 → bits 7 5 word % 4 ≡ 0
unfolding bits
multiple_of_four word e = omega arith

multiple_of_eight : (word : ℕ) → bits 7 3 word ≡ 0 → bits 7 5 word % 8 ≡ 0
unfolding bits
multiple_of_eight word e = omega arith

element_rows_hold : (word : ℕ) (direction : Direction) (width : Width) → Spells word direction width → RowsHold (Encodes word) word (element_rows direction width)
unfolding element_rows
element_rows_hold word direction width s = (
  (λ r. unit_is word direction width s r.0 r.1.0 r.1.1.0),
  (
    (λ r. indexed_is word false direction width s r.0 r.1.0),
    (
      (λ r. strided_is word direction width s r.0 r.1.0),
      (
        (λ r. indexed_is word true direction width s r.0 r.1.0),
        tt,
      ),
    ),
  ),
)

whole_rows_hold : (word : ℕ) (direction : Direction) (width : Width) → Spells word direction width → WholeFits direction width → RowsHold (Encodes word) word (whole_rows direction width)
unfolding whole_rows
whole_rows_hold word direction width s stored = (
  (λ r. whole_is word One direction width s stored r.0 r.1.0 r.1.1.0 r.1.1.1.0 (multiple_of_one word)),
  (
    (λ r. whole_is word Two direction width s stored r.0 r.1.0 r.1.1.0 r.1.1.1.0 (multiple_of_two word r.1.1.1.1.0)),
    (
      (λ r. whole_is word Four direction width s stored r.0 r.1.0 r.1.1.0 r.1.1.1.0 (multiple_of_four word r.1.1.1.1.0)),
      (
        (λ r. whole_is word Eight direction width s stored r.0 r.1.0 r.1.1.0 r.1.1.1.0 (multiple_of_eight word r.1.1.1.1.0)),
        tt,
      ),
    ),
  ),
)

mask_rows_hold : (word : ℕ) (direction : Direction) → Spells word direction W8 → RowsHold (Encodes word) word (mask_rows direction)
unfolding mask_rows
mask_rows_hold word direction s = ((λ r. mask_is word direction s r.0 r.1.0 r.1.1.0 r.1.1.1.0), tt)

byte_rows_hold : (word : ℕ) (direction : Direction) → Spells word direction W8 → WholeFits direction W8 → RowsHold (Encodes word) word (byte_rows direction)
unfolding byte_rows
byte_rows_hold word direction s stored =
    let both = append_rows (Encodes word) word _ _ (element_rows_hold word direction W8 s) (whole_rows_hold word direction W8 s stored) in
    append_rows (Encodes word) word _ _ both (mask_rows_hold word direction s)

wide_load_rows_hold : (word : ℕ) (width : Width) → Spells word Direction.Load width → RowsHold (Encodes word) word (wide_load_rows width)
unfolding wide_load_rows
wide_load_rows_hold word width s =
    append_rows (Encodes word) word _ _ (element_rows_hold word Direction.Load width s) (whole_rows_hold word Direction.Load width s tt)

spells : (word : ℕ) → (direction : Direction) → bits 0 7 word ≡ opcode_of_direction direction → (width : Width) → bits 12 3 word ≡ f3_of_width width → Spells word direction width
spells word direction o width f = record { at_opcode = o; at_f3 = f }

pub vector_load_rows : (word : ℕ) → bits 0 7 word ≡ 0x07 → GroupsHold (Encodes word) word vector_load_groups
unfolding vector_load_groups
vector_load_rows word o = (
  (λ g. byte_rows_hold word Direction.Load (spells word Direction.Load o W8 g.0) tt),
  (
    (λ g. wide_load_rows_hold word W16 (spells word Direction.Load o W16 g.0)),
    (
      (λ g. wide_load_rows_hold word W32 (spells word Direction.Load o W32 g.0)),
      tt,
    ),
  ),
)

pub vector_store_rows : (word : ℕ) → bits 0 7 word ≡ 0x27 → GroupsHold (Encodes word) word vector_store_groups
unfolding vector_store_groups
vector_store_rows word o = (
  (λ g. byte_rows_hold word Direction.Store (spells word Direction.Store o W8 g.0) refl),
  (
    (λ g. element_rows_hold word Direction.Store W16 (spells word Direction.Store o W16 g.0)),
    (
      (λ g. element_rows_hold word Direction.Store W32 (spells word Direction.Store o W32 g.0)),
      tt,
    ),
  ),
)
