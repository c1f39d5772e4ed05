-- What a write to the registers keeps: that they are 32 of vlenb bytes, and each byte that lies outside what is written.
use Rattle.std.proofs.Common.{◌≡◌, ◌⊎◌, inl, inr, ◌<◌, ◌≤◌, ◌+◌, ◌-◌, ◌*◌, ◌/◌, ◌%◌, ℕ, zero, suc, Bool, true, false, List, [], ◌∷◌, ◌++◌, length, length-append, take, drop, get_or, arith, refl, sym, ap, ◌∙◌, subst}
use Rattle.std.specs.Prelude.{if◌then◌else◌}
use Rattle.std.specs.List.{flat_map, range_with_len}
use Rattle.std.proofs.Math.Nat.{mul-le-mul_left, mul-div-le}
use Rattle.std.proofs.lemmas.List.{get_or-append_right, get_or-drop, get_or-take, get_or_append_left, length-drop, length-take-le}
use Rattle.elf_image.specs.Words.{AreBytes}
use Rattle.elf_image.specs.ByteLemmas.{AreBytes-nil, AreBytes-cons, AreBytes-append, AreBytes-take, AreBytes-drop}
use Rattle.vreg_groups.specs.Copies.{copied}
use Rattle.vreg_groups.specs.Elements.{bytes_of}
use Rattle.vreg_groups.specs.Group.{Span, written}
use Rattle.vreg_groups.specs.NewElements.{mask_write_of, new_bytes, new_mask_byte, new_mask_bytes, replaced, write_of}
use Rattle.vreg_groups.specs.declared.policies.Policy.{Policy}
use Rattle.vreg_groups.specs.PlaceLemmas.{bytes_of-suc, length-flat_map_range, length-new_bytes}
use Rattle.vreg_groups.specs.WriteLemmas.{length-new_mask_bytes, number_of_bits-lt}
use Rattle.vector_core.specs.KeepLaws.{AreRegisters}

-- ---- lists of bytes

bytes_flat_map : (f : ℕ → List ℕ) (xs : List ℕ) → ((k : ℕ) → AreBytes (f k)) → AreBytes (flat_map f xs)
bytes_flat_map f [] h i = AreBytes-nil i
bytes_flat_map f (x ∷ xs) h i = AreBytes-append (f x) (flat_map f xs) (h x) (bytes_flat_map f xs h) i

bytes_of_number : (n v : ℕ) → AreBytes (bytes_of n v)
unfolding bytes_of
bytes_of_number zero v i = AreBytes-nil i
bytes_of_number (suc n) v i =
    subst (λ xs. get_or xs i 0 < 256) (sym (bytes_of-suc n v))
    (AreBytes-cons (v % 256) (bytes_of n (v / 256)) (omega arith) (bytes_of_number n (v / 256)) i)

-- ---- what is kept

-- the bytes outside `count` registers from `first` on
abbrev pub Beside : ℕ → ℕ → ℕ → ℕ → Type 0
Beside vlenb first count i = (i < first * vlenb) ⊎ ((first + count) * vlenb ≤ i)

-- the registers are as many bytes as before, and those outside are the same
pub record IsKept (vlenb : ℕ) (outside : ℕ → Type 0) (file new : List ℕ) : Type 0 where
  pub registers : AreRegisters vlenb new
  pub others : (i : ℕ) → outside i → get_or new i 0 ≡ get_or file i 0

-- where nothing is written
pub all_kept : (vlenb : ℕ) (outside : ℕ → Type 0) (file : List ℕ) → AreRegisters vlenb file → IsKept vlenb outside file file
all_kept vlenb outside file r = record { registers = r; others = λ i o. refl }

pub unless_kept : (vlenb : ℕ) (outside : ℕ → Type 0) (t : Bool) (file new : List ℕ) → AreRegisters vlenb file
    → IsKept vlenb outside file new → IsKept vlenb outside file (if t then file else new)
unless_kept vlenb outside true file new r kept = all_kept vlenb outside file r
unless_kept vlenb outside false file new r kept = kept

-- bytes put from place `at` up to place `past`
put_elsewhere : (at past k : ℕ) (others file : List ℕ) → length (take at file) ≡ at → length (take at file ++ others) ≡ past
    → (k < at) ⊎ (past ≤ k) → get_or (take at file ++ others ++ drop past file) k 0 ≡ get_or file k 0
put_elsewhere at past k others file begins front (inl below) =
    get_or_append_left (take at file ++ others) (drop past file) 0 k (omega (arith, length-append (take at file) others))
    ∙ get_or_append_left (take at file) others 0 k (omega arith)
    ∙ get_or-take at file k 0 below
put_elsewhere at past k others file begins front (inr after) =
    get_or-append_right (take at file ++ others) (drop past file) past k 0 front after
    ∙ get_or-drop past file (k - past) 0
    ∙ ap (λ i. get_or file i 0) (omega arith)

put_kept : (vlenb at past : ℕ) (others file : List ℕ) → AreRegisters vlenb file → AreBytes others → at + length others ≡ past
    → past ≤ 32 * vlenb → IsKept vlenb (λ i. (i < at) ⊎ (past ≤ i)) file (take at file ++ others ++ drop past file)
put_kept vlenb at past others file r small len room =
    let begins : length (take at file) ≡ at = length-take-le at file (omega (arith, r.count)) in
    let front : length (take at file ++ others) ≡ past = omega (arith, length-append (take at file) others) in
    let all = length-append (take at file ++ others) (drop past file) in
    let low = AreBytes-append (take at file) others (AreBytes-take at file r.bytes) small in
    record {
      registers = record {
        count = omega (arith, all, length-drop past file, r.count);
        bytes = AreBytes-append (take at file ++ others) (drop past file) low (AreBytes-drop past file r.bytes);
      };
      others = λ k outside. put_elsewhere at past k others file begins front outside;
    }

-- what is kept outside less is kept outside more
fewer_kept : (vlenb : ℕ) (inner outer : ℕ → Type 0) (file new : List ℕ) → ((i : ℕ) → outer i → inner i)
    → IsKept vlenb inner file new → IsKept vlenb outer file new
fewer_kept vlenb inner outer file new h kept =
    record { registers = kept.registers; others = λ i o. kept.others i (h i o) }

-- pieces of one size, n of them, from place `at` on
replaced_kept : (vlenb size at n : ℕ) (piece : ℕ → List ℕ) (file : List ℕ) → AreRegisters vlenb file
    → ((k : ℕ) → length (piece k) ≡ size) → ((k : ℕ) → AreBytes (piece k)) → at + size * n ≤ 32 * vlenb
    → IsKept vlenb (λ i. (i < at) ⊎ (at + size * n ≤ i)) file (replaced size at n piece file)
unfolding replaced
replaced_kept vlenb size at n piece file r sizes small room =
    let pieces = flat_map piece (range_with_len 0 n) in
    let len : length pieces ≡ size * n = length-flat_map_range piece size 0 n sizes in
    put_kept vlenb at (at + size * n) pieces file r (bytes_flat_map piece (range_with_len 0 n) small) (omega arith) room

-- the pieces lie in the group
inside_group : (vlenb size first count : ℕ) → first + count ≤ 32 → first * vlenb + size * (count * vlenb / size) ≤ 32 * vlenb
inside_group vlenb size first count room =
    let elements = mul-div-le (count * vlenb) size in
    let all : vlenb * (first + count) ≤ vlenb * 32 = mul-le-mul_left vlenb room in
    omega arith

beside_pieces : (vlenb size first count i : ℕ) → Beside vlenb first count i
    → (i < first * vlenb) ⊎ (first * vlenb + size * (count * vlenb / size) ≤ i)
beside_pieces vlenb size first count i (inl below) = inl below
beside_pieces vlenb size first count i (inr past) = inr (let elements = mul-div-le (count * vlenb) size in omega arith)

new_bytes_small : (size at : ℕ) (policy : Policy) (results : List ℕ) (active : List Bool) (file : List ℕ) (k : ℕ)
    → AreBytes (new_bytes size at policy results active file k)
unfolding new_bytes
new_bytes_small size at policy results active file k i = bytes_of_number size _ i

-- a write to a group
pub write_kept : (vlenb size first count : ℕ) (policy : Policy) (results : List ℕ) (active : List Bool) (file : List ℕ)
    → first + count ≤ 32 → AreRegisters vlenb file
    → IsKept vlenb (Beside vlenb first count) file (write_of vlenb size first count policy results active file)
unfolding write_of
write_kept vlenb size first count policy results active file room r =
    let at = first * vlenb in
    fewer_kept vlenb _ (Beside vlenb first count) file _ (beside_pieces vlenb size first count)
    (replaced_kept vlenb size at (count * vlenb / size) (new_bytes size at policy results active file) file r
    (length-new_bytes size at policy results active file) (new_bytes_small size at policy results active file)
    (inside_group vlenb size first count room))

pub span_kept : (vlenb : ℕ) (group : Span) (policy : Policy) (results : List ℕ) (active : List Bool) (file : List ℕ)
    → group.first + group.count ≤ 32 → AreRegisters vlenb file
    → IsKept vlenb (Beside vlenb group.first group.count) file (written vlenb group policy results active file)
unfolding written
span_kept vlenb group policy results active file room r =
    write_kept vlenb group.bytes group.first group.count policy results active file room r

-- a write to a mask register
new_mask_bytes_small : (at : ℕ) (policy : Policy) (results active : List Bool) (file : List ℕ) (k : ℕ)
    → AreBytes (new_mask_bytes at policy results active file k)
unfolding new_mask_bytes new_mask_byte
new_mask_bytes_small at policy results active file k zero = number_of_bits-lt 8 _
new_mask_bytes_small at policy results active file k (suc i) = AreBytes-nil i

beside_register : (vlenb register i : ℕ) → Beside vlenb register 1 i
    → (i < register * vlenb) ⊎ (register * vlenb + 1 * vlenb ≤ i)
beside_register vlenb register i (inl below) = inl below
beside_register vlenb register i (inr past) = inr (omega arith)

pub mask_kept : (vlenb register : ℕ) (policy : Policy) (results active : List Bool) (file : List ℕ) → register < 32
    → AreRegisters vlenb file
    → IsKept vlenb (Beside vlenb register 1) file (mask_write_of vlenb register policy results active file)
unfolding mask_write_of
mask_kept vlenb register policy results active file below r =
    let at = register * vlenb in
    let all : vlenb * (register + 1) ≤ vlenb * 32 = mul-le-mul_left vlenb (omega arith) in
    fewer_kept vlenb _ (Beside vlenb register 1) file _ (beside_register vlenb register)
    (replaced_kept vlenb 1 at vlenb (new_mask_bytes at policy results active file) file r
    (length-new_mask_bytes at policy results active file) (new_mask_bytes_small at policy results active file)
    (omega arith))

-- a copy of whole registers
pub copy_kept : (vlenb first source count : ℕ) (file : List ℕ) → first + count ≤ 32 → source + count ≤ 32
    → AreRegisters vlenb file → IsKept vlenb (Beside vlenb first count) file (copied vlenb first source count file)
unfolding copied
copy_kept vlenb first source count file room from r =
    let moved = take (count * vlenb) (drop (source * vlenb) file) in
    let all : vlenb * (first + count) ≤ vlenb * 32 = mul-le-mul_left vlenb room in
    let read : vlenb * (source + count) ≤ vlenb * 32 = mul-le-mul_left vlenb from in
    let rest : length (drop (source * vlenb) file) ≡ length file - source * vlenb = length-drop (source * vlenb) file in
    let len : length moved ≡ count * vlenb =
    length-take-le (count * vlenb) (drop (source * vlenb) file) (omega (arith, r.count)) in
    put_kept vlenb (first * vlenb) ((first + count) * vlenb) moved file r
    (AreBytes-take (count * vlenb) (drop (source * vlenb) file) (AreBytes-drop (source * vlenb) file r.bytes))
    (omega arith) (omega arith)
