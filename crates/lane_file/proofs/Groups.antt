-- The body and the tail of a group as a write of its results.
use Rattle.std.proofs.Common.{◌≡◌, ◌⊎◌, ℕ, ◌+◌, ◌-◌, ◌*◌, ◌^◌, ◌<◌, ◌≤◌, Bool, true, false, List, ◌++◌, suc, subst, append_assoc, length, take, drop, get_or, replicate, refl, ap, ap₂, sym, ◌∙◌, arith, inl, inr, zero-add, if◌then◌else◌}
use Rattle.std.specs.List.{range_with_len}
use Rattle.std.proofs.Math.Nat.{mul-le-mul_left}
use Rattle.std.proofs.lemmas.Bool.{lt-ltb, cases_lt}
use Rattle.std.proofs.lemmas.Bool.Decides.{leb_tells}
use Rattle.std.proofs.lemmas.List.{length-map, get_or-map, length-replicate, get_or-replicate, get_or-take, get_or-drop, get_or_past, get_or_append_left, get_or-append_right, length-take-le, length-append, length-drop}
use Rattle.std.proofs.lemmas.List.FromFn.{length-range_with_len, get_or-range_with_len}
use Rattle.byteorder.specs.Endian.{little_from}
use Rattle.lane_int.specs.LaneLemmas.{get_or-zip3, length-zip3}
use Rattle.lane_int.specs.Lists.{zip3}
use Rattle.vreg_groups.specs.Elements.{active_of, bytes_from, element_at, elements_of, mask_bit, mask_bits, number_at}
use Rattle.vreg_groups.specs.NewElements.{filled, new_element, overlaid, write_of}
use Rattle.vreg_groups.specs.Group.{Span, written}
use Rattle.vreg_groups.specs.VectorLength.{IsVlenb}
use Rattle.vreg_groups.specs.declared.policies.Agnostic.{Agnostic}
use Rattle.vreg_groups.specs.declared.policies.Agnostic.TheVariants.{Keep, Ones}
use Rattle.vreg_groups.specs.declared.policies.Policy.{Policy}
use Rattle.vreg_groups.specs.PointwiseLemmas.{is_written}
use Rattle.lane_file.specs.declared.second.Second.{Second}
use Rattle.lane_file.specs.declared.second.Second.TheVariants.{Group, Splat}
use Rattle.lane_file.specs.InPlace.{IsDone, IsKept, is_active, other_of, second_list, target}
use Rattle.lane_file.proofs.Steps.{same_number}
use Rattle.lane_file.proofs.Chosen.{filled_number}

-- ---- rooms

pub group_room : (vlenb first count n : ℕ) → first + count ≤ 32 → n ≤ count * vlenb → first * vlenb + n ≤ 32 * vlenb
group_room vlenb first count n inside le =
    let e : vlenb * (first + count) ≤ vlenb * 32 = mul-le-mul_left vlenb inside in
    omega (arith, e, le)

-- ---- lists of elements

pub element_there : (vlenb size first n : ℕ) (file : List ℕ) (i e : ℕ) → i < n → get_or (elements_of vlenb size first n file) i e ≡ little_from (first * vlenb + size * i) size file
unfolding elements_of element_at number_at
element_there vlenb size first n file i e lt =
    get_or-map (λ j. little_from (first * vlenb + size * j) size file) (range_with_len 0 n) i 0 e (omega (arith, lt, length-range_with_len 0 n))
    ∙ ap (λ j. little_from (first * vlenb + size * j) size file) (get_or-range_with_len 0 n i 0 lt ∙ zero-add i)

pub length-elements : (vlenb size first n : ℕ) (file : List ℕ) → length (elements_of vlenb size first n file) ≡ n
unfolding elements_of
length-elements vlenb size first n file = length-map (range_with_len 0 n) _ ∙ length-range_with_len 0 n

pub second_there : {A : Type 0} (vlenb size n : ℕ) (number : A → ℕ) (b : Second A) (file : List ℕ) (i e : ℕ) → i < n → get_or (second_list vlenb size number n b file) i e ≡ other_of vlenb size number b (size * i) file
second_there vlenb size n number (Group vs1) file i e lt = element_there vlenb size vs1 n file i e lt
second_there vlenb size n number (Splat value) file i e lt = get_or-replicate n i (number value) e lt

pub length-second : {A : Type 0} (vlenb size n : ℕ) (number : A → ℕ) (b : Second A) (file : List ℕ) → length (second_list vlenb size number n b file) ≡ n
length-second vlenb size n number (Group vs1) file = length-elements vlenb size vs1 n file
length-second vlenb size n number (Splat value) file = length-replicate n (number value)

pub active_there : (vlenb n : ℕ) (masked : Bool) (file : List ℕ) (i : ℕ) → i < n → get_or (active_of vlenb masked n file) i false ≡ is_active vlenb masked i file
unfolding active_of mask_bits mask_bit
active_there vlenb n true file i lt =
    get_or-map (λ j. mask_bit vlenb 0 file j) (range_with_len 0 n) i 0 false (omega (arith, lt, length-range_with_len 0 n))
    ∙ ap (λ j. mask_bit vlenb 0 file j) (get_or-range_with_len 0 n i 0 lt ∙ zero-add i)
active_there vlenb n false file i lt = get_or-replicate n i true false lt

-- ---- what a policy makes of bytes

overlaid_byte : (at n k : ℕ) (old : List ℕ) → at + n ≤ length old → at ≤ k → k < at + n → get_or (overlaid at (replicate n 255) old) k 0 ≡ 255
unfolding overlaid
overlaid_byte at n k old room low high =
    let ff : List ℕ = replicate n 255 in
    let front : length (take at old) ≡ at = length-take-le at old (omega (arith, room)) in
    let long : length ff ≡ n = length-replicate n 255 in
    ap (λ l. get_or l k 0) (append_assoc (take at old) ff (drop (at + length ff) old))
    ∙ get_or-append_right (take at old) (ff ++ drop (at + length ff) old) at k 0 front low
    ∙ get_or_append_left ff (drop (at + length ff) old) 0 (k - at) (omega (arith, long, low, high))
    ∙ get_or-replicate n (k - at) 255 0 (omega (arith, low, high))

overlaid_other : (at n k : ℕ) (old : List ℕ) → at + n ≤ length old → (k < at) ⊎ (at + n ≤ k) → get_or (overlaid at (replicate n 255) old) k 0 ≡ get_or old k 0
unfolding overlaid
overlaid_other at n k old room (inl below) =
    let ff : List ℕ = replicate n 255 in
    let front : length (take at old) ≡ at = length-take-le at old (omega (arith, room)) in
    ap (λ l. get_or l k 0) (append_assoc (take at old) ff (drop (at + length ff) old))
    ∙ get_or_append_left (take at old) (ff ++ drop (at + length ff) old) 0 k (omega (arith, front, below))
    ∙ get_or-take at old k 0 below
overlaid_other at n k old room (inr past) =
    let ff : List ℕ = replicate n 255 in
    let front : length (take at old) ≡ at = length-take-le at old (omega (arith, room)) in
    let long : length ff ≡ n = length-replicate n 255 in
    ap (λ l. get_or l k 0) (append_assoc (take at old) ff (drop (at + length ff) old))
    ∙ get_or-append_right (take at old) (ff ++ drop (at + length ff) old) at k 0 front (omega (arith, past))
    ∙ get_or-append_right ff (drop (at + length ff) old) n (k - at) 0 long (omega (arith, past))
    ∙ get_or-drop (at + length ff) old (k - at - n) 0
    ∙ ap (λ t. get_or old t 0) (omega (arith, long, past))

overlaid_length : (at n : ℕ) (old : List ℕ) → at + n ≤ length old → length (overlaid at (replicate n 255) old) ≡ length old
unfolding overlaid
overlaid_length at n old room =
    let ff : List ℕ = replicate n 255 in
    let long : length ff ≡ n = length-replicate n 255 in
    let front : length (take at old) ≡ at = length-take-le at old (omega (arith, room)) in
    let rest : length (drop (at + length ff) old) ≡ length old - (at + length ff) = length-drop (at + length ff) old in
    let all : length (take at old ++ (ff ++ drop (at + length ff) old)) ≡ length (take at old) + length (ff ++ drop (at + length ff) old) = length-append (take at old) (ff ++ drop (at + length ff) old) in
    let tail : length (ff ++ drop (at + length ff) old) ≡ length ff + length (drop (at + length ff) old) = length-append ff (drop (at + length ff) old) in
    let sum : length (take at old) + length (ff ++ drop (at + length ff) old) ≡ length old = omega (arith, front, tail, long, rest, room) in
    ap length (append_assoc (take at old) ff (drop (at + length ff) old)) ∙ all ∙ sum

filled_byte : (agnostic : Agnostic) (at n k : ℕ) (old new : List ℕ) → at + n ≤ length old → new ≡ filled agnostic (overlaid at (replicate n 255) old) old → at ≤ k → k < at + n → get_or new k 0 ≡ filled agnostic 255 (get_or old k 0)
filled_byte Keep at n k old new room is low high = ap (λ l. get_or l k 0) is
filled_byte Ones at n k old new room is low high = ap (λ l. get_or l k 0) is ∙ overlaid_byte at n k old room low high

filled_other : (agnostic : Agnostic) (at n k : ℕ) (old new : List ℕ) → at + n ≤ length old → new ≡ filled agnostic (overlaid at (replicate n 255) old) old → (k < at) ⊎ (at + n ≤ k) → get_or new k 0 ≡ get_or old k 0
filled_other Keep at n k old new room is outside = ap (λ l. get_or l k 0) is
filled_other Ones at n k old new room is outside = ap (λ l. get_or l k 0) is ∙ overlaid_other at n k old room outside

pub filled_length : (agnostic : Agnostic) (at n : ℕ) (old new : List ℕ) → at + n ≤ length old → new ≡ filled agnostic (overlaid at (replicate n 255) old) old → length new ≡ length old
filled_length Keep at n old new room is = ap length is
filled_length Ones at n old new room is = ap length is ∙ overlaid_length at n old room

-- ---- the whole write

in_body : (policy : Policy) (ones : ℕ) (results : List ℕ) (active : List Bool) (i old r : ℕ) (yes : Bool) → i < length results → get_or active i false ≡ yes → get_or results i old ≡ r
    → (if yes then r else filled policy.inactive ones old) ≡ new_element policy ones results active i old
unfolding new_element
in_body policy ones results active i old r is_on lt on is = sym (rw (lt-ltb i (length results) lt, on) (ap (λ t. if is_on then t else filled policy.inactive ones old) is))

in_tail : (policy : Policy) (ones : ℕ) (results : List ℕ) (active : List Bool) (i old : ℕ) → length results ≤ i → filled policy.tail ones old ≡ new_element policy ones results active i old
unfolding new_element
in_tail policy ones results active i old le = elim (leb_tells (suc i) (length results)) [
  | inl lt ↦ absurd (omega (arith, lt.1, le))
  | inr ge ↦ sym (rw (ge.0) refl)
]

pub is_a_write : {A : Type 0} (vlenb size vl first a count : ℕ) (number : A → ℕ) (f : ℕ → ℕ → ℕ → ℕ) (b : Second A) (masked : Bool) (policy : Policy) (old mid new : List ℕ) →
    IsVlenb vlenb → (size ≡ 1) ⊎ (size ≡ 2) ⊎ (size ≡ 4) → first + count ≤ 32 → size * vl ≤ count * vlenb → length old ≡ 32 * vlenb → ((k : ℕ) → get_or new k 0 < 256)
    → IsDone size (first * vlenb) (target vlenb size number f (first * vlenb) (a * vlenb) b masked policy.inactive old) (size * vl) mid
    → IsKept (first * vlenb) (size * vl) old mid
    → new ≡ filled policy.tail (overlaid (first * vlenb + size * vl) (replicate (count * vlenb - size * vl) 255) mid) mid
    → new ≡ write_of vlenb size first count policy
    (zip3 f (elements_of vlenb size a vl old) (second_list vlenb size number vl b old) (elements_of vlenb size first vl old)) (active_of vlenb masked vl old) old
unfolding element_at number_at
is_a_write vlenb size vl first a count number f b masked policy old mid new v s inside fits registers small done kept is =
    let d = first * vlenb in
    let xs = elements_of vlenb size a vl old in
    let ys = second_list vlenb size number vl b old in
    let ds = elements_of vlenb size first vl old in
    let rs = zip3 f xs ys ds in
    let acts = active_of vlenb masked vl old in
    let long_x = length-elements vlenb size a vl old in
    let long_y = length-second vlenb size vl number b old in
    let long_d = length-elements vlenb size first vl old in
    let long : length rs ≡ length xs = length-zip3 f xs ys ds (long_y ∙ sym long_x) (long_d ∙ sym long_x) in
    let all : d + count * vlenb ≤ 32 * vlenb = group_room vlenb first count (count * vlenb) inside (omega arith) in
    let room : d + size * vl + (count * vlenb - size * vl) ≤ length mid = omega (arith, all, kept.0, registers, fits) in
    let there : (k : ℕ) → k < d + size * vl → get_or new k 0 ≡ get_or mid k 0 = λ k lt. filled_other policy.tail (d + size * vl) (count * vlenb - size * vl) k mid new room is (inl lt) in
    is_written vlenb size first count policy rs acts old new v s inside registers (filled_length policy.tail (d + size * vl) (count * vlenb - size * vl) mid new room is ∙ kept.0) small
    (λ i within. elim (cases_lt i vl) [
      | inl lt ↦
          let le : size * (i + 1) ≤ size * vl = mul-le-mul_left size (omega (arith, lt)) in
          let same : little_from (d + size * i) size new ≡ little_from (d + size * i) size mid =
          same_number size (d + size * i) (d + size * i) new mid (λ k p q less is_p is_q. there p (omega (arith, is_p, le, less)) ∙ ap (λ t. get_or mid t 0) (omega (arith, is_p, is_q))) in
          let was = little_from (d + size * i) size old in
          same ∙ done i (omega (arith, le))
          ∙ in_body policy (256 ^ size - 1) rs acts i was (f (little_from (a * vlenb + size * i) size old) (other_of vlenb size number b (size * i) old) was) (is_active vlenb masked i old)
          (omega (arith, lt, long, long_x)) (active_there vlenb vl masked old i lt)
          (get_or-zip3 f xs ys ds i 0 0 0 was (omega (arith, lt, long_x)) (omega (arith, lt, long_y)) (omega (arith, lt, long_d))
          ∙ ap₂ (λ x y. f x y (get_or ds i 0)) (element_there vlenb size a vl old i 0 lt) (second_there vlenb size vl number b old i 0 lt)
          ∙ ap (f (little_from (a * vlenb + size * i) size old) (other_of vlenb size number b (size * i) old)) (element_there vlenb size first vl old i 0 lt))
      | inr ge ↦
          let le : size * vl ≤ size * i = mul-le-mul_left size ge in
          filled_number policy.tail size (d + size * i) old new (λ k less.
          filled_byte policy.tail (d + size * vl) (count * vlenb - size * vl) (d + size * i + k) mid new room is (omega (arith, le)) (omega (arith, within, less, fits))
          ∙ ap (filled policy.tail 255) (kept.1 (d + size * i + k) (inr (omega (arith, le)))))
          ∙ in_tail policy (256 ^ size - 1) rs acts i (little_from (d + size * i) size old) (omega (arith, ge, long, long_x))
    ])
    (λ k outside. elim outside [
      | inl below ↦ there k (omega (arith, below)) ∙ kept.1 k (inl below)
      | inr above ↦ filled_other policy.tail (d + size * vl) (count * vlenb - size * vl) k mid new room is (inr (omega (arith, above, fits))) ∙ kept.1 k (inr (omega (arith, above, fits)))
    ])

-- all registers are bytes
pub small_from : (first n : ℕ) (part new : List ℕ) → first ≡ 0 → length new ≡ n → part ≡ bytes_from first n new → ((k : ℕ) → get_or part k 0 < 256) → (k : ℕ) → get_or new k 0 < 256
small_from first n part new e long is small k =
    elim (cases_lt k n) [
      | inl lt ↦
          let same : get_or part k 0 ≡ get_or new k 0 = ap (λ l. get_or l k 0) is ∙ get_or-take n (drop first new) k 0 lt ∙ get_or-drop first new k 0 ∙ ap (λ t. get_or new t 0) (omega (arith, e)) in
          omega (arith, same, small k)
      | inr past ↦
          let none : get_or new k 0 ≡ 0 = get_or_past new k 0 (omega (arith, long, past)) in
          omega (arith, none)
    ]

-- the same from other names of the places
pub moved_done : {A : Type 0} (vlenb size pd d pa a n m : ℕ) (number : A → ℕ) (f : ℕ → ℕ → ℕ → ℕ) (b : Second A) (masked : Bool) (inactive : Agnostic) (old mid : List ℕ) → pd ≡ d → pa ≡ a → n ≡ m
    → IsDone size pd (target vlenb size number f pd pa b masked inactive old) n mid → IsDone size d (target vlenb size number f d a b masked inactive old) m mid
moved_done vlenb size pd d pa a n m number f b masked inactive old mid is_d is_a is_n done =
    subst (λ (z : ℕ). IsDone size z (target vlenb size number f z a b masked inactive old) m mid) is_d
    (subst (λ (z : ℕ). IsDone size pd (target vlenb size number f pd z b masked inactive old) m mid) is_a
    (subst (λ (z : ℕ). IsDone size pd (target vlenb size number f pd pa b masked inactive old) z mid) is_n done))

pub moved_kept : (pd d n m : ℕ) (old mid : List ℕ) → pd ≡ d → n ≡ m → IsKept pd n old mid → IsKept d m old mid
moved_kept pd d n m old mid is_d is_n kept = subst (λ (z : ℕ). IsKept z m old mid) is_d (subst (λ (z : ℕ). IsKept pd z old mid) is_n kept)

pub moved_fill : (at e n m : ℕ) (agnostic : Agnostic) (mid new : List ℕ) → at ≡ e → n ≡ m → new ≡ filled agnostic (overlaid at (replicate n 255) mid) mid → new ≡ filled agnostic (overlaid e (replicate m 255) mid) mid
moved_fill at e n m agnostic mid new is_at is_n is =
    subst (λ (z : ℕ). new ≡ filled agnostic (overlaid z (replicate m 255) mid) mid) is_at (subst (λ (z : ℕ). new ≡ filled agnostic (overlaid at (replicate z 255) mid) mid) is_n is)

-- the group of an operand
pub is_group_written : {A : Type 0} (vlenb size first a : ℕ) (group : Span) (number : A → ℕ) (f : ℕ → ℕ → ℕ → ℕ) (b : Second A) (masked : Bool) (policy : Policy) (old new : List ℕ) → first ≡ group.first → size ≡ group.bytes
    → new ≡ write_of vlenb size first group.count policy (zip3 f (elements_of vlenb size a group.vl old) (second_list vlenb size number group.vl b old) (elements_of vlenb size first group.vl old)) (active_of vlenb masked group.vl old) old
    → new ≡ written vlenb group policy (zip3 f (elements_of vlenb group.bytes a group.vl old) (second_list vlenb group.bytes number group.vl b old) (elements_of vlenb group.bytes first group.vl old)) (active_of vlenb masked group.vl old) old
unfolding written
is_group_written vlenb size first a group number f b masked policy old new is_first is_size is =
    subst (λ (z : ℕ). new ≡ write_of vlenb z group.first group.count policy (zip3 f (elements_of vlenb z a group.vl old) (second_list vlenb z number group.vl b old) (elements_of vlenb z first group.vl old)) (active_of vlenb masked group.vl old) old) is_size
    (subst (λ (z : ℕ). new ≡ write_of vlenb size z group.count policy (zip3 f (elements_of vlenb size a group.vl old) (second_list vlenb size number group.vl b old) (elements_of vlenb size first group.vl old)) (active_of vlenb masked group.vl old) old) is_first is)
