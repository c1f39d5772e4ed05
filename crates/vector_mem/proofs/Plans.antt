-- The list of an instruction's accesses, one element after another.
use Rattle.std.proofs.Common.{◌≡◌, ℕ, ◌+◌, ◌-◌, ◌<◌, ◌≤◌, Bool, true, false, List, [], ◌∷◌, ◌++◌, length, get_or, map, ap, sym, ◌∙◌, refl, arith, cond, subst, append-nil, suc}
use Rattle.std.specs.Prelude.{filter}
use Rattle.std.specs.List.{All, range_with_len}
use Rattle.std.proofs.lemmas.List.{map-append}
use Rattle.std.proofs.lemmas.List.Elements.{All-filter, All-from_get_or, All-map, filter-append}
use Rattle.std.proofs.lemmas.List.FromFn.{get_or-range_with_len, length-map-range_with_len, length-range_with_len}
use Rattle.region_mem.specs.declared.faults.Right.{Right}
use Rattle.vector_mem.specs.declared.plan.Access.{Access}
use Rattle.std.proofs.lemmas.List.{length-append, length-replicate}
use Rattle.vreg_groups.specs.Elements.{active_of, mask_bits}
use Rattle.vreg_groups.specs.PlaceLemmas.{range_more}
use Rattle.vector_mem.specs.Accesses.{IsAccessOf, access_at, accesses, accesses_from}
use Rattle.vector_mem.specs.Transfers.{accesses_of, data_of, is_masked, place_at, right_of}
use Rattle.vector_mem.specs.Words.{Setup, VMem}

-- no element, one element more, and all
more : (right : Right) (size : ℕ) (place : ℕ → ℕ) (active : List Bool) (i : ℕ) (b : Bool) → get_or active i false ≡ b →
    accesses_from right size place active 0 (i + 1)
    ≡ accesses_from right size place active 0 i ++ map (access_at right size place) (cond b (i ∷ []) [])
more right size place active i b is =
    let p : ℕ → Bool = λ k. get_or active k false in
    let at = access_at right size place in
    let first : 0 + i ≡ i = omega arith in
    ap (λ ks. map at (filter p ks)) (range_more 0 i ∙ ap (λ (k : ℕ). range_with_len 0 i ++ k ∷ []) first)
    ∙ ap (map at) (filter-append p (range_with_len 0 i) (i ∷ []))
    ∙ map-append at (filter p (range_with_len 0 i)) (filter p (i ∷ []))
    ∙ ap (λ (b : Bool). accesses_from right size place active 0 i ++ map at (cond b (i ∷ []) [])) is

pub active_more : (right : Right) (size : ℕ) (place : ℕ → ℕ) (active : List Bool) (i : ℕ) → get_or active i false ≡ true →
    accesses_from right size place active 0 (i + 1) ≡ accesses_from right size place active 0 i ++ access_at right size place i ∷ []
active_more right size place active i is = more right size place active i true is

pub inactive_more : (right : Right) (size : ℕ) (place : ℕ → ℕ) (active : List Bool) (i : ℕ) → get_or active i false ≡ false →
    accesses_from right size place active 0 (i + 1) ≡ accesses_from right size place active 0 i
inactive_more right size place active i is =
    more right size place active i false is ∙ append-nil _

pub all_accesses : (right : Right) (size : ℕ) (place : ℕ → ℕ) (active : List Bool) (i : ℕ) → i ≡ length active →
    accesses_from right size place active 0 i ≡ accesses right size place active
unfolding accesses
all_accesses right size place active i is = ap (accesses_from right size place active 0) is

pub pushed_length : (new old : List Access) (a : Access) (i : ℕ) → new ≡ old ++ a ∷ [] → length old ≤ i → length new ≤ i + 1
pushed_length new old a i is h =
    let longer : length new ≡ length old + 1 = ap length is ∙ length-append old (a ∷ []) in
    omega (arith, longer, h)

-- each of them is of an element of the body, of this size, and needs this right
pub accesses_within : (right : Right) (size : ℕ) (place : ℕ → ℕ) (active : List Bool) →
    All (IsAccessOf right size (length active)) (accesses right size place active)
unfolding accesses
accesses_within right size place active =
    let n = length active in
    let P : Access → Type 0 = IsAccessOf right size n in
    let at = access_at right size place in
    let below : (k : ℕ) → k < n → P (at k) = λ k h. record { right_is = refl; size_is = refl; element = h } in
    All-map P at (filter (λ k. get_or active k false) (range_with_len 0 n))
    (All-filter (λ k. get_or active k false) (λ k. P (at k)) (range_with_len 0 n)
    (All-from_get_or (λ k. P (at k)) (range_with_len 0 n) 0
    (λ i h. let short : i < n = subst (λ (l : ℕ). i < l) (length-range_with_len 0 n) h in
    let is : get_or (range_with_len 0 n) i 0 ≡ 0 + i = get_or-range_with_len 0 n i 0 short in
    below _ (omega (arith, is, short)))))

pub active_length : (vlenb n : ℕ) (masked : Bool) (file : List ℕ) → length (active_of vlenb masked n file) ≡ n
unfolding active_of mask_bits
active_length vlenb n true file = length-map-range_with_len _ 0 n
active_length vlenb n false file = length-replicate n true

-- those of a plan are of elements of the instruction's data
pub plan_within : (vlenb : ℕ) (s : Setup) (insn : VMem) (base stride : ℕ) (file : List ℕ) (plan : List Access) (right : Right) (size n : ℕ) →
    plan ≡ accesses_of vlenb s insn base stride file → right_of insn.direction ≡ right → (data_of vlenb s insn).bytes ≡ size →
    (data_of vlenb s insn).vl ≡ n → All (IsAccessOf right size n) plan
unfolding accesses_of
plan_within vlenb s insn base stride file plan right size n is direction bytes vl =
    let active = active_of vlenb (is_masked insn.place) (data_of vlenb s insn).vl file in
    let place = place_at vlenb s insn.place base stride file in
    let all : All (IsAccessOf (right_of insn.direction) (data_of vlenb s insn).bytes (length active))
    (accesses (right_of insn.direction) (data_of vlenb s insn).bytes place active) = accesses_within _ _ place active in
    let long : length active ≡ n = active_length vlenb _ _ file ∙ vl in
    subst (λ (list : List Access). All (IsAccessOf right size n) list) (sym is)
    (subst (λ (m : ℕ). All (IsAccessOf right size m) (accesses (right_of insn.direction) (data_of vlenb s insn).bytes place active)) long
    (subst (λ (r : Right). All (IsAccessOf r size (length active)) (accesses (right_of insn.direction) (data_of vlenb s insn).bytes place active)) direction
    (subst (λ (k : ℕ). All (IsAccessOf (right_of insn.direction) k (length active)) (accesses (right_of insn.direction) (data_of vlenb s insn).bytes place active)) bytes all)))

-- those from element i on: its own, where it is active, and those after it
from_here : (right : Right) (size : ℕ) (place : ℕ → ℕ) (active : List Bool) (i n m : ℕ) (b : Bool) → n ≡ suc m → get_or active i false ≡ b →
    accesses_from right size place active i n
    ≡ map (access_at right size place) (cond b (i ∷ filter (λ k. get_or active k false) (range_with_len (i + 1) m))
    (filter (λ k. get_or active k false) (range_with_len (i + 1) m)))
from_here right size place active i n m b more is =
    ap (accesses_from right size place active i) more
    ∙ ap (λ (b : Bool). map (access_at right size place) (cond b (i ∷ filter (λ k. get_or active k false) (range_with_len (i + 1) m))
    (filter (λ k. get_or active k false) (range_with_len (i + 1) m)))) is

pub from_active : (right : Right) (size : ℕ) (place : ℕ → ℕ) (active : List Bool) (i : ℕ) → i < length active → get_or active i false ≡ true →
    accesses_from right size place active i (length active - i)
    ≡ access_at right size place i ∷ accesses_from right size place active (i + 1) (length active - (i + 1))
from_active right size place active i below is =
    let m = length active - (i + 1) in
    let more : length active - i ≡ suc m = omega arith in
    from_here right size place active i (length active - i) m true more is

pub from_inactive : (right : Right) (size : ℕ) (place : ℕ → ℕ) (active : List Bool) (i : ℕ) → i < length active → get_or active i false ≡ false →
    accesses_from right size place active i (length active - i)
    ≡ accesses_from right size place active (i + 1) (length active - (i + 1))
from_inactive right size place active i below is =
    let m = length active - (i + 1) in
    let more : length active - i ≡ suc m = omega arith in
    from_here right size place active i (length active - i) m false more is

-- from the first element on they are all
pub from_start : (right : Right) (size : ℕ) (place : ℕ → ℕ) (active : List Bool) →
    accesses_from right size place active 0 (length active - 0) ≡ accesses right size place active
unfolding accesses
from_start right size place active =
    let all : length active - 0 ≡ length active = omega arith in
    ap (accesses_from right size place active 0) all
