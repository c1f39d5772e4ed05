-- The accesses of elements that lie one after another, and what is in a window over them.
use Rattle.std.proofs.Common.{◌≡◌, ℕ, zero, suc, ◌+◌, ◌*◌, ◌%◌, ◌^◌, ◌<◌, ◌≤◌, Bool, true, false, ◌⊎◌, inl, inr, List, [], ◌∷◌, ◌++◌, Option, Some, None, drop, get_or, length, map, replicate, set, take, ap, sym, ◌∙◌, refl, arith, cond, subst}
use Rattle.std.specs.Prelude.{All, filter, find, flat_map, not, unwrap_or}
use Rattle.std.specs.List.{fold, range_with_len}
use Rattle.std.proofs.Math.Nat.{mod-eq_of_lt, mul-le-mul_left}
use Rattle.std.proofs.lemmas.List.{drop_all, drop_more, get_or-replicate, length-replicate, length-set, take_all, take_more, take_more_set}
use Rattle.std.proofs.lemmas.List.Folds.{fold-map}
use Rattle.std.proofs.lemmas.List.FromFn.{get_or-map-range_with_len, get_or-range_with_len, length-map-range_with_len, length-range_with_len}
use Rattle.region_mem.specs.Areas.{number_of}
use Rattle.region_mem.specs.Areas as area
use Rattle.region_mem.specs.Laws.{LoadsInWindows, StoresFillWindows, StoresInWindows, WindowsToRead, WindowsToWrite}
use Rattle.region_mem.specs.Memory.{Memory, has_window, load_of, window_of, with_window}
use Rattle.region_mem.specs.declared.faults.Right.{Right}
use Rattle.region_mem.specs.declared.faults.Right.TheVariants.{Read, Write}
use Rattle.region_mem.specs.PartLemmas.{number_of-cons}
use Rattle.vreg_groups.specs.Elements.{active_of, bytes_of, element_at, number_at, numbers_of}
use Rattle.vreg_groups.specs.PartLemmas.{below_256, length-numbers_of}
use Rattle.vreg_groups.specs.WriteLemmas.{number_at-lt}
use Rattle.vector_mem.specs.declared.plan.Access.{Access}
use Rattle.vector_mem.specs.Accesses.{access_at, accesses, first_refused, in_a_row, is_refused, loaded, low_bits, stored, strided, with_loaded, with_stored}
use Rattle.vector_mem.specs.Transfers.{accesses_of, data_at, data_of, is_in_a_row, is_masked, place_at, right_of}
use Rattle.vector_mem.specs.Words.{Addressing, Direction, Indexed, Mask, Setup, Strided, Unit, VMem, Whole}

-- a test that holds of all
filter_true : {A : Type 0} (p : A → Bool) (xs : List A) → ((k : ℕ) (d : A) → k < length xs → p (get_or xs k d) ≡ true) → filter p xs ≡ xs
filter_true p [] h = refl
filter_true p (x ∷ xs) h =
    let rest = filter_true p xs (λ k d lt. h (suc k) d (omega (arith, lt))) in
    ap (λ (b : Bool). cond b (x ∷ filter p xs) (filter p xs)) (h 0 x (omega arith))
    ∙ ap (λ ys. x ∷ ys) rest

-- a test that holds of none
pub find_none : {A : Type 0} (p : A → Bool) (xs : List A) → ((k : ℕ) (d : A) → k < length xs → p (get_or xs k d) ≡ false) → find p xs ≡ None
find_none p [] h = refl
find_none p (x ∷ xs) h =
    let rest = find_none p xs (λ k d lt. h (suc k) d (omega (arith, lt))) in
    ap (λ (b : Bool). cond b (Some x) (find p xs)) (h 0 x (omega arith)) ∙ rest

pub row_is : (right : Right) (size base n : ℕ) →
    in_a_row right size base n ≡ map (access_at right size (strided base size)) (range_with_len 0 n)
unfolding accesses
row_is right size base n =
    let at = access_at right size (strided base size) in
    let p : ℕ → Bool = λ k. get_or (replicate n true) k false in
    let all : filter p (range_with_len 0 n) ≡ range_with_len 0 n =
    filter_true p (range_with_len 0 n) (λ k d lt.
    let short : k < n = subst (λ (l : ℕ). k < l) (length-range_with_len 0 n) lt in
    let is : get_or (range_with_len 0 n) k d ≡ 0 + k = get_or-range_with_len 0 n k d short in
    ap p is ∙ ap p (omega arith) ∙ get_or-replicate n k true false short) in
    ap (λ (m : ℕ). map at (filter p (range_with_len 0 m))) (length-replicate n true) ∙ ap (map at) all

pub row_length : (right : Right) (size base n : ℕ) → length (in_a_row right size base n) ≡ n
row_length right size base n = ap length (row_is right size base n) ∙ length-map-range_with_len _ 0 n

pub less : (size i n base : ℕ) → i < n → 0 < size → base + size * n ≤ 2 ^ 32 → base + size * i < 2 ^ 32
less size i n base h positive inside =
    let x : size * (i + 1) ≤ size * n = mul-le-mul_left size (omega (arith, h)) in
    omega (arith, x, positive, inside)

-- element i of a row that passes no last address lies where it lies
pub row_at : (right : Right) (size base n i : ℕ) (d : Access) → i < n → 0 < size → base + size * n ≤ 2 ^ 32 →
    get_or (in_a_row right size base n) i d ≡ record { element = i; address = base + size * i; size = size; right = right }
row_at right size base n i d h positive inside =
    let below : base + size * i < 2 ^ 32 = less size i n base h positive inside in
    ap (λ l. get_or l i d) (row_is right size base n)
    ∙ get_or-map-range_with_len (access_at right size (strided base size)) 0 n i i d h (omega arith)
    ∙ ap (λ (address : ℕ). record { element = i; address = address; size = size; right = right }) (mod-eq_of_lt below)

-- the number of some bytes of a window is that of the element there
pub number_there : (k at : ℕ) (bytes : List ℕ) → at + k ≤ length bytes → number_of (take k (drop at bytes)) ≡ number_at k at bytes
unfolding number_of number_at
number_there zero at bytes h = refl
number_there (suc k) at bytes h =
    let first = drop_more bytes at 0 (omega (arith, h)) in
    ap (λ xs. number_of (take (suc k) xs)) first
    ∙ number_of-cons (get_or bytes at 0) (take k (drop (at + 1) bytes))
    ∙ ap (λ (n : ℕ). get_or bytes at 0 + 256 * n) (number_there k (at + 1) bytes (omega (arith, h)))
    ∙ ap (λ (next : ℕ). get_or bytes at 0 + 256 * number_at k next bytes) (omega arith)

pub positive : (size : ℕ) → (size ≡ 1) ⊎ (size ≡ 2) ⊎ (size ≡ 4) → 0 < size
positive size sizes = elim sizes [ inl one ↦ omega (arith, one) | inr more ↦ elim more [ inl two ↦ omega (arith, two) | inr four ↦ omega (arith, four) ] ]

room : (size i n : ℕ) → i < n → size * i + size ≤ size * n
room size i n h = let x : size * (i + 1) ≤ size * n = mul-le-mul_left size (omega (arith, h)) in omega (arith, x)

-- the access of element i of a row from `base` on
abbrev pub row_access : Right → ℕ → ℕ → ℕ → Access
row_access right size base i = record { element = i; address = base + size * i; size = size; right = right }

-- in a window to read it is permitted, and what it gives lies in the window's bytes
pub row_permitted : (memory : Memory) (size base n i : ℕ) (bytes : List ℕ) → LoadsInWindows memory →
    window_of base (size * n) memory ≡ Some bytes → i < n → is_refused memory (row_access Read size base i) ≡ false
row_permitted memory size base n i bytes loads is h = ap not (loads base (size * n) (size * i) size bytes is (room size i n h)).0

pub row_loads : (memory : Memory) (size base n i : ℕ) (bytes : List ℕ) → WindowsToRead memory → LoadsInWindows memory →
    window_of base (size * n) memory ≡ Some bytes → i < n → load_of (base + size * i) size memory ≡ Some (number_at size (size * i) bytes)
row_loads memory size base n i bytes bounds loads is h =
    let fits = room size i n h in
    let long = (bounds base (size * n) bytes is).0 in
    (loads base (size * n) (size * i) size bytes is fits).1 ∙ ap Some (number_there size (size * i) bytes (omega (arith, fits, long)))

-- no access in a window is refused
pub row_granted : (memory : Memory) (size base n : ℕ) (bytes : List ℕ) → WindowsToRead memory → LoadsInWindows memory →
    window_of base (size * n) memory ≡ Some bytes → 0 < size → first_refused (in_a_row Read size base n) memory ≡ None
unfolding first_refused
row_granted memory size base n bytes bounds loads is some =
    find_none (is_refused memory) (in_a_row Read size base n) (λ k d lt.
    let short : k < n = subst (λ (l : ℕ). k < l) (row_length Read size base n) lt in
    ap (is_refused memory) (row_at Read size base n k d short some (bounds base (size * n) bytes is).1)
    ∙ row_permitted memory size base n k bytes loads is short)

-- to load element i and then the later ones is to load from element i on
pub row_step : (memory : Memory) (right : Right) (size base n i : ℕ) (values : List ℕ) → i < n → 0 < size → base + size * n ≤ 2 ^ 32 →
    fold (with_loaded memory) (with_loaded memory values (row_access right size base i)) (drop (i + 1) (in_a_row right size base n))
    ≡ fold (with_loaded memory) values (drop i (in_a_row right size base n))
row_step memory right size base n i values h some inside =
    let row = in_a_row right size base n in
    let d = row_access right size base i in
    let long : i < length row = subst (λ (l : ℕ). i < l) (sym (row_length right size base n)) h in
    sym (ap (fold (with_loaded memory) values)
    (drop_more row i d long ∙ ap (λ (a : Access). a ∷ drop (i + 1) row) (row_at right size base n i d h some inside)))

pub row_end : (right : Right) (size base n i : ℕ) → n ≤ i → drop i (in_a_row right size base n) ≡ []
row_end right size base n i h =
    drop_all i (in_a_row right size base n) (subst (λ (l : ℕ). l ≤ i) (sym (row_length right size base n)) h)

-- what a load of element i gives: number i of the window's bytes
row_number : (memory : Memory) (size base n i : ℕ) (bytes : List ℕ) → WindowsToRead memory → LoadsInWindows memory →
    window_of base (size * n) memory ≡ Some bytes → All (λ byte. byte < 256) bytes → i < n →
    low_bits size (unwrap_or (load_of (base + size * i) size memory) 0) ≡ get_or (numbers_of size n bytes) i 0
unfolding low_bits numbers_of element_at
row_number memory size base n i bytes bounds loads is small h =
    ap (λ (o : Option ℕ). low_bits size (unwrap_or o 0)) (row_loads memory size base n i bytes bounds loads is h)
    ∙ mod-eq_of_lt (number_at-lt size (size * i) bytes (below_256 bytes small))
    ∙ ap (λ (at : ℕ). number_at size at bytes) (omega arith)
    ∙ sym (get_or-map-range_with_len (element_at size 0 bytes) 0 n i i 0 h (omega arith))

-- where the first i elements are those of the window, to load the k others gives them all
row_rest : (memory : Memory) (size base n i k : ℕ) (bytes values : List ℕ) → WindowsToRead memory → LoadsInWindows memory →
    window_of base (size * n) memory ≡ Some bytes → All (λ byte. byte < 256) bytes → 0 < size → i + k ≡ n → length values ≡ n →
    take i values ≡ take i (numbers_of size n bytes) →
    fold (with_loaded memory) values (drop i (in_a_row Read size base n)) ≡ numbers_of size n bytes
row_rest memory size base n i zero bytes values bounds loads is small some all long so_far =
    let numbers = numbers_of size n bytes in
    let count = length-numbers_of size n bytes in
    ap (fold (with_loaded memory) values) (row_end Read size base n i (omega arith))
    ∙ sym (take_all i values (omega arith)) ∙ so_far ∙ take_all i numbers (omega arith)
row_rest memory size base n i (suc k) bytes values bounds loads is small some all long so_far =
    let numbers = numbers_of size n bytes in
    let count = length-numbers_of size n bytes in
    let h : i < n = omega arith in
    let new = low_bits size (unwrap_or (load_of (base + size * i) size memory) 0) in
    let next = set values i new in
    sym (row_step memory Read size base n i values h some (bounds base (size * n) bytes is).1)
    ∙ row_rest memory size base n (i + 1) k bytes next bounds loads is small some (omega arith) (length-set values i new ∙ long)
    (take_more_set values i new (omega arith)
    ∙ ap (λ (l : List ℕ). l ++ new ∷ []) so_far
    ∙ ap (λ (x : ℕ). take i numbers ++ x ∷ []) (row_number memory size base n i bytes bounds loads is small h)
    ∙ sym (take_more numbers i 0 (omega arith)))

-- the elements of a window are the numbers of its bytes
pub row_loaded : (memory : Memory) (size base n : ℕ) (bytes : List ℕ) → WindowsToRead memory → LoadsInWindows memory →
    window_of base (size * n) memory ≡ Some bytes → All (λ byte. byte < 256) bytes → 0 < size →
    loaded n (in_a_row Read size base n) memory ≡ numbers_of size n bytes
unfolding loaded
row_loaded memory size base n bytes bounds loads is small some =
    row_rest memory size base n 0 n bytes (replicate n 0) bounds loads is small some (omega arith) (length-replicate n 0) refl

-- in a window to write no access is refused, and the elements fill it
pub row_writable : (memory : Memory) (size base n : ℕ) → WindowsToWrite memory → StoresInWindows memory →
    has_window base (size * n) memory ≡ true → 0 < size → first_refused (in_a_row Write size base n) memory ≡ None
unfolding first_refused
row_writable memory size base n bounds permitted is some =
    find_none (is_refused memory) (in_a_row Write size base n) (λ k d lt.
    let short : k < n = subst (λ (l : ℕ). k < l) (row_length Write size base n) lt in
    ap (is_refused memory) (row_at Write size base n k d short some (bounds base (size * n) is))
    ∙ ap not (permitted base (size * n) (size * k) size is (room size k n short)))

pub row_stored : (memory : Memory) (size base n : ℕ) (values : List ℕ) → WindowsToWrite memory → StoresFillWindows memory →
    has_window base (size * n) memory ≡ true → 0 < size → length values ≡ n →
    stored (in_a_row Write size base n) values memory ≡ with_window base (flat_map (bytes_of size) values) memory
unfolding stored area.bytes_of bytes_of
row_stored memory size base n values bounds fills is some long =
    let at = access_at Write size (strided base size) in
    let has : has_window base (size * length values) memory ≡ true = ap (λ (m : ℕ). has_window base (size * m) memory) long ∙ is in
    ap (fold (with_stored values) memory) (row_is Write size base n ∙ ap (λ (m : ℕ). map at (range_with_len 0 m)) (sym long))
    ∙ fold-map (with_stored values) at memory (range_with_len 0 (length values))
    ∙ fills (λ i. strided base size i % 2 ^ 32) base size values has
    (λ i lt. mod-eq_of_lt (less size i (length values) base lt some (bounds base (size * length values) has)))

-- an instruction whose elements lie in a row
pub row_accesses : (vlenb : ℕ) (s : Setup) (place : Addressing) (direction : Direction) (values base stride : ℕ) (file : List ℕ) →
    is_in_a_row place ≡ true →
    accesses (right_of direction) (data_at vlenb s place values).bytes (place_at vlenb s place base stride file)
    (active_of vlenb (is_masked place) (data_at vlenb s place values).vl file)
    ≡ in_a_row (right_of direction) (data_at vlenb s place values).bytes base (data_at vlenb s place values).vl
unfolding data_at place_at active_of
row_accesses vlenb s (Unit width false) direction values base stride file h = refl
row_accesses vlenb s (Unit width true) direction values base stride file h = absurd cc
row_accesses vlenb s (Strided width rs2 masked) direction values base stride file h = absurd cc
row_accesses vlenb s (Indexed width vs2 ordered masked) direction values base stride file h = absurd cc
row_accesses vlenb s Mask direction values base stride file h = refl
row_accesses vlenb s (Whole width count) direction values base stride file h = refl

pub is_row : (vlenb : ℕ) (s : Setup) (insn : VMem) (base stride : ℕ) (file : List ℕ) (right : Right) (size n : ℕ) → is_in_a_row insn.place ≡ true →
    right_of insn.direction ≡ right → size ≡ (data_of vlenb s insn).bytes → n ≡ (data_of vlenb s insn).vl →
    accesses_of vlenb s insn base stride file ≡ in_a_row right size base n
unfolding accesses_of
is_row vlenb s insn base stride file right size n row direction bytes vl =
    row_accesses vlenb s insn.place insn.direction insn.values base stride file row
    ∙ ap (λ (r : Right). in_a_row r (data_of vlenb s insn).bytes base (data_of vlenb s insn).vl) direction
    ∙ sym (ap (λ (k : ℕ). in_a_row right k base (data_of vlenb s insn).vl) bytes)
    ∙ sym (ap (in_a_row right size base) vl)
