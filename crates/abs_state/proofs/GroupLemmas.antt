-- Which facts on groups of vector registers stay true.
use Rattle.std.proofs.Common.{arith, refl, ◌≡◌, ◌+◌, ◌*◌, ◌/◌, ◌<◌, ◌≤◌, ◌||◌, min, ℕ, Bool, true, false, cond, List, [], ◌∷◌, map, filter, get_or, zero, suc, ◌⊎◌, inl, inr, Some, None}
use Rattle.std.specs.Prelude.{if◌then◌else◌, ◌==◌, nat_le}
use Rattle.std.specs.List.{AllByRecursion}
use Rattle.std.proofs.Math.Nat.{mul-div-le, mul-le-mul_left}
use Rattle.std.proofs.lemmas.Bool.Decides.{nat_tests}
use Rattle.vreg_groups.specs.Elements.{element_at, number_at}
use Rattle.vreg_groups.specs.Legality.{count_of as registers_in}
use Rattle.cert_note.specs.declared.values.VectorFact.{VectorFact}
use Rattle.abs_transfer.specs.Facts.{counted, cut_groups, elements_in, is_apart, is_lasting, untouched}
use Rattle.abs_state.specs.Held.{IsTrueOf, fact_element}
use Rattle.abs_state.specs.VectorLaws.{CutAreTrue, UntouchedAreTrue}

-- ---- where vl changes

-- a place below the least vl and the end of a group, where no such place is a count of 0
below_least : (least vl new end i : ℕ) → 0 < least → least ≤ vl
    → i < min (if min least end == 0 then new else min least end) end → i < min vl end
below_least least vl new end i p l b = go (min least end == 0) refl b
  where
    go : (t : Bool) → (min least end == 0) ≡ t → i < min (if t then new else min least end) end → i < min vl end
    go true e b = (let zero : min least end ≡ 0 = grind (arith, nat_tests) in absurd (omega (arith, zero, p, b)))
    go false e b = omega (arith, b, l)

-- a fact that lasts is true of the same registers, whatever vl is
counted_true : (vlenb least vl new : ℕ) (xs : List ℕ) (fact : VectorFact) → least ≤ vl
    → is_lasting least fact ≡ true → IsTrueOf vlenb vl xs fact
    → IsTrueOf vlenb new xs (counted vlenb least fact)
unfolding counted is_lasting
counted_true vlenb least vl new xs fact l e h = go (fact.count == 0) refl
  where
    go : (t : Bool) → (fact.count == 0) ≡ t
        → IsTrueOf vlenb new xs (if t then record fact { count = min least (elements_in vlenb fact) } else fact)
    go true f i b =
        let some : 0 < least = grind (arith, nat_tests) in
        h i (rw f (below_least least vl new (elements_in vlenb fact) i some l b))
    go false f i b = h i (rw f (rw f at b))

cut_true : (vlenb least vl new : ℕ) (xs : List ℕ) (facts : List VectorFact) → least ≤ vl
    → AllByRecursion (IsTrueOf vlenb vl xs) facts
    → AllByRecursion (IsTrueOf vlenb new xs) (map (counted vlenb least) (filter (is_lasting least) facts))
cut_true vlenb least vl new xs [] l h = tt
cut_true vlenb least vl new xs (fact ∷ facts) l h =
    go (is_lasting least fact) refl (cut_true vlenb least vl new xs facts l h.1)
  where
    Rest : Type 0
    Rest = AllByRecursion (IsTrueOf vlenb new xs) (map (counted vlenb least) (filter (is_lasting least) facts))

    go : (t : Bool) → is_lasting least fact ≡ t → Rest
        → AllByRecursion (IsTrueOf vlenb new xs)
        (map (counted vlenb least) (cond t (fact ∷ filter (is_lasting least) facts) (filter (is_lasting least) facts)))
    go true e rest = (counted_true vlenb least vl new xs fact l e h.0, rest)
    go false e rest = rest

pub cut_are_true : CutAreTrue
unfolding cut_groups
cut_are_true vlenb least v next facts same l h =
    rw same (cut_true vlenb least v.config.vl next.config.vl v.registers facts l h)

-- ---- where registers are written

-- a number is that of its bytes
same_number : (n i : ℕ) (xs ys : List ℕ) → ((k : ℕ) → i ≤ k → k < i + n → get_or xs k 0 ≡ get_or ys k 0)
    → number_at n i xs ≡ number_at n i ys
unfolding number_at
same_number zero i xs ys h = refl
same_number (suc n) i xs ys h =
    let head : get_or xs i 0 ≡ get_or ys i 0 = h i (omega arith) (omega arith) in
    let tail : number_at n (suc i) xs ≡ number_at n (suc i) ys =
    same_number n (suc i) xs ys (λ k l b. h k (omega (arith, l)) (omega (arith, b))) in
    rw (head, tail) refl

-- the elements of a group lie in its bytes
element_room : (size room i : ℕ) → i < room / size → size * i + size ≤ room
element_room size room i b =
    let within = mul-le-mul_left size (next i (room / size) b) in
    omega (arith, within, mul-div-le room size)
  where
    next : (i n : ℕ) → i < n → i + 1 ≤ n
    next i n b = omega arith

-- byte k of a group that is apart from a destination is none of the destination's
outside : (vlenb first count register registers k : ℕ)
    → (nat_le (register + registers) first || nat_le (first + count) register) ≡ true
    → register * vlenb ≤ k → k < register * vlenb + registers * vlenb
    → (k < first * vlenb) ⊎ ((first + count) * vlenb ≤ k)
outside vlenb first count register registers k e l b = go (nat_le (register + registers) first) refl e
  where
    go : (t : Bool) → nat_le (register + registers) first ≡ t → (t || nat_le (first + count) register) ≡ true
        → (k < first * vlenb) ⊎ ((first + count) * vlenb ≤ k)
    go true f e =
        let below : register + registers ≤ first = grind (arith, nat_tests) in
        let bytes = mul-le-mul_left vlenb below in
        inl (omega (arith, bytes, b))
    go false f e =
        let above : first + count ≤ register = grind (arith, nat_tests) in
        let bytes = mul-le-mul_left vlenb above in
        inr (omega (arith, bytes, l))

-- an element of a group whose bytes stay stays
same_element : (vlenb i : ℕ) (xs ys : List ℕ) (fact : VectorFact) → i < elements_in vlenb fact
    → ((k : ℕ) → fact.register * vlenb ≤ k → k < fact.register * vlenb + fact.registers * vlenb → get_or ys k 0 ≡ get_or xs k 0)
    → fact_element vlenb ys fact i ≡ fact_element vlenb xs fact i
unfolding element_at
same_element vlenb i xs ys fact b same =
    let size = fact.width / 8 in
    let room = element_room size (fact.registers * vlenb) i b in
    same_number size (fact.register * vlenb + size * i) ys xs
    (λ k l h. same k (omega (arith, l)) (omega (arith, h, room)))

-- a fact on a group that is apart from what is written stays true
apart_true : (vlenb first count vl : ℕ) (xs ys : List ℕ) (fact : VectorFact) → is_apart first count fact ≡ true
    → ((k : ℕ) → (k < first * vlenb) ⊎ ((first + count) * vlenb ≤ k) → get_or ys k 0 ≡ get_or xs k 0)
    → IsTrueOf vlenb vl xs fact → IsTrueOf vlenb vl ys fact
unfolding is_apart
apart_true vlenb first count vl xs ys fact e same h i b =
    let here : fact_element vlenb ys fact i ≡ fact_element vlenb xs fact i =
    same_element vlenb i xs ys fact (omega (arith, b))
    (λ k l u. same k (outside vlenb first count fact.register fact.registers k e l u)) in
    rw here (h i b)

filtered_true : (vlenb first count vl : ℕ) (xs ys : List ℕ) (facts : List VectorFact)
    → ((k : ℕ) → (k < first * vlenb) ⊎ ((first + count) * vlenb ≤ k) → get_or ys k 0 ≡ get_or xs k 0)
    → AllByRecursion (IsTrueOf vlenb vl xs) facts
    → AllByRecursion (IsTrueOf vlenb vl ys) (filter (is_apart first count) facts)
filtered_true vlenb first count vl xs ys [] same h = tt
filtered_true vlenb first count vl xs ys (fact ∷ facts) same h =
    go (is_apart first count fact) refl (filtered_true vlenb first count vl xs ys facts same h.1)
  where
    Rest : Type 0
    Rest = AllByRecursion (IsTrueOf vlenb vl ys) (filter (is_apart first count) facts)

    go : (t : Bool) → is_apart first count fact ≡ t → Rest
        → AllByRecursion (IsTrueOf vlenb vl ys)
        (cond t (fact ∷ filter (is_apart first count) facts) (filter (is_apart first count) facts))
    go true e rest = (apart_true vlenb first count vl xs ys fact e same h.0, rest)
    go false e rest = rest

-- facts stay true of registers that are the same
same_true : (vlenb vl : ℕ) (xs ys : List ℕ) (facts : List VectorFact) → ((k : ℕ) → get_or ys k 0 ≡ get_or xs k 0)
    → AllByRecursion (IsTrueOf vlenb vl xs) facts → AllByRecursion (IsTrueOf vlenb vl ys) facts
same_true vlenb vl xs ys [] same h = tt
same_true vlenb vl xs ys (fact ∷ facts) same h = (here, same_true vlenb vl xs ys facts same h.1)
  where
    here : IsTrueOf vlenb vl ys fact
    here i b = rw (same_element vlenb i xs ys fact (omega (arith, b)) (λ k l u. same k)) (h.0 i b)

pub untouched_are_true : UntouchedAreTrue
unfolding untouched
untouched_are_true vlenb t None v next facts vl same h =
    rw vl (same_true vlenb v.config.vl v.registers next.registers facts (λ k. same k tt) h)
untouched_are_true vlenb t (Some destination) v next facts vl same h =
    rw vl (filtered_true vlenb destination.first (registers_in t destination.extent) v.config.vl v.registers next.registers facts same h)
