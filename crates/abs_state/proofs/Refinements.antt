-- What a branch says of the two numbers that it compares.
use Rattle.std.proofs.Common.{◌≡◌, ◌≢◌, ◌<◌, ◌≤◌, ◌+◌, ◌-◌, ◌^◌, ℕ, Bool, true, false, arith, refl, sym, ap, ◌∙◌, not, min, max, ◌&&◌, pos, int_lt, Option, Some, None, IfSome}
use Rattle.std.specs.Prelude.{if◌then◌else◌, ◌==◌, nat_lt, nat_le}
use Rattle.std.specs.Int.{w32}
use Rattle.std.proofs.lemmas.Int.{to_z_pos}
use Rattle.std.proofs.lemmas.Bool.Decides.{nat_tests}
use Rattle.std.proofs.lemmas.Bool.{eqb-true, eqb-false, ltb-true, ltb-false}
use Rattle.linear_facts.specs.declared.ranges.Range.{Range}
use Rattle.linear_facts.specs.Ranges.{meet_of}
use Rattle.rv_decode.specs.declared.instructions.Condition.{Condition}
use Rattle.rv_decode.specs.declared.instructions.Condition.TheVariants.{Eq, Ne, Lt, Ge, Ltu, Geu}
use Rattle.scalar_core.specs.Arithmetic.{is_taken, signed}
use Rattle.abs_state.specs.declared.branches.Relation.{Relation}
use Rattle.abs_state.specs.declared.branches.Relation.TheVariants.{Same, Different, Below, NotBelow}
use Rattle.abs_domain.specs.Described.{LiesIn}
use Rattle.abs_state.specs.Branches.{if_small, relation_of, filled_range, both_ranges, without_end, apart_from, related_ranges}

-- there is a range, and the number lies in it
pub record IsFilled (o : Option Range) (x : ℕ) : Type 0 where
  pub range : Range
  pub is : o ≡ Some range
  pub lies : LiesIn range x

-- there are both ranges, and the numbers lie in them
pub record AreRefined (o : Option (Range × Range)) (x y : ℕ) : Type 0 where
  pub first : Range
  pub second : Range
  pub is : o ≡ Some (first, second)
  pub left : LiesIn first x
  pub right : LiesIn second y

-- how one number stands to another
abbrev pub Stands : Relation → ℕ → ℕ → Type 0
Stands Same x y = x ≡ y
Stands Different x y = x ≢ y
Stands Below x y = x < y
Stands NotBelow x y = y ≤ x

-- ---- ranges that are not empty

filled_is : (lo hi x : ℕ) → lo ≤ x → x ≤ hi → hi < 2 ^ 32 → IsFilled (filled_range lo hi) x
filled_is lo hi x l h fits = by_test (nat_le lo hi) refl
  where
    by_test : (t : Bool) → nat_le lo hi ≡ t → IsFilled (if t then Some record { lo = lo; hi = hi } else None) x
    by_test true e = record {
      range = record { lo = lo; hi = hi };
      is = refl;
      lies = record { low = l; high = h; fits = fits };
    }
    by_test false e = (let gt : hi < lo = grind (arith, nat_tests) in absurd (omega (arith, gt, l, h)))

pair_is : (a b : Option Range) (x y : ℕ) → IsFilled a x → IsFilled b y → AreRefined (both_ranges a b) x y
pair_is a b x y p q = record {
  first = p.range;
  second = q.range;
  is = ap (λ (o : Option Range). both_ranges o b) p.is ∙ ap (λ (o : Option Range). both_ranges (Some p.range) o) q.is;
  left = p.lies;
  right = q.lies;
}

pub meet_is : (a b : Range) (x : ℕ) → LiesIn a x → LiesIn b x → IsFilled (meet_of a b) x
meet_is a b x h k =
    filled_is (max a.lo b.lo) (min a.hi b.hi) x (omega (arith, h.low, k.low)) (omega (arith, h.high, k.high)) (omega (arith, h.fits))

same_is : (a b : Range) (x y : ℕ) → LiesIn a x → LiesIn b y → x ≡ y → AreRefined (related_ranges Same a b) x y
unfolding related_ranges
same_is a b x y h k e =
    pair_is (meet_of a b) (meet_of a b) x y
    (meet_is a b x h (record { low = omega (arith, e, k.low); high = omega (arith, e, k.high); fits = k.fits }))
    (meet_is a b y (record { low = omega (arith, e, h.low); high = omega (arith, e, h.high); fits = h.fits }) k)

cut_is : (t : Bool) (a : Range) (n x : ℕ) → LiesIn a x → (t ≡ true → x ≢ n) → IsFilled (if t then without_end n a else Some a) x
unfolding without_end
cut_is false a n x h ne = record { range = a; is = refl; lies = h }
cut_is true a n x h ne =
    filled_is (if a.lo == n then a.lo + 1 else a.lo) (if a.hi == n then a.hi - 1 else a.hi) x
    (low (a.lo == n) refl) (high (a.hi == n) refl) (small (a.hi == n))
  where
    low : (b : Bool) → (a.lo == n) ≡ b → (if b then a.lo + 1 else a.lo) ≤ x
    low true e = (let k : a.lo ≡ n = grind (arith, nat_tests) in let d = ne refl in let l = h.low in omega (arith, k, d, l))
    low false e = h.low

    high : (b : Bool) → (a.hi == n) ≡ b → x ≤ (if b then a.hi - 1 else a.hi)
    high true e = (let k : a.hi ≡ n = grind (arith, nat_tests) in let d = ne refl in let l = h.high in omega (arith, k, d, l))
    high false e = h.high

    small : (b : Bool) → (if b then a.hi - 1 else a.hi) < 2 ^ 32
    small true = (let l = h.fits in omega (arith, l))
    small false = h.fits

different_is : (a b : Range) (x y : ℕ) → LiesIn a x → LiesIn b y → x ≢ y → AreRefined (related_ranges Different a b) x y
unfolding related_ranges apart_from
different_is a b x y h k ne =
    pair_is _ _ x y (cut_is (b.lo == b.hi) a b.lo x h (λ e f. ne (f ∙ one b y k e)))
    (cut_is (a.lo == a.hi) b a.lo y k (λ e f. ne (sym (f ∙ one a x h e))))
  where
    one : (r : Range) (z : ℕ) → LiesIn r z → (r.lo == r.hi) ≡ true → r.lo ≡ z
    one r z l e = (let s : r.lo ≡ r.hi = grind (arith, nat_tests) in omega (arith, s, l.low, l.high))

below_is : (a b : Range) (x y : ℕ) → LiesIn a x → LiesIn b y → x < y → AreRefined (related_ranges Below a b) x y
unfolding related_ranges
below_is a b x y h k l = by_test (b.hi == 0) refl
  where
    by_test : (t : Bool) → (b.hi == 0) ≡ t
        → AreRefined (if t then None
        else both_ranges (filled_range a.lo (min a.hi (b.hi - 1))) (filled_range (max b.lo (a.lo + 1)) b.hi)) x y
    by_test true e = (let z : b.hi ≡ 0 = grind (arith, nat_tests) in absurd (omega (arith, z, l, k.high)))
    by_test false e =
        pair_is _ _ x y
        (filled_is a.lo (min a.hi (b.hi - 1)) x h.low (omega (arith, h.high, k.high, l)) (omega (arith, h.fits)))
        (filled_is (max b.lo (a.lo + 1)) b.hi y (omega (arith, k.low, h.low, l)) k.high k.fits)

not_below_is : (a b : Range) (x y : ℕ) → LiesIn a x → LiesIn b y → y ≤ x → AreRefined (related_ranges NotBelow a b) x y
unfolding related_ranges
not_below_is a b x y h k l =
    pair_is _ _ x y (filled_is (max a.lo b.lo) a.hi x (omega (arith, h.low, k.low, l)) h.high h.fits)
    (filled_is b.lo (min b.hi a.hi) y k.low (omega (arith, k.high, h.high, l)) (omega (arith, k.fits)))

-- the numbers in a relation have the ranges that it leaves
pub related_is : (r : Relation) (a b : Range) (x y : ℕ) → LiesIn a x → LiesIn b y → Stands r x y
    → AreRefined (related_ranges r a b) x y
related_is Same a b x y h k s = same_is a b x y h k s
related_is Different a b x y h k s = different_is a b x y h k s
related_is Below a b x y h k s = below_is a b x y h k s
related_is NotBelow a b x y h k s = not_below_is a b x y h k s

-- ---- relations of the numbers that a branch compares

-- a relation of signed numbers that are both below 2^31
small_stands : (a b : Range) (x y : ℕ) (r : Relation) → LiesIn a x → LiesIn b y
    → (int_lt (signed x) (signed y) ≡ nat_lt x y → Stands r x y) → IfSome (if_small a b r) (λ q. Stands q x y)
small_stands a b x y r h k s = by_test (nat_lt a.hi (2 ^ 31) && nat_lt b.hi (2 ^ 31)) refl
  where
    is : (z : ℕ) → z < 2 ^ 31 → signed z ≡ pos z
    is z l = to_z_pos w32 z l

    by_test : (t : Bool) → (nat_lt a.hi (2 ^ 31) && nat_lt b.hi (2 ^ 31)) ≡ t
        → IfSome (if t then Some r else None) (λ q. Stands q x y)
    by_test true e =
        let p : a.hi < 2 ^ 31 = grind (arith, nat_tests) in
        let q : b.hi < 2 ^ 31 = grind (arith, nat_tests) in
        s (ap (λ z. int_lt z (signed y)) (is x (omega (arith, p, h.high))) ∙ ap (λ z. int_lt (pos x) z) (is y (omega (arith, q, k.high))))
    by_test false e = tt

flipped : (b c : Bool) → not b ≡ c → b ≡ not c
flipped true c e = ap not e
flipped false c e = ap not e

-- a branch that is taken, or isn't, says how the numbers stand
pub relation_stands : (condition : Condition) (taken : Bool) (a b : Range) (x y : ℕ) → LiesIn a x → LiesIn b y
    → is_taken condition x y ≡ taken → IfSome (relation_of condition taken a b) (λ r. Stands r x y)
unfolding relation_of is_taken
relation_stands Eq true a b x y h k e = eqb-true x y e
relation_stands Eq false a b x y h k e = eqb-false x y e
relation_stands Ne true a b x y h k e = eqb-false x y (flipped (x == y) true e)
relation_stands Ne false a b x y h k e = eqb-true x y (flipped (x == y) false e)
relation_stands Lt true a b x y h k e = small_stands a b x y Below h k (λ s. ltb-true x y (sym s ∙ e))
relation_stands Lt false a b x y h k e = small_stands a b x y NotBelow h k (λ s. ltb-false x y (sym s ∙ e))
relation_stands Ge true a b x y h k e =
    small_stands a b x y NotBelow h k (λ s. ltb-false x y (sym s ∙ flipped (int_lt (signed x) (signed y)) true e))
relation_stands Ge false a b x y h k e =
    small_stands a b x y Below h k (λ s. ltb-true x y (sym s ∙ flipped (int_lt (signed x) (signed y)) false e))
relation_stands Ltu true a b x y h k e = ltb-true x y e
relation_stands Ltu false a b x y h k e = ltb-false x y e
relation_stands Geu true a b x y h k e = ltb-false x y (flipped (nat_lt x y) true e)
relation_stands Geu false a b x y h k e = ltb-true x y (flipped (nat_lt x y) false e)
