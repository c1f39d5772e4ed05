-- What the effects of instructions say of the numbers that they compute.
use Rattle.std.proofs.Common.{◌≡◌, ◌<◌, ◌≤◌, ◌+◌, ◌-◌, ◌*◌, ◌/◌, ◌%◌, ◌^◌, ℕ, zero, suc, Bool, true, false, arith, refl, sym, ap, ◌∙◌, subst, lit<, length, Option, Some, None, IfSome}
use Rattle.std.specs.Prelude.{if◌then◌else◌, ◌==◌, ◌&&◌, nat_lt, nat_le, int_lt, bit_and, min}
use Rattle.std.specs.Int.{from_bool}
use Rattle.std.proofs.lemmas.Bool.Decides.{nat_tests}
use Rattle.std.proofs.lemmas.Nat.{and_le_l, and_le_r, le-div}
use Rattle.std.proofs.Math.Nat.{div-le_self, div-mul-le_self, mod-le, mul-le-mul_left}
use Rattle.linear_facts.specs.declared.ranges.Range.{Range}
use Rattle.linear_facts.specs.Forms.{Linear, value, number_form, scaled, sum_of}
use Rattle.linear_facts.specs.FormLemmas.{value-sum_of, value-scaled, length-sum_of, length-scaled_terms, sum_of-IsForm, scaled-IsForm, number-IsForm}
use Rattle.linear_facts.specs.LocalityLemmas.{sums-stay, multiples-stay}
use Rattle.rv_decode.specs.declared.instructions.RegisterOp.{RegisterOp}
use Rattle.rv_decode.specs.declared.instructions.RegisterOp.TheVariants.{Add, Sub, Sll, Slt, Sltu, Xor, Srl, Sra, Or, And, Mul, Mulh, Mulhsu, Mulhu, Div, Divu, Rem, Remu}
use Rattle.rv_decode.specs.declared.instructions.ImmediateOp.TheVariants.{Addi, Slti, Sltiu, Xori, Ori, Andi}
use Rattle.rv_decode.specs.declared.instructions.ShiftOp.TheVariants.{Slli, Srli, Srai}
use Rattle.rv_decode.specs.declared.instructions.LoadKind.TheVariants as load
use Rattle.rv_decode.specs.declared.instructions.CsrName.TheVariants as csr
use Rattle.scalar_core.specs.Csr.{csr_value}
use Rattle.scalar_core.specs.Arithmetic.{register_result, immediate_result, shift_result, signed, unsigned, unsigned_quotient, unsigned_remainder}
use Rattle.scalar_core.specs.Step.{loaded, size_of_load}
use Rattle.scalar_core.specs.StateLemmas.{register_result-fits, immediate_result-fits, shift_result-fits, immediate_fits, loaded-fits}
use Rattle.abs_domain.specs.declared.values.Effect.{Effect}
use Rattle.abs_domain.specs.declared.values.Effect.TheVariants.{Fresh}
use Rattle.abs_domain.specs.Values.{ValueView, full_range, just, known_of, up_to}
use Rattle.abs_domain.specs.Effects.{csr_effect, fitting, difference_range, offset_range, constant_effect, sum_effect, difference_effect, offset_form, offset_effect, product_effect, product_by, left_shift_by, right_shift_range, quotient_range, remainder_range, register_effect, immediate_effect, shift_effect, load_effect}
use Rattle.abs_domain.specs.Described.{LiesIn, Means, IsNumber, Describes, CsrEffects, RegisterEffects, ImmediateEffects, ShiftEffects, LoadEffects, ConstantEffects}

-- ---- ranges

pub full_lies : (x : ℕ) → x < 2 ^ 32 → LiesIn full_range x
full_lies x l = record { low = omega arith; high = omega arith; fits = lit< tt }

up_lies : (hi x : ℕ) → x ≤ hi → hi < 2 ^ 32 → LiesIn (up_to hi) x
up_lies hi x l fits = record { low = omega arith; high = l; fits = fits }

bit_lies : (b : Bool) → LiesIn (up_to 1) (from_bool b)
bit_lies true = up_lies 1 1 (omega arith) (lit< tt)
bit_lies false = up_lies 1 0 (omega arith) (lit< tt)

-- a number that is known is the one of its range
pub known_between : (r : Range) (x c : ℕ) → r.lo ≤ x → x ≤ r.hi → known_of r ≡ Some c → x ≡ c
known_between r x c low high e = go (r.lo == r.hi) refl e
  where
    go : (t : Bool) → (r.lo == r.hi) ≡ t → (if t then Some r.lo else None) ≡ Some c → x ≡ c
    go true f g =
        let k : r.lo ≡ r.hi = grind (arith, nat_tests) in
        let m : r.lo ≡ c = cc in
        omega (arith, k, m, low, high)
    go false f g = cc

pub known_is : (r : Range) (x c : ℕ) → LiesIn r x → known_of r ≡ Some c → x ≡ c
known_is r x c l e = known_between r x c l.low l.high e

-- interval arithmetic that stays within 32 bits
fitting_lies : (lo hi x : ℕ) → lo ≤ x → x ≤ hi → IfSome (fitting 32 lo hi) (λ r. LiesIn r (x % 2 ^ 32))
fitting_lies lo hi x l h = go (nat_lt lo (2 ^ 32) && nat_lt hi (2 ^ 32)) refl
  where
    go : (t : Bool) → (nat_lt lo (2 ^ 32) && nat_lt hi (2 ^ 32)) ≡ t
        → IfSome (if t then Some record { lo = lo; hi = hi } else None) (λ r. LiesIn r (x % 2 ^ 32))
    go true f =
        let k : hi < 2 ^ 32 = grind (arith, nat_tests) in
        let same : x % 2 ^ 32 ≡ x = omega arith in
        record { low = omega (arith, same, l); high = omega (arith, same, h); fits = k }
    go false f = tt

difference_lies : (a b : Range) (x y : ℕ) → LiesIn a x → LiesIn b y
    → IfSome (difference_range a b) (λ r. LiesIn r ((x + (2 ^ 32 - y)) % 2 ^ 32))
difference_lies a b x y h k = go (nat_le b.hi a.lo) refl
  where
    go : (t : Bool) → nat_le b.hi a.lo ≡ t
        → IfSome (if t then Some record { lo = a.lo - b.hi; hi = a.hi - b.lo } else None)
        (λ r. LiesIn r ((x + (2 ^ 32 - y)) % 2 ^ 32))
    go true f =
        let l : b.hi ≤ a.lo = grind (arith, nat_tests) in
        let above : y ≤ x = omega (arith, l, h.low, k.high) in
        let small : x < 2 ^ 32 = omega (arith, h.high, h.fits) in
        let same : (x + (2 ^ 32 - y)) % 2 ^ 32 ≡ x - y = omega arith in
        record {
          low = omega (arith, same, above, h.low, k.high);
          high = omega (arith, same, above, h.high, k.low);
          fits = omega (arith, h.fits);
        }
    go false f = tt

pub offset_lies : (r : Range) (x m : ℕ) → LiesIn r x → m < 2 ^ 32 → IfSome (offset_range m r) (λ s. LiesIn s ((x + m) % 2 ^ 32))
unfolding offset_range
offset_lies r x m h fits = go (nat_lt m (2 ^ 31)) refl
  where
    go : (t : Bool) → nat_lt m (2 ^ 31) ≡ t
        → IfSome (if t then fitting 32 (r.lo + m) (r.hi + m) else difference_range r (just (2 ^ 32 - m))) (λ s. LiesIn s ((x + m) % 2 ^ 32))
    go true f = fitting_lies (r.lo + m) (r.hi + m) (x + m) (omega (arith, h.low)) (omega (arith, h.high))
    go false f =
        let l : 2 ^ 31 ≤ m = grind (arith, nat_tests) in
        let back : 2 ^ 32 - (2 ^ 32 - m) ≡ m = omega arith in
        let one : LiesIn (just (2 ^ 32 - m)) (2 ^ 32 - m) = record { low = omega arith; high = omega arith; fits = omega arith } in
        subst (λ (k : ℕ). IfSome (difference_range r (just (2 ^ 32 - m))) (λ s. LiesIn s ((x + k) % 2 ^ 32))) back
        (difference_lies r (just (2 ^ 32 - m)) x (2 ^ 32 - m) h one)

-- ---- forms

number_fits : (n : ℕ) (v : ℕ → ℕ) (a : ValueView) (x : ℕ) → IsNumber n v a x → x < 2 ^ 32
number_fits n v a x h = omega (arith, h.lies.high, h.lies.fits)

means_at : (m n : ℕ) (v : ℕ → ℕ) (f : Linear) (x y : ℕ) → x ≡ y → Means m n v f x → Means m n v f y
means_at m n v f x y e h = record { form = h.form; below = h.below; number = sym e ∙ h.number }

pub value_number : (v : ℕ → ℕ) (x : ℕ) → x < 2 ^ 32 → x ≡ value v (number_form x)
unfolding value
value_number v x l = omega arith

number_means : (m n : ℕ) (v : ℕ → ℕ) (x : ℕ) → x < 2 ^ 32 → Means m n v (number_form x) x
number_means m n v x l = record { form = number-IsForm m x l; below = tt; number = value_number v x l }

sum_means : (n : ℕ) (v : ℕ → ℕ) (f g : Linear) (x y : ℕ) → Means 8 n v f x → Means 8 n v g y
    → Means 16 n v (sum_of f g) ((x + y) % 2 ^ 32)
sum_means n v f g x y h k =
    record {
      form = sum_of-IsForm 8 8 16 f g h.form k.form (omega (arith, length-sum_of f g, h.form.has_room, k.form.has_room));
      below = sums-stay n f g h.below k.below;
      number =
          ap (λ (z : ℕ). (z + y) % 2 ^ 32) h.number
          ∙ (ap (λ (z : ℕ). (value v f + z) % 2 ^ 32) k.number ∙ sym (value-sum_of v f g));
    }

length_scaled : (k : ℕ) (f : Linear) → length (scaled k f).terms ≤ length f.terms
unfolding scaled
length_scaled k f = length-scaled_terms k f.terms

scaled_means : (m n : ℕ) (v : ℕ → ℕ) (k : ℕ) (f : Linear) (x : ℕ) → 8 ≤ m → Means 8 n v f x → Means m n v (scaled k f) (k * x % 2 ^ 32)
scaled_means m n v k f x room h =
    record {
      form = scaled-IsForm 8 m k f h.form (omega (arith, length_scaled k f, h.form.has_room, room));
      below = multiples-stay n k f h.below;
      number = ap (λ (z : ℕ). k * z % 2 ^ 32) h.number ∙ sym (value-scaled v k f);
    }

-- ---- effects by their forms

pub constant_describes : ConstantEffects
unfolding constant_effect
constant_describes n v x l =
    (number_means 16 n v x l, record { low = omega arith; high = omega arith; fits = l })

sum_describes : (n : ℕ) (v : ℕ → ℕ) (a b : ValueView) (x y : ℕ) → IsNumber n v a x → IsNumber n v b y
    → Describes n v (sum_effect a b) ((x + y) % 2 ^ 32)
unfolding sum_effect
sum_describes n v a b x y h k = (
  sum_means n v a.form b.form x y h.means k.means,
  fitting_lies (a.range.lo + b.range.lo) (a.range.hi + b.range.hi) (x + y)
      (omega (arith, h.lies.low, k.lies.low)) (omega (arith, h.lies.high, k.lies.high)),
)

-- to add 2^32 - 1 times a number is to take it away
minus_is : (x y : ℕ) → y < 2 ^ 32 → (x + 4294967295 * y % 2 ^ 32) % 2 ^ 32 ≡ (x + (2 ^ 32 - y)) % 2 ^ 32
minus_is x y l = omega arith

difference_describes : (n : ℕ) (v : ℕ → ℕ) (a b : ValueView) (x y : ℕ) → IsNumber n v a x → IsNumber n v b y
    → Describes n v (difference_effect a b) ((x + (2 ^ 32 - y)) % 2 ^ 32)
unfolding difference_effect
difference_describes n v a b x y h k =
    let taken = scaled_means 8 n v 4294967295 b.form y (omega arith) k.means in (
      means_at 16 n v _ _ _ (minus_is x y (number_fits n v b y k))
          (sum_means n v a.form (scaled 4294967295 b.form) x (4294967295 * y % 2 ^ 32) h.means taken),
      difference_lies a.range b.range x y h.lies k.lies,
    )

offset_describes : (n : ℕ) (v : ℕ → ℕ) (a : ValueView) (x m : ℕ) → IsNumber n v a x → m < 2 ^ 32
    → Describes n v (offset_effect a m) ((x + m) % 2 ^ 32)
unfolding offset_effect offset_form
offset_describes n v a x m h l =
    (sum_means n v a.form (number_form m) x m h.means (number_means 8 n v m l), offset_lies a.range x m h.lies l)

product_describes : (n : ℕ) (v : ℕ → ℕ) (k : ℕ) (a : ValueView) (x : ℕ) → IsNumber n v a x
    → Describes n v (product_effect k a) (k * x % 2 ^ 32)
unfolding product_effect
product_describes n v k a x h = (
  scaled_means 16 n v k a.form x (omega arith) h.means,
  fitting_lies (k * a.range.lo) (k * a.range.hi) (k * x) (mul-le-mul_left k h.lies.low) (mul-le-mul_left k h.lies.high),
)

-- the description of a number holds of an equal one
described_at : (n : ℕ) (v : ℕ → ℕ) (e : Effect) (x y : ℕ) → x ≡ y → Describes n v e x → Describes n v e y
described_at n v e x y is d = subst (λ (z : ℕ). Describes n v e z) is d

product_by_describes : (n : ℕ) (v : ℕ → ℕ) (a b : ValueView) (x y : ℕ) (k j : Option ℕ) → IsNumber n v a x → IsNumber n v b y
    → ((c : ℕ) → k ≡ Some c → y ≡ c) → ((c : ℕ) → j ≡ Some c → x ≡ c) → Describes n v (product_by a k b j) (x * y % 2 ^ 32)
unfolding product_by
product_by_describes n v a b x y (Some c) j h k is_y is_x =
    let e : c * x ≡ x * y = omega (arith, ap (λ (z : ℕ). x * z) (is_y c refl)) in
    described_at n v (product_effect c a) _ _ (ap (λ (z : ℕ). z % 2 ^ 32) e) (product_describes n v c a x h)
product_by_describes n v a b x y None (Some c) h k is_y is_x =
    let e : c * y ≡ x * y = ap (λ (z : ℕ). z * y) (sym (is_x c refl)) in
    described_at n v (product_effect c b) _ _ (ap (λ (z : ℕ). z % 2 ^ 32) e) (product_describes n v c b y k)
product_by_describes n v a b x y None None h k is_y is_x = full_lies (x * y % 2 ^ 32) (omega arith)

left_shift_describes : (n : ℕ) (v : ℕ → ℕ) (a : ValueView) (x y : ℕ) (o : Option ℕ) → IsNumber n v a x
    → ((c : ℕ) → o ≡ Some c → y ≡ c) → Describes n v (left_shift_by a o) (x * 2 ^ (y % 32) % 2 ^ 32)
unfolding left_shift_by
left_shift_describes n v a x y None h is = full_lies (x * 2 ^ (y % 32) % 2 ^ 32) (omega arith)
left_shift_describes n v a x y (Some c) h is =
    let e : 2 ^ (c % 32) * x ≡ x * 2 ^ (y % 32) = omega (arith, ap (λ (z : ℕ). x * 2 ^ (z % 32)) (is c refl)) in
    described_at n v (product_effect (2 ^ (c % 32)) a) _ _ (ap (λ (z : ℕ). z % 2 ^ 32) e)
    (product_describes n v (2 ^ (c % 32)) a x h)

-- ---- effects by their ranges alone

pub div_up : (a b d : ℕ) → a ≤ b → a / d ≤ b / d
div_up a b zero l = omega arith
div_up a b (suc d) l = le-div (a / suc d) b (suc d) (omega arith) (omega (arith, div-mul-le_self a (suc d), l))

-- the quotients of a range's numbers
divided_lies : (r : Range) (x d : ℕ) → LiesIn r x → LiesIn (record { lo = r.lo / d; hi = r.hi / d }) (x / d)
divided_lies r x d h =
    record {
      low = div_up r.lo x d h.low;
      high = div_up x r.hi d h.high;
      fits = omega (arith, div-le_self r.hi d, h.fits);
    }

-- what an operation gives is in its range, with the second number known or not
by_known : (range : Option ℕ → Range) (result : ℕ → ℕ) (y : ℕ) (o : Option ℕ) → ((c : ℕ) → o ≡ Some c → y ≡ c)
    → LiesIn (range None) (result y) → ((c : ℕ) → LiesIn (range (Some c)) (result c)) → LiesIn (range o) (result y)
by_known range result y None is unknown known = unknown
by_known range result y (Some c) is unknown known =
    subst (λ (z : ℕ). LiesIn (range (Some c)) (result z)) (sym (is c refl)) (known c)

right_shift_lies : (r : Range) (x y : ℕ) (o : Option ℕ) → LiesIn r x → ((c : ℕ) → o ≡ Some c → y ≡ c)
    → LiesIn (right_shift_range r o) (x / 2 ^ (y % 32))
unfolding right_shift_range
right_shift_lies r x y o h is =
    by_known (right_shift_range r) (λ z. x / 2 ^ (z % 32)) y o is
    (full_lies (x / 2 ^ (y % 32)) (omega (arith, div-le_self x (2 ^ (y % 32)), h.high, h.fits)))
    (λ c. divided_lies r x (2 ^ (c % 32)) h)

quotient_lies : (r : Range) (x y : ℕ) (o : Option ℕ) → LiesIn r x → y < 2 ^ 32 → ((c : ℕ) → o ≡ Some c → y ≡ c)
    → LiesIn (quotient_range r o) (unsigned_quotient x y)
unfolding quotient_range register_result
quotient_lies r x y o h l is =
    by_known (quotient_range r) (unsigned_quotient x) y o is
    (full_lies (unsigned_quotient x y) (register_result-fits Divu x y (omega (arith, h.high, h.fits)) l)) (λ c. go c (c == 0) refl)
  where
    go : (c : ℕ) (t : Bool) → (c == 0) ≡ t
        → LiesIn (if t then full_range else record { lo = r.lo / c; hi = r.hi / c }) (if t then 2 ^ 32 - 1 else x / c)
    go c true e = full_lies (2 ^ 32 - 1) (lit< tt)
    go c false e = divided_lies r x c h

remainder_lies : (r : Range) (x y : ℕ) (o : Option ℕ) → LiesIn r x → y < 2 ^ 32 → ((c : ℕ) → o ≡ Some c → y ≡ c)
    → LiesIn (remainder_range r o) (unsigned_remainder x y)
unfolding remainder_range register_result
remainder_lies r x y o h l is =
    by_known (remainder_range r) (unsigned_remainder x) y o is
    (full_lies (unsigned_remainder x y) (register_result-fits Remu x y (omega (arith, h.high, h.fits)) l)) (λ c. go c (c == 0) refl)
  where
    go : (c : ℕ) (t : Bool) → (c == 0) ≡ t
        → LiesIn (if t then full_range else up_to (min r.hi (c - 1))) (if t then x else x % c)
    go c true e = full_lies x (omega (arith, h.high, h.fits))
    go c false e =
        let some : 0 < c = grind (arith, nat_tests) in
        let small : x % c < c = omega arith in
        up_lies (min r.hi (c - 1)) (x % c) (omega (arith, mod-le x c, h.high, small)) (omega (arith, h.fits))

and_lies : (a b x y : ℕ) → x ≤ a → y ≤ b → a < 2 ^ 32 → LiesIn (up_to (min a b)) (bit_and x y)
and_lies a b x y h k l = up_lies (min a b) (bit_and x y) (omega (arith, and_le_l x y, and_le_r x y)) (omega arith)

-- ---- the instructions

module _ (n : ℕ) (v : ℕ → ℕ) (op : RegisterOp) (a b : ValueView) (x y : ℕ) (h : IsNumber n v a x) (k : IsNumber n v b y) where
  unknown : Describes n v (Fresh full_range) (register_result op x y)
  unknown = full_lies (register_result op x y) (register_result-fits op x y (number_fits n v a x h) (number_fits n v b y k))

pub register_describes : RegisterEffects
unfolding register_effect register_result
register_describes n v Add a b x y h k = sum_describes n v a b x y h k
register_describes n v Sub a b x y h k = difference_describes n v a b x y h k
register_describes n v Sll a b x y h k = left_shift_describes n v a x y (known_of b.range) h (λ c. known_is b.range y c k.lies)
register_describes n v Slt a b x y h k = bit_lies (int_lt (signed x) (signed y))
register_describes n v Sltu a b x y h k = bit_lies (nat_lt x y)
register_describes n v Xor a b x y h k = unknown n v Xor a b x y h k
register_describes n v Srl a b x y h k = right_shift_lies a.range x y (known_of b.range) h.lies (λ c. known_is b.range y c k.lies)
register_describes n v Sra a b x y h k = unknown n v Sra a b x y h k
register_describes n v Or a b x y h k = unknown n v Or a b x y h k
register_describes n v And a b x y h k = and_lies a.range.hi b.range.hi x y h.lies.high k.lies.high h.lies.fits
register_describes n v Mul a b x y h k =
    product_by_describes n v a b x y (known_of b.range) (known_of a.range) h k
    (λ c. known_is b.range y c k.lies) (λ c. known_is a.range x c h.lies)
register_describes n v Mulh a b x y h k = unknown n v Mulh a b x y h k
register_describes n v Mulhsu a b x y h k = unknown n v Mulhsu a b x y h k
register_describes n v Mulhu a b x y h k = unknown n v Mulhu a b x y h k
register_describes n v Div a b x y h k = unknown n v Div a b x y h k
register_describes n v Divu a b x y h k =
    quotient_lies a.range x y (known_of b.range) h.lies (number_fits n v b y k) (λ c. known_is b.range y c k.lies)
register_describes n v Rem a b x y h k = unknown n v Rem a b x y h k
register_describes n v Remu a b x y h k =
    remainder_lies a.range x y (known_of b.range) h.lies (number_fits n v b y k) (λ c. known_is b.range y c k.lies)

pub immediate_describes : ImmediateEffects
unfolding immediate_effect immediate_result register_result
immediate_describes n v Addi a x imm h fits = offset_describes n v a x (unsigned imm) h (immediate_fits imm fits)
immediate_describes n v Slti a x imm h fits = bit_lies (int_lt (signed x) (signed (unsigned imm)))
immediate_describes n v Sltiu a x imm h fits = bit_lies (nat_lt x (unsigned imm))
immediate_describes n v Xori a x imm h fits = full_lies _ (immediate_result-fits Xori x imm (number_fits n v a x h) fits)
immediate_describes n v Ori a x imm h fits = full_lies _ (immediate_result-fits Ori x imm (number_fits n v a x h) fits)
immediate_describes n v Andi a x imm h fits =
    and_lies a.range.hi (unsigned imm) x (unsigned imm) h.lies.high (omega arith) h.lies.fits

same_amount : (amount c : ℕ) → Some amount ≡ Some c → amount ≡ c
same_amount amount c e = cc

pub shift_describes : ShiftEffects
unfolding shift_effect shift_result register_result
shift_describes n v Slli a x amount h = left_shift_describes n v a x amount (Some amount) h (same_amount amount)
shift_describes n v Srli a x amount h = right_shift_lies a.range x amount (Some amount) h.lies (same_amount amount)
shift_describes n v Srai a x amount h = full_lies _ (shift_result-fits Srai x amount (number_fits n v a x h))

pub load_describes : LoadEffects
unfolding load_effect loaded size_of_load
load_describes n v load.Byte x l = full_lies _ (loaded-fits load.Byte x (omega (arith, l)))
load_describes n v load.Half x l = full_lies _ (loaded-fits load.Half x (omega (arith, l)))
load_describes n v load.Word x l = full_lies x (omega (arith, l))
load_describes n v load.ByteUnsigned x l = up_lies 255 x (omega (arith, l)) (lit< tt)
load_describes n v load.HalfUnsigned x l = up_lies 65535 x (omega (arith, l)) (lit< tt)

pub csr_describes : CsrEffects
unfolding csr_effect csr_value
csr_describes n v csr.Vxsat vlenb a config h is p q k = up_lies 1 h.vxsat (omega (arith, is.vxsat_fits)) (lit< tt)
csr_describes n v csr.Vxrm vlenb a config h is p q k = up_lies 3 h.vxrm (omega (arith, is.vxrm_fits)) (lit< tt)
csr_describes n v csr.Vcsr vlenb a config h is p q k =
    up_lies 7 (2 * h.vxrm + h.vxsat) (omega (arith, is.vxrm_fits, is.vxsat_fits)) (lit< tt)
csr_describes n v csr.Vl vlenb a config h is p q k = (k.means, k.lies)
csr_describes n v csr.Vtype vlenb a config h is p q k = full_lies config.vtype q
csr_describes n v csr.Vlenb vlenb a config h is p q k = constant_describes n v vlenb p
