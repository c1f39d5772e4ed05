-- What operations on elements make of elements that lie in ranges.
use Rattle.std.proofs.Common.{◌≡◌, ◌<◌, ◌≤◌, ◌+◌, ◌-◌, ◌*◌, ◌/◌, ◌%◌, ◌^◌, ℕ, Bool, true, false, arith, refl, sym, subst, Option, Some, None, IfSome}
use Rattle.std.specs.Prelude.{if◌then◌else◌, ◌==◌, nat_lt, ◌&&◌, bit_and, min}
use Rattle.std.specs.Int.{Width}
use Rattle.std.specs.Int as int
use mir.Val.{bits}
use Rattle.std.proofs.lemmas.Bool.Decides.{nat_tests}
use Rattle.std.proofs.lemmas.Nat.{and_le_l, and_le_r}
use Rattle.std.proofs.Math.Nat.{mod-eq_of_lt, mod-le, mul-le-mul_left}
use Rattle.linear_facts.specs.declared.ranges.Range.{Range}
use Rattle.rv_decode.specs.declared.instructions.IntOp.{IntOp}
use Rattle.rv_decode.specs.declared.instructions.IntOp.TheVariants.{Add, Sub, Rsub, Minu, Min, Maxu, Max, And, Or, Xor, Sll, Srl, Sra, Mul, Mulh, Mulhu, Mulhsu, Divu, Div, Remu, Rem}
use Rattle.rv_decode.specs.declared.instructions.NarrowOp.{NarrowOp}
use Rattle.rv_decode.specs.declared.instructions.NarrowOp.TheVariants as narrow
use Rattle.rv_decode.specs.declared.instructions.Source.{Source}
use Rattle.rv_decode.specs.declared.instructions.Source.TheVariants.{Vector, Scalar, Immediate}
use Rattle.rv_decode.specs.declared.instructions.Width as sew
use Rattle.rv_decode.specs.declared.instructions.Width.TheVariants.{W8, W16, W32}
use Rattle.rv_decode.specs.Instructions.{bits_of_width}
use Rattle.lane_int.specs.Integer.{double, element}
use Rattle.lane_int.specs.Resizing.{cut_to}
use Rattle.vector_core.specs.Integer.{lane_width}
use Rattle.vector_core.specs.Operations.{narrow_lanes}
use Rattle.abs_domain.specs.Values.{known_of, up_to}
use Rattle.abs_domain.specs.Effects.{fitting}
use Rattle.abs_transfer.specs.Facts.{int_range, left_elements, narrow_range, remainder_by, remainder_elements, right_elements}
use Rattle.abs_domain.specs.OperationLemmas.{div_up, known_between}

-- x lies in a range, and below a limit
pub record IsWithin (limit : ℕ) (r : Range) (x : ℕ) : Type 0 where
  pub low : r.lo ≤ x
  pub high : x ≤ r.hi
  pub fits : x < limit

-- an element that is known is the one of its range
known_one : (limit : ℕ) (r : Range) (x : ℕ) → IsWithin limit r x → (c : ℕ) → known_of r ≡ Some c → x ≡ c
known_one limit r x l c e = known_between r x c l.low l.high e

-- a number between two ends that both have this many bits
fitting_lies : (n lo hi x : ℕ) → lo ≤ x → x ≤ hi → IfSome (fitting n lo hi) (λ r. IsWithin (2 ^ n) r x)
fitting_lies n lo hi x l h = go (nat_lt lo (2 ^ n) && nat_lt hi (2 ^ n)) refl
  where
    go : (t : Bool) → nat_lt lo (2 ^ n) && nat_lt hi (2 ^ n) ≡ t → IfSome (if t then Some record { lo = lo; hi = hi } else None) (λ r. IsWithin (2 ^ n) r x)
    go true f =
        let k : hi < 2 ^ n = grind (arith, nat_tests) in
        record { low = l; high = h; fits = omega (arith, h, k) }
    go false f = tt

-- so are its low bits
cut_lies : (n lo hi x : ℕ) → lo ≤ x → x ≤ hi → IfSome (fitting n lo hi) (λ r. IsWithin (2 ^ n) r (x % 2 ^ n))
cut_lies n lo hi x l h = go (nat_lt lo (2 ^ n) && nat_lt hi (2 ^ n)) refl
  where
    go : (t : Bool) → nat_lt lo (2 ^ n) && nat_lt hi (2 ^ n) ≡ t
        → IfSome (if t then Some record { lo = lo; hi = hi } else None) (λ r. IsWithin (2 ^ n) r (x % 2 ^ n))
    go true f =
        let k : hi < 2 ^ n = grind (arith, nat_tests) in
        let small : x < 2 ^ n = omega (arith, h, k) in
        let same : x % 2 ^ n ≡ x = mod-eq_of_lt small in
        record { low = omega (arith, same, l); high = omega (arith, same, h); fits = omega (arith, same, small) }
    go false f = tt

left_lies : (n : ℕ) (a : Range) (x y : ℕ) (o : Option ℕ) → IsWithin (2 ^ n) a x → ((c : ℕ) → o ≡ Some c → y ≡ c)
    → IfSome (left_elements n a o) (λ r. IsWithin (2 ^ n) r (x * 2 ^ (y % n) % 2 ^ n))
unfolding left_elements
left_lies n a x y None h is = tt
left_lies n a x y (Some c) h is =
    let k = 2 ^ (c % n) in
    let l : k * a.lo ≤ x * k = (let p = mul-le-mul_left k h.low in omega (arith, p)) in
    let u : x * k ≤ k * a.hi = (let p = mul-le-mul_left k h.high in omega (arith, p)) in
    subst (λ (z : ℕ). IfSome (left_elements n a (Some c)) (λ r. IsWithin (2 ^ n) r (x * 2 ^ (z % n) % 2 ^ n))) (sym (is c refl))
    (cut_lies n (k * a.lo) (k * a.hi) (x * k) l u)

right_lies : (of n limit : ℕ) (a : Range) (x y : ℕ) (o : Option ℕ) → IsWithin limit a x → ((c : ℕ) → o ≡ Some c → y ≡ c)
    → IfSome (right_elements of n a o) (λ r. IsWithin (2 ^ n) r (x / 2 ^ (y % of)))
unfolding right_elements
right_lies of n limit a x y None h is = tt
right_lies of n limit a x y (Some c) h is =
    let k = 2 ^ (c % of) in
    subst (λ (z : ℕ). IfSome (right_elements of n a (Some c)) (λ r. IsWithin (2 ^ n) r (x / 2 ^ (z % of)))) (sym (is c refl))
    (fitting_lies n (a.lo / k) (a.hi / k) (x / k) (div_up a.lo x k h.low) (div_up x a.hi k h.high))

right_cut_lies : (of n limit : ℕ) (a : Range) (x y : ℕ) (o : Option ℕ) → IsWithin limit a x → ((c : ℕ) → o ≡ Some c → y ≡ c)
    → IfSome (right_elements of n a o) (λ r. IsWithin (2 ^ n) r (x / 2 ^ (y % of) % 2 ^ n))
unfolding right_elements
right_cut_lies of n limit a x y None h is = tt
right_cut_lies of n limit a x y (Some c) h is =
    let k = 2 ^ (c % of) in
    subst (λ (z : ℕ). IfSome (right_elements of n a (Some c)) (λ r. IsWithin (2 ^ n) r (x / 2 ^ (z % of) % 2 ^ n))) (sym (is c refl))
    (cut_lies n (a.lo / k) (a.hi / k) (x / k) (div_up a.lo x k h.low) (div_up x a.hi k h.high))

remainder_known : (limit : ℕ) (a : Range) (x y : ℕ) (o : Option ℕ) → IsWithin limit a x → ((c : ℕ) → o ≡ Some c → y ≡ c)
    → IfSome (remainder_elements a o) (λ r. IsWithin limit r (if y == 0 then x else x % y))
unfolding remainder_elements
remainder_known limit a x y None h is = tt
remainder_known limit a x y (Some c) h is =
    subst (λ (z : ℕ). IfSome (remainder_elements a (Some c)) (λ r. IsWithin limit r (if z == 0 then x else x % z))) (sym (is c refl))
    (go (c == 0) refl)
  where
    go : (t : Bool) → (c == 0) ≡ t
        → IfSome (if t then None else Some (up_to (min a.hi (c - 1)))) (λ r. IsWithin limit r (if t then x else x % c))
    go true e = tt
    go false e =
        let some : 0 < c = grind (arith, nat_tests) in
        let small : x % c < c = omega arith in
        let less = mod-le x c in
        record { low = omega arith; high = omega (arith, less, h.high, small); fits = omega (arith, less, h.fits) }

remainder_lies : (limit : ℕ) (b : Source) (a : Range) (x y : ℕ) (o : Option ℕ) → IsWithin limit a x → ((c : ℕ) → o ≡ Some c → y ≡ c)
    → IfSome (remainder_by b a o) (λ r. IsWithin limit r (if y == 0 then x else x % y))
unfolding remainder_by
remainder_lies limit (Vector vs1) a x y o h is = tt
remainder_lies limit (Scalar rs1) a x y o h is = remainder_known limit a x y o h is
remainder_lies limit (Immediate imm) a x y o h is = tt

and_lies : (limit a c x y : ℕ) → x ≤ a → y ≤ c → x < limit → IsWithin limit (up_to (min a c)) (bit_and x y)
and_lies limit a c x y h k l =
    let left = and_le_l x y in
    let right = and_le_r x y in
    record { low = omega arith; high = omega (arith, h, k, left, right); fits = omega (arith, l, left) }

-- what an operation gives for elements of vs2 and of the second operand that lie in ranges
int_lies : (w : Width) (op : IntOp) (b : Source) (a c : Range) (x y : ℕ) → IsWithin (2 ^ bits w) a x → IsWithin (2 ^ bits w) c y
    → IfSome (int_range (bits w) op b a c) (λ r. IsWithin (2 ^ bits w) r (element op w x y))
unfolding int_range element
int_lies w Add b a c x y h k =
    cut_lies (bits w) (a.lo + c.lo) (a.hi + c.hi) (x + y) (omega (arith, h.low, k.low)) (omega (arith, h.high, k.high))
int_lies w Sub b a c x y h k = tt
int_lies w Rsub b a c x y h k = tt
int_lies w Minu b a c x y h k =
    record { low = omega (arith, h.low, k.low); high = omega (arith, h.high, k.high); fits = omega (arith, h.fits) }
int_lies w Min b a c x y h k = tt
int_lies w Maxu b a c x y h k =
    record { low = omega (arith, h.low, k.low); high = omega (arith, h.high, k.high); fits = omega (arith, h.fits, k.fits) }
int_lies w Max b a c x y h k = tt
int_lies w And b a c x y h k = and_lies (2 ^ bits w) a.hi c.hi x y h.high k.high h.fits
int_lies w Or b a c x y h k = tt
int_lies w Xor b a c x y h k = tt
int_lies w Sll b a c x y h k = left_lies (bits w) a x y (known_of c) h (known_one (2 ^ bits w) c y k)
int_lies w Srl b a c x y h k = right_lies (bits w) (bits w) (2 ^ bits w) a x y (known_of c) h (known_one (2 ^ bits w) c y k)
int_lies w Sra b a c x y h k = tt
int_lies w Mul b a c x y h k = tt
int_lies w Mulh b a c x y h k = tt
int_lies w Mulhu b a c x y h k = tt
int_lies w Mulhsu b a c x y h k = tt
int_lies w Divu b a c x y h k = tt
int_lies w Div b a c x y h k = tt
int_lies w Remu b a c x y h k = remainder_lies (2 ^ bits w) b a x y (known_of c) h (known_one (2 ^ bits w) c y k)
int_lies w Rem b a c x y h k = tt

pub int_element : (w : sew.Width) (op : IntOp) (b : Source) (a c : Range) (x y : ℕ)
    → IsWithin (2 ^ bits_of_width w) a x → IsWithin (2 ^ bits_of_width w) c y
    → IfSome (int_range (bits_of_width w) op b a c)
    (λ r. IsWithin (2 ^ bits_of_width w) r (element op (lane_width w) x y))
int_element W8 op b a c x y h k = int_lies int.w8 op b a c x y h k
int_element W16 op b a c x y h k = int_lies int.w16 op b a c x y h k
int_element W32 op b a c x y h k = int_lies int.w32 op b a c x y h k

-- the low half of an element of twice as many bits, shifted to the right
narrow_lies : (w : Width) (limit : ℕ) (op : NarrowOp) (a c : Range) (x y : ℕ) → bits (double w) ≡ 2 * bits w → IsWithin limit a x
    → IsWithin (2 ^ bits w) c y
    → IfSome (narrow_range (bits w) op a c) (λ r. IsWithin (2 ^ bits w) r (cut_to w (element (narrow_lanes op) (double w) x y)))
unfolding narrow_range narrow_lanes element cut_to
narrow_lies w limit narrow.Srl a c x y twice h k =
    subst (λ (n : ℕ). IfSome (right_elements (2 * bits w) (bits w) a (known_of c)) (λ r. IsWithin (2 ^ bits w) r (x / 2 ^ (y % n) % 2 ^ bits w)))
    (sym twice) (right_cut_lies (2 * bits w) (bits w) limit a x y (known_of c) h (known_one (2 ^ bits w) c y k))
narrow_lies w limit narrow.Sra a c x y twice h k = tt

pub narrow_element : (w : sew.Width) (limit : ℕ) (op : NarrowOp) (a c : Range) (x y : ℕ) → IsWithin limit a x
    → IsWithin (2 ^ bits_of_width w) c y
    → IfSome (narrow_range (bits_of_width w) op a c)
    (λ r. IsWithin (2 ^ bits_of_width w) r (cut_to (lane_width w) (element (narrow_lanes op) (double (lane_width w)) x y)))
narrow_element W8 limit op a c x y h k = narrow_lies int.w8 limit op a c x y refl h k
narrow_element W16 limit op a c x y h k = narrow_lies int.w16 limit op a c x y refl h k
narrow_element W32 limit op a c x y h k = narrow_lies int.w32 limit op a c x y refl h k

-- a number of a place below as many as fit
pub place_lies : (n most x : ℕ) → x < most → IfSome (fitting n 0 (most - 1)) (λ r. IsWithin (2 ^ n) r (x % 2 ^ n))
place_lies n most x l = cut_lies n 0 (most - 1) x (omega arith) (omega (arith, l))
