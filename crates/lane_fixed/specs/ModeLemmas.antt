-- Operations that round nothing off, so that they are the same in each mode; and that what a chunk call has for an
-- operation of the kernels is that operation.
use Rattle.std.proofs.Common.{◌≡◌, ℕ, Bool, true, false, not, ℤ, pos, negsuc, refl, ap, sym, ◌∙◌, arith}
use Rattle.std.specs.Prelude.{IfSome}
use mathlib.Core.Bool.{cond}
use mir.Val.{bits}
use Rattle.std.specs.Int.{Width}
use Rattle.std.specs.Ordering.{int_eq}
use Rattle.std.proofs.lemmas.Int.{ints}
use Rattle.std.proofs.Math.Nat.{div-one, mod-one}
use Rattle.lane_fixed.specs.Chunks.{chunk_op, lane_result, lane_saturates}
use Rattle.lane_fixed.specs.FixedPoint.{clipped, dropped, element, exact, saturates, unclipped}
use Rattle.lane_fixed.specs.Rounding.{low_bits, rounded, rounds_up, shifted}
use Rattle.lane_fixed.specs.declared.operations.RoundingMode.{RoundingMode}
use Rattle.lane_fixed.specs.declared.operations.RoundingMode.TheVariants.{NearestUp, NearestEven, Down, Odd}
use Rattle.rv_decode.specs.declared.instructions.FixedOp.{FixedOp}
use Rattle.rv_decode.specs.declared.instructions.FixedOp.TheVariants.{Saddu, Sadd, Ssubu, Ssub, Aaddu, Aadd, Asubu, Asub, Smul, Ssrl, Ssra}

-- a number is rounded off by no bit
up_by_none : (mode : RoundingMode) (q : ℤ) → rounds_up mode q 0 0 ≡ false
unfolding rounds_up
up_by_none NearestUp q = refl
up_by_none NearestEven q = refl
up_by_none Down q = refl
up_by_none Odd q = refl

shifted_by_none : (v : ℤ) → shifted 0 v ≡ v
unfolding shifted
shifted_by_none (pos a) = ap pos (div-one a)
shifted_by_none (negsuc a) = ap negsuc (div-one a)

low_by_none : (v : ℤ) → low_bits 0 v ≡ 0
unfolding low_bits
low_by_none (pos a) = mod-one a
low_by_none (negsuc a) = omega (arith, mod-one a)

pub rounded_by_none : (mode : RoundingMode) (v : ℤ) → rounded mode v 0 ≡ v
unfolding rounded
rounded_by_none mode v = rw (shifted_by_none v, low_by_none v, up_by_none mode v) (omega (arith, ints))

-- the saturating operations round nothing off, so that they are the same in each mode
abbrev pub rounds_nothing : FixedOp → Bool
rounds_nothing Saddu = true
rounds_nothing Sadd = true
rounds_nothing Ssubu = true
rounds_nothing Ssub = true
rounds_nothing op = false

drops_nothing : (op : FixedOp) (w : Width) (b : ℕ) → rounds_nothing op ≡ true → dropped op w b ≡ 0
unfolding dropped
drops_nothing Saddu w b is = refl
drops_nothing Sadd w b is = refl
drops_nothing Ssubu w b is = refl
drops_nothing Ssub w b is = refl
drops_nothing op w b is = absurd (omega (arith, ap {B = ℕ} (λ t. cond t 1 0) is))

same_unclipped : (op : FixedOp) (mode : RoundingMode) (w : Width) (a b : ℕ) → rounds_nothing op ≡ true → unclipped op mode w a b ≡ unclipped op Down w a b
unfolding unclipped
same_unclipped op mode w a b is = rw (drops_nothing op w b is) (rounded_by_none mode (exact op w a b) ∙ sym (rounded_by_none Down (exact op w a b)))

pub same_element : (op : FixedOp) (mode : RoundingMode) (w : Width) → rounds_nothing op ≡ true → element op mode w ≡ element op Down w
unfolding element
same_element op mode w is = λ i a b. low_bits (bits w) (clipped op w (same_unclipped op mode w a b is i))

pub same_saturates : (op : FixedOp) (mode : RoundingMode) (w : Width) → rounds_nothing op ≡ true → saturates op mode w ≡ saturates op Down w
unfolding saturates
same_saturates op mode w is = λ i a b. not (int_eq (clipped op w (same_unclipped op mode w a b is i)) (same_unclipped op mode w a b is i))

pub ruleset each_mode = (same_element, same_saturates)

-- a chunk call's operation is the kernels'
pub chunk_results : (op : FixedOp) (mode : RoundingMode) (w : Width) → IfSome (chunk_op op mode) (λ c. lane_result c w ≡ element op mode w)
chunk_results Saddu mode w = sym (same_element Saddu mode w refl)
chunk_results Sadd mode w = sym (same_element Sadd mode w refl)
chunk_results Ssubu mode w = sym (same_element Ssubu mode w refl)
chunk_results Ssub mode w = sym (same_element Ssub mode w refl)
chunk_results Aaddu mode w = refl
chunk_results Aadd mode w = refl
chunk_results Asubu mode w = refl
chunk_results Asub mode w = refl
chunk_results Smul mode w = tt
chunk_results Ssrl mode w = refl
chunk_results Ssra mode w = refl

pub chunk_saturations : (op : FixedOp) (mode : RoundingMode) (w : Width) → IfSome (chunk_op op mode) (λ c. lane_saturates c w ≡ saturates op mode w)
chunk_saturations Saddu mode w = sym (same_saturates Saddu mode w refl)
chunk_saturations Sadd mode w = sym (same_saturates Sadd mode w refl)
chunk_saturations Ssubu mode w = sym (same_saturates Ssubu mode w refl)
chunk_saturations Ssub mode w = sym (same_saturates Ssub mode w refl)
chunk_saturations Aaddu mode w = refl
chunk_saturations Aadd mode w = refl
chunk_saturations Asubu mode w = refl
chunk_saturations Asub mode w = refl
chunk_saturations Smul mode w = tt
chunk_saturations Ssrl mode w = refl
chunk_saturations Ssra mode w = refl
