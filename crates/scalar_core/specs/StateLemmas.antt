-- A step leads from a hart's state to a hart's state.
use Rattle.std.proofs.Common.{◌≡◌, ◌≢◌, ◌<◌, ◌≤◌, ◌+◌, ◌-◌, ◌*◌, ◌/◌, ◌%◌, ◌^◌, ℕ, zero, suc, Bool, true, false, arith, refl, lit<, get_or-set_other, inl, inr}
use Rattle.std.specs.Prelude.{if◌then◌else◌, ◌==◌, nat_lt, int_lt, neg_ℤ, List, [], ◌∷◌, ℤ, pos, negsuc, ◌*ℤ◌, unsigned_abs, slice_index, slice_set, int_div, int_rem, Option, Some, None, Result, Ok, Err, IfOk}
use Rattle.std.specs.Int.{w8, w16, w32, cast_signed, int_shr, from_bool}
use Rattle.std.specs.Int.RustNames.{FitsSigned}
use Rattle.std.proofs.lemmas.Bool.Decides.{nat_tests}
use Rattle.std.proofs.Math.ListN.{length-set}
use Rattle.std.proofs.lemmas.Nat.{or_of_32, xor_of_32, widths}
use Rattle.std.proofs.Math.Nat.{div-le_self, mod-le, mul-le-mul}
use Rattle.std.proofs.lemmas.Int.{unsigned_abs-mul}
use Rattle.scalar_core.specs.Words.{Insn, ScalarInsn, CsrInsn, Condition, LoadKind, ImmediateOp, ShiftOp, RegisterOp, Width}
use Rattle.scalar_core.specs.Words.{CsrName, Lui, Auipc, Jal, Jalr, Branch, Load, Store, Immediate, ShiftImmediate, Register}
use Rattle.scalar_core.specs.Words.{Fence, Ecall, Add, Sub, Sll, Slt, Sltu, Xor, Srl, Sra, Or, And, Mul, Mulh, Mulhsu, Mulhu}
use Rattle.scalar_core.specs.Words.{Div, Divu, Rem, Remu, Addi, Slti, Sltiu, Xori, Ori, Andi, Slli, Srli, Srai, Vxsat, Vxrm}
use Rattle.scalar_core.specs.Words.{Vcsr, Vl, Vtype, Vlenb, Fault, Memory, IsAccessSize, load_of, store_of, Vconfig}
use Rattle.scalar_core.specs.Arithmetic.{immediate_result, is_taken, register_result, shift_result, signed, unsigned, upper_half}
use Rattle.scalar_core.specs.Csr.{csr_step, csr_value, csr_written, does_write, operand_of, with_csr, written}
use Rattle.scalar_core.specs.Laws.{HasFittingImmediate, ReadsFit, StepsKeepHarts}
use Rattle.scalar_core.specs.Step.{address_of, beside, branch_step, branch_to, jal_step, jalr_step, jump_and_link, jump_to, load_from, load_step, loaded, offset_by, rv32im_step, scalar_step, size_of_load, size_of_store, store_from, store_step, without_bit_0}
use Rattle.scalar_core.specs.Hart.{Hart, IsHart, advanced, at_pc, exit, next_pc, put, reg_of, with_reg}

-- either of two harts is a hart
either-is_hart : (b : Bool) (first second : Hart) → (b ≡ true → IsHart first) → (b ≡ false → IsHart second) → IsHart (if b then first else second)
either-is_hart true first second p q = p refl
either-is_hart false first second p q = q refl

element_set : (x : List ℕ) (r v k : ℕ) → v < 2 ^ 32 → ((j : ℕ) → slice_index x j < 2 ^ 32) → slice_index (slice_set x r v) k < 2 ^ 32
element_set [] r v k fits each = each k
element_set (y ∷ ys) zero v zero fits each = fits
element_set (y ∷ ys) zero v (suc k) fits each = each (suc k)
element_set (y ∷ ys) (suc r) v zero fits each = each zero
element_set (y ∷ ys) (suc r) v (suc k) fits each = element_set ys r v k fits (λ j. each (suc j))

set-is_hart : (r v : ℕ) (h : Hart) → 0 < r → v < 2 ^ 32 → IsHart h → IsHart (record h { x = slice_set h.x r v })
set-is_hart r v h positive fits is =
    let other : 0 ≢ r = omega arith in
    record {
      pc_fits = is.pc_fits;
      registers = simp length-set is.registers;
      fit = λ k. element_set h.x r v k fits is.fit;
      x0 = rw get_or-set_other is.x0;
      vxrm_fits = is.vxrm_fits;
      vxsat_fits = is.vxsat_fits;
    }

pub with_reg-is_hart : (r v : ℕ) (h : Hart) → v < 2 ^ 32 → IsHart h → IsHart (with_reg r v h)
unfolding with_reg
with_reg-is_hart r v h fits is =
    either-is_hart (r == 0) h (record h { x = slice_set h.x r v }) (λ _. is)
    (λ e. let positive : 0 < r = grind (arith, nat_tests) in set-is_hart r v h positive fits is)

pub at_pc-is_hart : (pc : ℕ) (h : Hart) → pc < 2 ^ 32 → IsHart h → IsHart (at_pc pc h)
at_pc-is_hart pc h fits is =
    record {
      pc_fits = fits;
      registers = is.registers;
      fit = is.fit;
      x0 = is.x0;
      vxrm_fits = is.vxrm_fits;
      vxsat_fits = is.vxsat_fits;
    }

pub advanced-is_hart : (h : Hart) → IsHart h → IsHart (advanced h)
advanced-is_hart h is = at_pc-is_hart (next_pc h) h (omega arith) is

pub put-is_hart : (r v : ℕ) (h : Hart) → v < 2 ^ 32 → IsHart h → IsHart (put r v h)
put-is_hart r v h fits is = advanced-is_hart (with_reg r v h) (with_reg-is_hart r v h fits is)

-- ---- what instructions compute

-- a whole number of that size, as 32 bits
unsigned_fits : (z : ℤ) → unsigned_abs z < 2 ^ 32 → unsigned z < 2 ^ 32
unsigned_fits (pos n) small = small
unsigned_fits (negsuc n) small = omega arith

-- 32 bits as a signed number
signed_abs : (a : ℕ) → a < 2 ^ 32 → unsigned_abs (signed a) ≤ 2 ^ 31
signed_abs a fits = grind arith

signed_below : (a : ℕ) → a < 2 ^ 32 → unsigned_abs (signed a) < 2 ^ 32
signed_below a fits = omega (arith, signed_abs a fits)

pub immediate_fits : (imm : ℤ) → FitsSigned w32 imm → unsigned imm < 2 ^ 32
immediate_fits (pos n) fits = omega (arith, fits.sfits)
immediate_fits (negsuc n) fits = omega arith

-- a byte and a half word, extended by their signs
byte_extended : (n : ℕ) → n < 2 ^ 8 → unsigned (cast_signed w8 n) < 2 ^ 32
byte_extended n fits = grind arith

half_extended : (n : ℕ) → n < 2 ^ 16 → unsigned (cast_signed w16 n) < 2 ^ 32
half_extended n fits = grind arith

from_bool_fits : (b : Bool) → from_bool b < 2 ^ 32
from_bool_fits true = lit< tt
from_bool_fits false = lit< tt

neg_abs : (n : ℕ) → unsigned_abs (neg_ℤ (pos n)) ≡ n
neg_abs zero = refl
neg_abs (suc n) = refl

-- shifts, quotients and remainders are no larger than what they are made of
shifted_abs : (z : ℤ) (k : ℕ) → unsigned_abs (int_shr z k) ≤ unsigned_abs z
shifted_abs (pos n) k = div-le_self n (2 ^ k)
shifted_abs (negsuc n) k = omega (arith, div-le_self n (2 ^ k))

quotient_abs : (x y : ℤ) → unsigned_abs (int_div x y) ≤ unsigned_abs x
quotient_abs (pos n) (pos d) = div-le_self n d
quotient_abs (pos n) (negsuc d) = rw (neg_abs (n / suc d)) (div-le_self n (suc d))
quotient_abs (negsuc n) (pos d) = rw (neg_abs (suc n / d)) (div-le_self (suc n) d)
quotient_abs (negsuc n) (negsuc d) = div-le_self (suc n) (suc d)

remainder_abs : (x y : ℤ) → unsigned_abs (int_rem x y) ≤ unsigned_abs x
remainder_abs (pos n) d = mod-le n (unsigned_abs d)
remainder_abs (negsuc n) d = rw (neg_abs (suc n % unsigned_abs d)) (mod-le (suc n) (unsigned_abs d))

upper_half_fits : (z : ℤ) → unsigned_abs z < 2 ^ 64 → upper_half z < 2 ^ 32
upper_half_fits (pos n) small = omega arith
upper_half_fits (negsuc n) small = omega arith

product_abs : (x y : ℤ) → unsigned_abs x < 2 ^ 32 → unsigned_abs y < 2 ^ 32 → unsigned_abs (x *ℤ y) < 2 ^ 64
product_abs x y p q =
    let x_max : unsigned_abs x ≤ 2 ^ 32 - 1 = omega arith in
    let y_max : unsigned_abs y ≤ 2 ^ 32 - 1 = omega arith in
    let small : unsigned_abs x * unsigned_abs y ≤ (2 ^ 32 - 1) * (2 ^ 32 - 1) = mul-le-mul x_max y_max in
    rw (unsigned_abs-mul x y) (omega arith)

below_signed : (z : ℤ) (a : ℕ) → a < 2 ^ 32 → unsigned_abs z ≤ unsigned_abs (signed a) → unsigned z < 2 ^ 32
below_signed z a fits le = unsigned_fits z (omega (arith, signed_abs a fits))

unless_zero_fits : (b n m : ℕ) → n < 2 ^ 32 → m < 2 ^ 32 → (if b == 0 then n else m) < 2 ^ 32
unless_zero_fits b n m p q = grind (arith, nat_tests)

pub register_result-fits : (op : RegisterOp) (a b : ℕ) → a < 2 ^ 32 → b < 2 ^ 32 → register_result op a b < 2 ^ 32
unfolding register_result
register_result-fits Add a b p q = omega arith
register_result-fits Sub a b p q = omega arith
register_result-fits Sll a b p q = omega arith
register_result-fits Slt a b p q = from_bool_fits (int_lt (signed a) (signed b))
register_result-fits Sltu a b p q = from_bool_fits (nat_lt a b)
register_result-fits Xor a b p q = xor_of_32 a b p q
register_result-fits Srl a b p q = omega (arith, div-le_self a (2 ^ (b % 32)))
register_result-fits Sra a b p q = below_signed (int_shr (signed a) (b % 32)) a p (shifted_abs (signed a) (b % 32))
register_result-fits Or a b p q = or_of_32 a b p q
register_result-fits And a b p q = grind (arith, widths)
register_result-fits Mul a b p q = omega arith
register_result-fits Mulh a b p q =
    upper_half_fits (signed a *ℤ signed b) (product_abs (signed a) (signed b) (signed_below a p) (signed_below b q))
register_result-fits Mulhsu a b p q = upper_half_fits (signed a *ℤ pos b) (product_abs (signed a) (pos b) (signed_below a p) q)
register_result-fits Mulhu a b p q = upper_half_fits (pos a *ℤ pos b) (product_abs (pos a) (pos b) p q)
register_result-fits Div a b p q = unless_zero_fits b _ _ (lit< tt) (below_signed (int_div (signed a) (signed b)) a p (quotient_abs (signed a) (signed b)))
register_result-fits Divu a b p q = unless_zero_fits b _ _ (lit< tt) (omega (arith, div-le_self a b))
register_result-fits Rem a b p q = unless_zero_fits b _ _ p (below_signed (int_rem (signed a) (signed b)) a p (remainder_abs (signed a) (signed b)))
register_result-fits Remu a b p q = unless_zero_fits b _ _ p (omega (arith, mod-le a b))

pub immediate_result-fits : (op : ImmediateOp) (a : ℕ) (imm : ℤ) → a < 2 ^ 32 → FitsSigned w32 imm → immediate_result op a imm < 2 ^ 32
unfolding immediate_result
immediate_result-fits Addi a imm p q = register_result-fits Add a (unsigned imm) p (immediate_fits imm q)
immediate_result-fits Slti a imm p q = register_result-fits Slt a (unsigned imm) p (immediate_fits imm q)
immediate_result-fits Sltiu a imm p q = register_result-fits Sltu a (unsigned imm) p (immediate_fits imm q)
immediate_result-fits Xori a imm p q = register_result-fits Xor a (unsigned imm) p (immediate_fits imm q)
immediate_result-fits Ori a imm p q = register_result-fits Or a (unsigned imm) p (immediate_fits imm q)
immediate_result-fits Andi a imm p q = register_result-fits And a (unsigned imm) p (immediate_fits imm q)

-- the result of a shift by any amount
pub shift_result-fits : (op : ShiftOp) (a amount : ℕ) → a < 2 ^ 32 → shift_result op a amount < 2 ^ 32
unfolding shift_result register_result
shift_result-fits Slli a amount p = omega arith
shift_result-fits Srli a amount p = omega (arith, div-le_self a (2 ^ (amount % 32)))
shift_result-fits Srai a amount p = below_signed (int_shr (signed a) (amount % 32)) a p (shifted_abs (signed a) (amount % 32))

pub loaded-fits : (kind : LoadKind) (n : ℕ) → n < 2 ^ 32 → loaded kind n < 2 ^ 32
unfolding loaded
loaded-fits LoadKind.Byte n p = byte_extended (n % 2 ^ 8) (omega arith)
loaded-fits LoadKind.Half n p = half_extended (n % 2 ^ 16) (omega arith)
loaded-fits LoadKind.Word n p = p
loaded-fits LoadKind.ByteUnsigned n p = p
loaded-fits LoadKind.HalfUnsigned n p = p

-- ---- the steps

beside-is_hart : (m : Memory) (next : Result Hart Fault) → IfOk next IsHart → IfOk (beside m next) (λ s. IsHart s.0)
unfolding beside
beside-is_hart m (Ok h) is = is
beside-is_hart m (Err fault) is = tt

if_aligned : (b : Bool) (h : Hart) (fault : Fault) → IsHart h → IfOk (if b then Ok h else Err fault) IsHart
if_aligned true h fault is = is
if_aligned false h fault is = tt

jump_to-is_hart : (target : ℕ) (h : Hart) → target < 2 ^ 32 → IsHart h → IfOk (jump_to target h) IsHart
unfolding jump_to
jump_to-is_hart target h fits is = if_aligned (target % 4 == 0) (at_pc target h) _ (at_pc-is_hart target h fits is)

jump_and_link-is_hart : (rd target : ℕ) (h : Hart) → target < 2 ^ 32 → IsHart h → IfOk (jump_and_link rd target h) IsHart
unfolding jump_and_link
jump_and_link-is_hart rd target h fits is =
    jump_to-is_hart target (with_reg rd (next_pc h) h) fits (with_reg-is_hart rd (next_pc h) h (omega arith) is)

branch_to-is_hart : (taken : Bool) (target : ℕ) (h : Hart) → target < 2 ^ 32 → IsHart h → IfOk (branch_to taken target h) IsHart
unfolding branch_to
branch_to-is_hart true target h fits is = jump_to-is_hart target h fits is
branch_to-is_hart false target h fits is = advanced-is_hart h is

size_of_load-is_size : (kind : LoadKind) → IsAccessSize (size_of_load kind)
unfolding size_of_load
size_of_load-is_size LoadKind.Byte = inl refl
size_of_load-is_size LoadKind.Half = inr (inl refl)
size_of_load-is_size LoadKind.Word = inr (inr refl)
size_of_load-is_size LoadKind.ByteUnsigned = inl refl
size_of_load-is_size LoadKind.HalfUnsigned = inr (inl refl)

load_from-is_hart : (kind : LoadKind) (rd address : ℕ) (h : Hart) (read : Option ℕ) → ((n : ℕ) → read ≡ Some n → n < 2 ^ 32) → IsHart h
    → IfOk (load_from kind rd address h read) IsHart
unfolding load_from
load_from-is_hart kind rd address h None fits is = tt
load_from-is_hart kind rd address h (Some n) fits is = put-is_hart rd (loaded kind n) h (loaded-fits kind n (fits n refl)) is

load_step-is_hart : (kind : LoadKind) (rd rs1 : ℕ) (offset : ℤ) (h : Hart) (m : Memory) → ReadsFit m → IsHart h
    → IfOk (load_step kind rd rs1 offset h m) IsHart
unfolding load_step
load_step-is_hart kind rd rs1 offset h m fits is =
    let address : ℕ = address_of rs1 offset h in
    load_from-is_hart kind rd address h (load_of address (size_of_load kind) m)
    (λ n e. fits address (size_of_load kind) n (size_of_load-is_size kind) e) is

store_from-is_hart : (address : ℕ) (h : Hart) (left : Option Memory) → IsHart h → IfOk (store_from address h left) (λ s. IsHart s.0)
unfolding store_from
store_from-is_hart address h None is = tt
store_from-is_hart address h (Some m) is = advanced-is_hart h is

store_step-is_hart : (size : Width) (rs1 rs2 : ℕ) (offset : ℤ) (h : Hart) (m : Memory) → IsHart h
    → IfOk (store_step size rs1 rs2 offset h m) (λ s. IsHart s.0)
unfolding store_step
store_step-is_hart size rs1 rs2 offset h m is =
    let address : ℕ = address_of rs1 offset h in
    store_from-is_hart address h (store_of address (size_of_store size) (reg_of rs2 h) m) is

jal_step-is_hart : (rd : ℕ) (offset : ℤ) (h : Hart) → IsHart h → IfOk (jal_step rd offset h) IsHart
unfolding jal_step
jal_step-is_hart rd offset h is = jump_and_link-is_hart rd (offset_by h.pc offset) h (omega arith) is

jalr_step-is_hart : (rd rs1 : ℕ) (offset : ℤ) (h : Hart) → IsHart h → IfOk (jalr_step rd rs1 offset h) IsHart
unfolding jalr_step
jalr_step-is_hart rd rs1 offset h is =
    jump_and_link-is_hart rd (without_bit_0 (offset_by (reg_of rs1 h) offset)) h (omega arith) is

branch_step-is_hart : (condition : Condition) (rs1 rs2 : ℕ) (offset : ℤ) (h : Hart) → IsHart h
    → IfOk (branch_step condition rs1 rs2 offset h) IsHart
unfolding branch_step
branch_step-is_hart condition rs1 rs2 offset h is =
    branch_to-is_hart (is_taken condition (reg_of rs1 h) (reg_of rs2 h)) (offset_by h.pc offset) h (omega arith) is

rv32im_step-is_hart : (insn : ScalarInsn) (h : Hart) (m : Memory) → HasFittingImmediate (Insn.Scalar insn) → ReadsFit m → IsHart h
    → IfOk (rv32im_step insn h m) (λ s. IsHart s.0)
unfolding rv32im_step
rv32im_step-is_hart (Lui rd imm) h m fits reads is = put-is_hart rd imm h fits is
rv32im_step-is_hart (Auipc rd imm) h m fits reads is = put-is_hart rd ((h.pc + imm) % 2 ^ 32) h (omega arith) is
rv32im_step-is_hart (Jal rd offset) h m fits reads is = beside-is_hart m (jal_step rd offset h) (jal_step-is_hart rd offset h is)
rv32im_step-is_hart (Jalr rd rs1 offset) h m fits reads is =
    beside-is_hart m (jalr_step rd rs1 offset h) (jalr_step-is_hart rd rs1 offset h is)
rv32im_step-is_hart (Branch condition rs1 rs2 offset) h m fits reads is =
    beside-is_hart m (branch_step condition rs1 rs2 offset h) (branch_step-is_hart condition rs1 rs2 offset h is)
rv32im_step-is_hart (Load kind rd rs1 offset) h m fits reads is =
    beside-is_hart m (load_step kind rd rs1 offset h m) (load_step-is_hart kind rd rs1 offset h m reads is)
rv32im_step-is_hart (Store size rs1 rs2 offset) h m fits reads is = store_step-is_hart size rs1 rs2 offset h m is
rv32im_step-is_hart (Immediate op rd rs1 imm) h m fits reads is =
    put-is_hart rd (immediate_result op (reg_of rs1 h) imm) h (immediate_result-fits op (reg_of rs1 h) imm (is.fit rs1) fits) is
rv32im_step-is_hart (ShiftImmediate op rd rs1 amount) h m fits reads is =
    put-is_hart rd (shift_result op (reg_of rs1 h) amount) h (shift_result-fits op (reg_of rs1 h) amount (is.fit rs1)) is
rv32im_step-is_hart (Register op rd rs1 rs2) h m fits reads is =
    put-is_hart rd (register_result op (reg_of rs1 h) (reg_of rs2 h)) h
    (register_result-fits op (reg_of rs1 h) (reg_of rs2 h) (is.fit rs1) (is.fit rs2)) is
rv32im_step-is_hart Fence h m fits reads is = advanced-is_hart h is
rv32im_step-is_hart Ecall h m fits reads is = at_pc-is_hart exit h (lit< tt) is

-- ---- CSRs

csr_value-fits : (csr : CsrName) (vlenb : ℕ) (config : Vconfig) (h : Hart) → vlenb < 2 ^ 32 → config.vl < 2 ^ 32 → config.vtype < 2 ^ 32 → IsHart h
    → csr_value csr vlenb config h < 2 ^ 32
unfolding csr_value
csr_value-fits Vxsat vlenb config h p q r is = omega (arith, is.vxsat_fits)
csr_value-fits Vxrm vlenb config h p q r is = omega (arith, is.vxrm_fits)
csr_value-fits Vcsr vlenb config h p q r is = omega (arith, is.vxrm_fits, is.vxsat_fits)
csr_value-fits Vl vlenb config h p q r is = q
csr_value-fits Vtype vlenb config h p q r is = r
csr_value-fits Vlenb vlenb config h p q r is = p

-- a hart stays one under new CSRs that fit
pub csrs-is_hart : (vxrm vxsat : ℕ) (h : Hart) → vxrm < 4 → vxsat < 2 → IsHart h → IsHart (record h { vxrm = vxrm; vxsat = vxsat })
csrs-is_hart vxrm vxsat h p q is =
    record {
      pc_fits = is.pc_fits;
      registers = is.registers;
      fit = is.fit;
      x0 = is.x0;
      vxrm_fits = p;
      vxsat_fits = q;
    }

with_csr-is_hart : (csr : CsrName) (value : ℕ) (h : Hart) → IsHart h → IsHart (with_csr csr value h)
unfolding with_csr
with_csr-is_hart Vxsat value h is = csrs-is_hart h.vxrm (value % 2) h is.vxrm_fits (omega arith) is
with_csr-is_hart Vxrm value h is = csrs-is_hart (value % 4) h.vxsat h (omega arith) is.vxsat_fits is
with_csr-is_hart Vcsr value h is = csrs-is_hart (value / 2 % 4) (value % 2) h (omega arith) (omega arith) is
with_csr-is_hart Vl value h is = is
with_csr-is_hart Vtype value h is = is
with_csr-is_hart Vlenb value h is = is

pub csr_written-is_hart : (insn : CsrInsn) (vlenb : ℕ) (config : Vconfig) (h : Hart) → IsHart h → IsHart (csr_written insn vlenb config h)
unfolding csr_written
csr_written-is_hart insn vlenb config h is =
    let value : ℕ = written insn.action (csr_value insn.csr vlenb config h) (operand_of insn.source h) in
    either-is_hart (does_write insn.action insn.source) (with_csr insn.csr value h) h (λ _. with_csr-is_hart insn.csr value h is) (λ _. is)

csr_step-is_hart : (insn : CsrInsn) (vlenb : ℕ) (config : Vconfig) (h : Hart) → vlenb < 2 ^ 32 → config.vl < 2 ^ 32 → config.vtype < 2 ^ 32 → IsHart h
    → IsHart (csr_step insn vlenb config h)
unfolding csr_step
csr_step-is_hart insn vlenb config h p q r is =
    put-is_hart insn.rd (csr_value insn.csr vlenb config h) (csr_written insn vlenb config h)
    (csr_value-fits insn.csr vlenb config h p q r is) (csr_written-is_hart insn vlenb config h is)

pub scalar_step-is_hart : StepsKeepHarts
unfolding scalar_step
scalar_step-is_hart vlenb (Insn.Scalar insn) config h m p q r fits reads is = rv32im_step-is_hart insn h m fits reads is
scalar_step-is_hart vlenb (Insn.Csr insn) config h m p q r fits reads is = csr_step-is_hart insn vlenb config h p q r is
scalar_step-is_hart vlenb _ config h m p q r fits reads is = is
