-- The registers at the start of a run, one by one.
use Rattle.std.proofs.Common.{◌≡◌, ◌<◌, ◌≤◌, ◌-◌, ◌^◌, ℕ, Bool, true, false, ◌&&◌, arith, refl, ◌∙◌, subst, sym, length, get_or}
use Rattle.std.specs.Prelude.{if◌then◌else◌, ◌==◌, nat_le, nat_lt, slice_index}
use Rattle.std.proofs.lemmas.Bool.Decides.{nat_tests}
use Rattle.std.proofs.lemmas.List.FromFn.{get_or-map-range_with_len, length-map-range_with_len}
use Rattle.std.proofs.Math.ListN.{get_or-eq_default}
use Rattle.region_mem.specs.declared.layout.TheConstants.{STACK_END}
use Rattle.scalar_core.specs.declared.entry.EntryValue.{EntryValue}
use Rattle.scalar_core.specs.declared.entry.EntryValue.TheVariants.{Number, Passed}
use Rattle.scalar_core.specs.Entry.{entry_hart, entry_number, entry_value, number_with}
use Rattle.scalar_core.specs.Hart.{IsHart, exit, reg_of}

-- what is passed is passed at one of eight places
pub entry_place : (r place : ℕ) → entry_value r ≡ Passed place → place < 8
unfolding entry_value
entry_place r place e = by_tests (r == 1) (r == 2) (nat_le 10 r && nat_lt r 18) refl e
  where
    by_tests : (s t u : Bool) → (nat_le 10 r && nat_lt r 18) ≡ u
        → (if s then Number exit else (if t then Number STACK_END else (if u then Passed (r - 10) else Number 0))) ≡ Passed place → place < 8
    by_tests true t u f e = absurd (cc)
    by_tests false true u f e = absurd (cc)
    by_tests false false true f e = (let same : r - 10 ≡ place = cc in grind (arith, nat_tests))
    by_tests false false false f e = absurd (cc)

-- places past the eight do not matter
pub entry_number-same : (p q : ℕ → ℕ) (r : ℕ) → ((place : ℕ) → place < 8 → p place ≡ q place) → entry_number p r ≡ entry_number q r
entry_number-same p q r same = by_value (entry_value r) refl
  where
    by_value : (v : EntryValue) → entry_value r ≡ v → number_with p v ≡ number_with q v
    by_value (Number number) e = refl
    by_value (Passed place) e = same place (entry_place r place e)

pub entry_number-fits : (passed : ℕ → ℕ) (r : ℕ) → ((place : ℕ) → place < 8 → passed place < 2 ^ 32) → entry_number passed r < 2 ^ 32
unfolding entry_value
entry_number-fits passed r fit = by_tests (r == 1) (r == 2) (nat_le 10 r && nat_lt r 18) refl
  where
    by_tests : (s t u : Bool) → (nat_le 10 r && nat_lt r 18) ≡ u
        → number_with passed (if s then Number exit else (if t then Number STACK_END else (if u then Passed (r - 10) else Number 0))) < 2 ^ 32
    by_tests true t u f = omega arith
    by_tests false true u f = omega arith
    by_tests false false true f = (let low : r - 10 < 8 = grind (arith, nat_tests) in fit (r - 10) low)
    by_tests false false false f = omega arith

entry_number-zero : (passed : ℕ → ℕ) → entry_number passed 0 ≡ 0
unfolding entry_value
entry_number-zero passed = refl

module _ (pc : ℕ) (passed : ℕ → ℕ) where
  pub entry_hart-pc : (entry_hart pc passed).pc ≡ pc
  unfolding entry_hart
  entry_hart-pc = refl

  pub reg_of-entry_hart : (r : ℕ) → r < 32 → reg_of r (entry_hart pc passed) ≡ entry_number passed r
  unfolding entry_hart
  reg_of-entry_hart r l = get_or-map-range_with_len (entry_number passed) 0 32 r r 0 l (omega arith)

  count : length (entry_hart pc passed).x ≡ 32
  unfolding entry_hart
  count = length-map-range_with_len (entry_number passed) 0 32

  fits_at : ((place : ℕ) → place < 8 → passed place < 2 ^ 32) → (k : ℕ) → slice_index (entry_hart pc passed).x k < 2 ^ 32
  fits_at fit k = by_test (nat_lt k 32) refl
    where
      by_test : (t : Bool) → nat_lt k 32 ≡ t → slice_index (entry_hart pc passed).x k < 2 ^ 32
      by_test true e =
          let l : k < 32 = grind (arith, nat_tests) in
          subst (λ (x : ℕ). x < 2 ^ 32) (sym (reg_of-entry_hart k l)) (entry_number-fits passed k fit)
      by_test false e =
          let l : 32 ≤ k = grind (arith, nat_tests) in
          let none : get_or (entry_hart pc passed).x k 0 ≡ 0 = get_or-eq_default (entry_hart pc passed).x 0 (omega (arith, count, l)) in
          omega (arith, none)

  pub entry_hart-is_hart : pc < 2 ^ 32 → ((place : ℕ) → place < 8 → passed place < 2 ^ 32) → IsHart (entry_hart pc passed)
  unfolding entry_hart
  entry_hart-is_hart low fit = record {
    pc_fits = low;
    registers = count;
    fit = fits_at fit;
    x0 = reg_of-entry_hart 0 (omega arith) ∙ entry_number-zero passed;
    vxrm_fits = omega arith;
    vxsat_fits = omega arith;
  }
