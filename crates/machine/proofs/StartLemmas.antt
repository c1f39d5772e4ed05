-- The registers at the start, one after another.
use Rattle.std.proofs.Common.{◌≡◌, ℕ, ◌+◌, ◌<◌, [], ◌∷◌, ◌++◌, length, take, map, arith, refl, sym, ap, subst, ◌∙◌, Bool, true, false}
use Rattle.std.specs.Prelude.{◌==◌, if◌then◌else◌, slice_set}
use Rattle.std.specs.List.{range_with_len}
use Rattle.std.proofs.lemmas.Bool.Decides.{nat_tests}
use Rattle.std.proofs.lemmas.List.{take_all, take_more_set}
use Rattle.std.proofs.lemmas.List.FromFn.{map-range_with_len_more}
use Rattle.std.proofs.Math.ListN.{length-set}
use Rattle.scalar_core.specs.Entry.{entry_hart, entry_number, entry_value}
use Rattle.scalar_core.specs.Hart.{Hart, new_hart, with_reg}

-- The registers below this one hold what they do at the start of a run, and all else of a hart is as it is made.
pub record IsBegun (pc : ℕ) (passed : ℕ → ℕ) (n : ℕ) (h : Hart) : Type 0 where
  pub count : length h.x ≡ 32
  pub numbers : take n h.x ≡ map (entry_number passed) (range_with_len 0 n)
  pub same : h ≡ record (new_hart pc) { x = h.x }

written : (r v : ℕ) (h : Hart) → 0 < r → with_reg r v h ≡ record h { x = slice_set h.x r v }
unfolding with_reg
written r v h some = by_test (r == 0) refl
  where
    by_test : (t : Bool) → (r == 0) ≡ t → (if t then h else record h { x = slice_set h.x r v }) ≡ record h { x = slice_set h.x r v }
    by_test true e = absurd (grind (arith, nat_tests))
    by_test false e = refl

module _ (pc : ℕ) (passed : ℕ → ℕ) where
  set_begun : (n v : ℕ) (h : Hart) → n < 32 → v ≡ entry_number passed n → IsBegun pc passed n h
      → IsBegun pc passed (n + 1) (record h { x = slice_set h.x n v })
  set_begun n v h l is begun = record {
    count = length-set h.x n v ∙ begun.count;
    numbers =
        take_more_set h.x n v (omega (arith, l, begun.count))
        ∙ (ap (λ xs. xs ++ v ∷ []) begun.numbers
        ∙ (ap (λ y. map (entry_number passed) (range_with_len 0 n) ++ y ∷ []) is ∙ sym (map-range_with_len_more (entry_number passed) 0 n n (omega arith))));
    same = ap (λ (g : Hart). record g { x = slice_set h.x n v }) begun.same;
  }

  -- one register more
  pub begun_more : (n v : ℕ) (h : Hart) → 0 < n → n < 32 → v ≡ entry_number passed n → IsBegun pc passed n h
      → IsBegun pc passed (n + 1) (with_reg n v h)
  begun_more n v h some l is begun = subst (λ (g : Hart). IsBegun pc passed (n + 1) g) (sym (written n v h some)) (set_begun n v h l is begun)

  -- all of them
  pub begun_all : (h : Hart) → IsBegun pc passed 32 h → h ≡ entry_hart pc passed
  unfolding entry_hart
  begun_all h begun =
      begun.same ∙ ap (λ xs. record (new_hart pc) { x = xs }) (sym (take_all 32 h.x (omega (arith, begun.count))) ∙ begun.numbers)

  -- x0 alone
  pub begun_first : IsBegun pc passed 1 (new_hart pc)
  unfolding entry_value
  begun_first = record { count = refl; numbers = refl; same = refl }
