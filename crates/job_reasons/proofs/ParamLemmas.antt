-- The lines of parameters, one by one.
use Rattle.std.proofs.Common.{◌≡◌, ℕ, ◌+◌, ◌<◌, List, [], ◌∷◌, ◌++◌, length, take, get_or, ap, sym, ◌∙◌, zero, suc, append_assoc, append-nil, arith}
use Rattle.region_mem.specs.declared.parameter.Param.{Param}
use Rattle.job_reasons.specs.Loops.{param_line, param_lines}

lines_later : (n k : ℕ) (xs : List Param) (d : Param) → k < length xs
    → param_lines n (take k xs) ++ param_line (n + k) (get_or xs k d) ≡ param_lines n (take (suc k) xs)
unfolding param_lines
lines_later n k [] d l = absurd (omega (arith, l))
lines_later n zero (x ∷ xs) d l =
    ap (λ i. param_line i x) (same n) ∙ sym (append-nil (param_line n x))
  where
    same : (n : ℕ) → n + zero ≡ n
    same n = grind (arith)
lines_later n (suc k) (x ∷ xs) d l =
    append_assoc (param_line n x) (param_lines (n + 1) (take k xs)) (param_line (n + suc k) (get_or xs k d))
    ∙ ap (λ t. param_line n x ++ t) (ap (λ i. param_lines (n + 1) (take k xs) ++ param_line i (get_or xs k d)) (next n k)
    ∙ lines_later (n + 1) k xs d (omega (arith, l)))
  where
    next : (n k : ℕ) → n + suc k ≡ (n + 1) + k
    next n k = grind (arith)

-- the lines so far, and that of the parameter at a place
pub lines_snoc : (k : ℕ) (xs : List Param) (d : Param) → k < length xs
    → param_lines 0 (take k xs) ++ param_line k (get_or xs k d) ≡ param_lines 0 (take (k + 1) xs)
lines_snoc k xs d l =
    ap (λ i. param_lines 0 (take k xs) ++ param_line i (get_or xs k d)) (at k)
    ∙ (lines_later 0 k xs d l ∙ ap (λ i. param_lines 0 (take i xs)) (behind k))
  where
    at : (k : ℕ) → k ≡ 0 + k
    at k = grind (arith)

    behind : (k : ℕ) → suc k ≡ k + 1
    behind k = grind (arith)
