-- Chunk calls on the elements that lie in bytes.
use Rattle.std.proofs.Common.{◌≡◌, ℕ, ◌*◌, ◌<◌, List, length, get_or, ap, ap₂, ◌∙◌, arith}
use Rattle.byteorder.specs.Endian.{little_from}
use lib.Lanes.{zip2}
use Rattle.std.proofs.lemmas.Simd.{get_or-zip2}
use Rattle.lane_int.specs.LaneLemmas.{get_or-zip3}
use Rattle.lane_int.specs.Lists.{zip3}

pub lanes_of_three : (f : ℕ → ℕ → ℕ → ℕ) (k n : ℕ) (ns ms os xs ys zs rs bytes : List ℕ) → rs ≡ zip3 f xs ys zs → length xs ≡ n → length ys ≡ n → length zs ≡ n
    → ((j : ℕ) → j < n → get_or xs j 0 ≡ little_from (k * j) k ns) → ((j : ℕ) → j < n → get_or ys j 0 ≡ little_from (k * j) k ms) → ((j : ℕ) → j < n → get_or zs j 0 ≡ little_from (k * j) k os) → ((j : ℕ) → j < n → little_from (k * j) k bytes ≡ get_or rs j 0)
    → (j : ℕ) → j < n → little_from (k * j) k bytes ≡ f (little_from (k * j) k ns) (little_from (k * j) k ms) (little_from (k * j) k os)
lanes_of_three f k n ns ms os xs ys zs rs bytes is long_x long_y long_z at_x at_y at_z out j lt =
    out j lt
    ∙ ap (λ l. get_or l j 0) is
    ∙ get_or-zip3 f xs ys zs j 0 0 0 0 (omega (arith, lt, long_x)) (omega (arith, lt, long_y)) (omega (arith, lt, long_z))
    ∙ ap₂ (λ x y. f x y (get_or zs j 0)) (at_x j lt) (at_y j lt)
    ∙ ap (f (little_from (k * j) k ns) (little_from (k * j) k ms)) (at_z j lt)

pub lanes_of_two : (f : ℕ → ℕ → ℕ) (k n : ℕ) (ns ms xs ys rs bytes : List ℕ) → rs ≡ zip2 f xs ys → length xs ≡ n → length ys ≡ n
    → ((j : ℕ) → j < n → get_or xs j 0 ≡ little_from (k * j) k ns) → ((j : ℕ) → j < n → get_or ys j 0 ≡ little_from (k * j) k ms) → ((j : ℕ) → j < n → little_from (k * j) k bytes ≡ get_or rs j 0)
    → (j : ℕ) → j < n → little_from (k * j) k bytes ≡ f (little_from (k * j) k ns) (little_from (k * j) k ms)
lanes_of_two f k n ns ms xs ys rs bytes is long_x long_y at_x at_y out j lt =
    out j lt
    ∙ ap (λ l. get_or l j 0) is
    ∙ get_or-zip2 f xs ys j 0 0 0 (omega (arith, lt, long_x)) (omega (arith, lt, long_y))
    ∙ ap₂ f (at_x j lt) (at_y j lt)
