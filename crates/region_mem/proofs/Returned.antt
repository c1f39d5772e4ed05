-- The arguments that come back, place by place.
use Rattle.std.proofs.Common.{◌≡◌, List, [], ◌∷◌, length, get_or}
use Rattle.region_mem.specs.Words.{Passed}
use Rattle.region_mem.specs.Areas.{Area}
use Rattle.region_mem.specs.Parameter.{Argument}
use Rattle.region_mem.specs.Memory.{arg_with, left_after, args_with}
use Rattle.region_mem.proofs.Lists.{eight}

-- What each place gets, and what is left after it, is what they all get.
pub args_eight : (places : List Passed) (other : Passed) (b0 b1 b2 b3 b4 b5 b6 b7 : List Area) (a0 a1 a2 a3 a4 a5 a6 a7 : Argument) → length places ≡ 8 →
    a0 ≡ arg_with (get_or places 0 other) b0 → b1 ≡ left_after (get_or places 0 other) b0 →
    a1 ≡ arg_with (get_or places 1 other) b1 → b2 ≡ left_after (get_or places 1 other) b1 →
    a2 ≡ arg_with (get_or places 2 other) b2 → b3 ≡ left_after (get_or places 2 other) b2 →
    a3 ≡ arg_with (get_or places 3 other) b3 → b4 ≡ left_after (get_or places 3 other) b3 →
    a4 ≡ arg_with (get_or places 4 other) b4 → b5 ≡ left_after (get_or places 4 other) b4 →
    a5 ≡ arg_with (get_or places 5 other) b5 → b6 ≡ left_after (get_or places 5 other) b5 →
    a6 ≡ arg_with (get_or places 6 other) b6 → b7 ≡ left_after (get_or places 6 other) b6 →
    a7 ≡ arg_with (get_or places 7 other) b7 →
    a0 ∷ a1 ∷ a2 ∷ a3 ∷ a4 ∷ a5 ∷ a6 ∷ a7 ∷ [] ≡ args_with places b0
unfolding args_with
args_eight places other b0 b1 b2 b3 b4 b5 b6 b7 a0 a1 a2 a3 a4 a5 a6 a7 n v0 l0 v1 l1 v2 l2 v3 l3 v4 l4 v5 l5 v6 l6 v7 =
    rw (eight places other n) (cc)
