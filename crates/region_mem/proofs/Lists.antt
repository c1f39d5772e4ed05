-- Lists of eight.
use Rattle.std.proofs.Common.{◌≡◌, List, [], ◌∷◌, length, map, get_or, arith, refl}

-- A list of eight is the eight elements that were found in it.
pub eight_found : {X : Type 0} (xs : List X) (a b c d e f g h : X) → length xs ≡ 8 → a ≡ get_or xs 0 a → b ≡ get_or xs 1 b → c ≡ get_or xs 2 c → d ≡ get_or xs 3 d → e ≡ get_or xs 4 e → f ≡ get_or xs 5 f → g ≡ get_or xs 6 g → h ≡ get_or xs 7 h → xs ≡ a ∷ b ∷ c ∷ d ∷ e ∷ f ∷ g ∷ h ∷ []
eight_found (x0 ∷ x1 ∷ x2 ∷ x3 ∷ x4 ∷ x5 ∷ x6 ∷ x7 ∷ []) a b c d e f g h n e0 e1 e2 e3 e4 e5 e6 e7 = cc
eight_found [] a b c d e f g h n e0 e1 e2 e3 e4 e5 e6 e7 = absurd (omega arith)
eight_found (x0 ∷ []) a b c d e f g h n e0 e1 e2 e3 e4 e5 e6 e7 = absurd (omega arith)
eight_found (x0 ∷ x1 ∷ []) a b c d e f g h n e0 e1 e2 e3 e4 e5 e6 e7 = absurd (omega arith)
eight_found (x0 ∷ x1 ∷ x2 ∷ []) a b c d e f g h n e0 e1 e2 e3 e4 e5 e6 e7 = absurd (omega arith)
eight_found (x0 ∷ x1 ∷ x2 ∷ x3 ∷ []) a b c d e f g h n e0 e1 e2 e3 e4 e5 e6 e7 = absurd (omega arith)
eight_found (x0 ∷ x1 ∷ x2 ∷ x3 ∷ x4 ∷ []) a b c d e f g h n e0 e1 e2 e3 e4 e5 e6 e7 = absurd (omega arith)
eight_found (x0 ∷ x1 ∷ x2 ∷ x3 ∷ x4 ∷ x5 ∷ []) a b c d e f g h n e0 e1 e2 e3 e4 e5 e6 e7 = absurd (omega arith)
eight_found (x0 ∷ x1 ∷ x2 ∷ x3 ∷ x4 ∷ x5 ∷ x6 ∷ []) a b c d e f g h n e0 e1 e2 e3 e4 e5 e6 e7 = absurd (omega arith)
eight_found (x0 ∷ x1 ∷ x2 ∷ x3 ∷ x4 ∷ x5 ∷ x6 ∷ x7 ∷ x8 ∷ xs) a b c d e f g h n e0 e1 e2 e3 e4 e5 e6 e7 = absurd (omega arith)

-- The image of a list of eight, from the images of what was found in it.
pub map_eight : {X Y : Type 0} (image : X → Y) (xs : List X) (y0 y1 y2 y3 y4 y5 y6 y7 : Y) (a b c d e f g h : X) → length xs ≡ 8 → y0 ≡ image (get_or xs 0 a) → y1 ≡ image (get_or xs 1 b) → y2 ≡ image (get_or xs 2 c) → y3 ≡ image (get_or xs 3 d) → y4 ≡ image (get_or xs 4 e) → y5 ≡ image (get_or xs 5 f) → y6 ≡ image (get_or xs 6 g) → y7 ≡ image (get_or xs 7 h) → y0 ∷ y1 ∷ y2 ∷ y3 ∷ y4 ∷ y5 ∷ y6 ∷ y7 ∷ [] ≡ map image xs
map_eight image (x0 ∷ x1 ∷ x2 ∷ x3 ∷ x4 ∷ x5 ∷ x6 ∷ x7 ∷ []) y0 y1 y2 y3 y4 y5 y6 y7 a b c d e f g h n e0 e1 e2 e3 e4 e5 e6 e7 = cc
map_eight image [] y0 y1 y2 y3 y4 y5 y6 y7 a b c d e f g h n e0 e1 e2 e3 e4 e5 e6 e7 = absurd (omega arith)
map_eight image (x0 ∷ []) y0 y1 y2 y3 y4 y5 y6 y7 a b c d e f g h n e0 e1 e2 e3 e4 e5 e6 e7 = absurd (omega arith)
map_eight image (x0 ∷ x1 ∷ []) y0 y1 y2 y3 y4 y5 y6 y7 a b c d e f g h n e0 e1 e2 e3 e4 e5 e6 e7 = absurd (omega arith)
map_eight image (x0 ∷ x1 ∷ x2 ∷ []) y0 y1 y2 y3 y4 y5 y6 y7 a b c d e f g h n e0 e1 e2 e3 e4 e5 e6 e7 = absurd (omega arith)
map_eight image (x0 ∷ x1 ∷ x2 ∷ x3 ∷ []) y0 y1 y2 y3 y4 y5 y6 y7 a b c d e f g h n e0 e1 e2 e3 e4 e5 e6 e7 = absurd (omega arith)
map_eight image (x0 ∷ x1 ∷ x2 ∷ x3 ∷ x4 ∷ []) y0 y1 y2 y3 y4 y5 y6 y7 a b c d e f g h n e0 e1 e2 e3 e4 e5 e6 e7 = absurd (omega arith)
map_eight image (x0 ∷ x1 ∷ x2 ∷ x3 ∷ x4 ∷ x5 ∷ []) y0 y1 y2 y3 y4 y5 y6 y7 a b c d e f g h n e0 e1 e2 e3 e4 e5 e6 e7 = absurd (omega arith)
map_eight image (x0 ∷ x1 ∷ x2 ∷ x3 ∷ x4 ∷ x5 ∷ x6 ∷ []) y0 y1 y2 y3 y4 y5 y6 y7 a b c d e f g h n e0 e1 e2 e3 e4 e5 e6 e7 = absurd (omega arith)
map_eight image (x0 ∷ x1 ∷ x2 ∷ x3 ∷ x4 ∷ x5 ∷ x6 ∷ x7 ∷ x8 ∷ xs) y0 y1 y2 y3 y4 y5 y6 y7 a b c d e f g h n e0 e1 e2 e3 e4 e5 e6 e7 = absurd (omega arith)

-- A list of eight is its eight elements.
pub eight : {X : Type 0} (xs : List X) (d : X) → length xs ≡ 8 → xs ≡ get_or xs 0 d ∷ get_or xs 1 d ∷ get_or xs 2 d ∷ get_or xs 3 d ∷ get_or xs 4 d ∷ get_or xs 5 d ∷ get_or xs 6 d ∷ get_or xs 7 d ∷ []
eight (x0 ∷ x1 ∷ x2 ∷ x3 ∷ x4 ∷ x5 ∷ x6 ∷ x7 ∷ []) d n = refl
eight [] d n = absurd (omega arith)
eight (x0 ∷ []) d n = absurd (omega arith)
eight (x0 ∷ x1 ∷ []) d n = absurd (omega arith)
eight (x0 ∷ x1 ∷ x2 ∷ []) d n = absurd (omega arith)
eight (x0 ∷ x1 ∷ x2 ∷ x3 ∷ []) d n = absurd (omega arith)
eight (x0 ∷ x1 ∷ x2 ∷ x3 ∷ x4 ∷ []) d n = absurd (omega arith)
eight (x0 ∷ x1 ∷ x2 ∷ x3 ∷ x4 ∷ x5 ∷ []) d n = absurd (omega arith)
eight (x0 ∷ x1 ∷ x2 ∷ x3 ∷ x4 ∷ x5 ∷ x6 ∷ []) d n = absurd (omega arith)
eight (x0 ∷ x1 ∷ x2 ∷ x3 ∷ x4 ∷ x5 ∷ x6 ∷ x7 ∷ x8 ∷ xs) d n = absurd (omega arith)
