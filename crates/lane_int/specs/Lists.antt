-- Two words on lists that the kernels' clauses cite beside `zip2` of the standard library.
use Rattle.std.specs.Prelude.{List, [], ◌∷◌}

-- f of the elements of three lists, one from each
abbrev pub zip3 : {A B C D : Type 0} → (A → B → C → D) → List A → List B → List C → List D
zip3 f [] ys zs = []
zip3 f (x ∷ xs) [] zs = []
zip3 f (x ∷ xs) (y ∷ ys) [] = []
zip3 f (x ∷ xs) (y ∷ ys) (z ∷ zs) = f x y z ∷ zip3 f xs ys zs
