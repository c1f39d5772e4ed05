-- Elements of another width, by the lanes' words and by those of the elements.
use Rattle.std.proofs.Common.{◌≡◌, ℕ, List, [], ◌∷◌, refl, map}
use Rattle.std.specs.Int.{Width}

pub resized_numbers : {A : Type 0} (lane number : A → ℕ) (resized : Width → Width → ℕ → ℕ) (n narrow w wide : Width) (xs : List A) → n ≡ narrow → w ≡ wide → lane ≡ number → map (λ a. resized n w (lane a)) xs ≡ map (resized narrow wide) (map number xs)
resized_numbers lane number resized n narrow w wide [] en ew law = refl
resized_numbers lane number resized n narrow w wide (x ∷ xs) en ew law =
    let tail = resized_numbers lane number resized n narrow w wide xs en ew law in cc
