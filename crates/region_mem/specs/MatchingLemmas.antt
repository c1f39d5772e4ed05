-- What arguments that match are like.
use Rattle.std.proofs.Common.{◌≡◌, ℕ, suc, ◌+◌, ◌≤◌, Bool, true, false, not, cond, List, [], ◌∷◌, length, Option, Some, None, ltb, arith, refl}
use Rattle.std.proofs.lemmas.Bool.{and_parts}
use Rattle.std.specs.List.{list_all, zip, position, position_or_len, AllByRecursion}
use Rattle.std.specs.Option.{option_map, option_or}
use Rattle.std.proofs.lemmas.Bool.Decides.{nat_tests}
use Rattle.region_mem.specs.Words.{Param, Arg, MAX_BUFFER_SIZE}
use Rattle.region_mem.specs.Parameter.{Argument, is_valid, is_wrong_kind, is_wrong_size, argument_error, size_of}

-- Nothing passes.
abbrev pub NonePasses : {X : Type 0} → (X → Bool) → List X → Type 0
NonePasses p [] = Unit {0}
NonePasses p (x ∷ xs) = (p x ≡ false) × NonePasses p xs

position_cons : {X : Type 0} (p : X → Bool) (x : X) (xs : List X) (b : Bool) (n k : ℕ) →
    cond (ltb (cond (not b) (1 + n) 0) (suc k)) (Some (cond (not b) (1 + n) 0)) None ≡ None → (b ≡ false) × (cond (ltb n k) (Some n) None ≡ None)
position_cons p x xs true n k h = absurd (grind (arith, nat_tests, h))
position_cons p x xs false n k h = (refl, grind (arith, nat_tests, h))

pub none_passes : {X : Type 0} (p : X → Bool) (xs : List X) → position p xs ≡ None → NonePasses p xs
none_passes p [] h = tt
none_passes p (x ∷ xs) h =
    let both = position_cons p x xs (p x) (position_or_len p xs) (length xs) h in (both.0, none_passes p xs both.1)

pub or_none : {X : Type 0} (o p : Option X) → option_or o p ≡ None → (o ≡ None) × (p ≡ None)
or_none None p h = (refl, h)
or_none (Some x) p h = absurd (cc)

pub map_none : {X Y : Type 0} (f : X → Y) (o : Option X) → option_map f o ≡ None → o ≡ None
map_none f None h = refl
map_none f (Some x) h = absurd (cc)

size_small : (param : Param) (arg : Argument) → is_valid param ≡ true → is_wrong_kind (param, arg) ≡ false → is_wrong_size (param, arg) ≡ false → size_of arg ≤ MAX_BUFFER_SIZE
unfolding is_valid is_wrong_kind is_wrong_size size_of
size_small param Arg.None v k s = omega arith
size_small param (Arg.Scalar value) v k s = omega arith
size_small Param.None (Arg.Buffer bytes) v k s = absurd (cc)
size_small (Param.Scalar lo hi) (Arg.Buffer bytes) v k s = absurd (cc)
size_small (Param.Buffer mode size) (Arg.Buffer bytes) v k s = grind (arith, nat_tests)

pub sizes_small : (params : List Param) (args : List Argument) → list_all is_valid params ≡ true → length args ≤ length params →
    NonePasses is_wrong_kind (zip params args) → NonePasses is_wrong_size (zip params args) → AllByRecursion (λ arg. size_of arg ≤ MAX_BUFFER_SIZE) args
sizes_small params [] v few kinds sizes = tt
sizes_small [] (arg ∷ args) v few kinds sizes = absurd (omega arith)
sizes_small (param ∷ params) (arg ∷ args) v few kinds sizes =
    let less : length args ≤ length params = omega arith in
    (size_small param arg (and_parts _ _ v).0 kinds.0 sizes.0, sizes_small params args (and_parts _ _ v).1 less kinds.1 sizes.1)

-- Of arguments that match no kind and no size is wrong.
pub nothing_wrong : (params : List Param) (args : List Argument) → argument_error params args ≡ None →
    NonePasses is_wrong_kind (zip params args) × NonePasses is_wrong_size (zip params args)
unfolding argument_error
nothing_wrong params args h =
    let kind = or_none _ _ h in
    let rest = or_none _ _ kind.1 in
    (none_passes _ _ (map_none _ _ kind.0), none_passes _ _ (map_none _ _ rest.1))

-- Buffers that match have at most 16 MiB.
pub sizes_of_matching : (params : List Param) (args : List Argument) → list_all is_valid params ≡ true → length args ≤ length params →
    argument_error params args ≡ None → AllByRecursion (λ arg. size_of arg ≤ MAX_BUFFER_SIZE) args
sizes_of_matching params args v few h =
    let wrong = nothing_wrong params args h in sizes_small params args v few wrong.0 wrong.1
