-- What a loop over the accesses of an instruction keeps.
use Rattle.std.proofs.Common.{◌≡◌, ℕ, ◌+◌, ◌^◌, ◌<◌, Bool, true, false, List, ◌∷◌, Option, Some, None, drop, get_or, length, map, set, ap, sym, ◌∙◌, refl, cond, replicate, zero, suc}
use Rattle.std.specs.Prelude.{find, not, unwrap_or, if◌then◌else◌}
use Rattle.std.specs.Option.{option_map}
use Rattle.std.proofs.Math.Nat.{zero-mod}
use Rattle.std.proofs.lemmas.List.{drop_more, map-set}
use Rattle.region_mem.specs.Memory.{Memory, is_permitted, load_of, store_of}
use Rattle.region_mem.specs.declared.faults.Right.{Right}
use Rattle.region_mem.specs.declared.faults.Right.TheVariants.{Read}
use Rattle.vector_mem.specs.declared.plan.Access.{Access}
use Rattle.vector_mem.specs.Accesses.{is_refused, low_bits, with_loaded, with_stored}

-- a load that gives nothing was refused, one that gives a number was not
not_permitted : (b : Bool) (n : ℕ) → (if b then Some n else None) ≡ None → b ≡ false
not_permitted true n e = absurd cc
not_permitted false n e = refl

is_granted : (b : Bool) (n value : ℕ) → (if b then Some n else None) ≡ Some value → b ≡ true
is_granted true n value e = refl
is_granted false n value e = absurd cc

refuses : (memory : Memory) (a : Access) → a.right ≡ Read → load_of a.address a.size memory ≡ None → is_refused memory a ≡ true
unfolding load_of
refuses memory a right e =
    ap (λ (r : Right). not (is_permitted r a.address a.size memory)) right
    ∙ ap not (not_permitted (is_permitted Read a.address a.size memory) _ e)

grants : (memory : Memory) (a : Access) (value : ℕ) → a.right ≡ Read → load_of a.address a.size memory ≡ Some value → is_refused memory a ≡ false
unfolding load_of
grants memory a value right e =
    ap (λ (r : Right). not (is_permitted r a.address a.size memory)) right
    ∙ ap not (is_granted (is_permitted Read a.address a.size memory) _ value e)

-- the first access from place i on that is refused: this one, or a later one
pub refused_here : (memory : Memory) (list : List Access) (i size : ℕ) (d : Access) → i < length list →
    (get_or list i d).right ≡ Read → (get_or list i d).size ≡ size → load_of (get_or list i d).address size memory ≡ None →
    Some (get_or list i d).address ≡ option_map (λ a. a.address) (find (is_refused memory) (drop i list))
refused_here memory list i size d h right sized none =
    let a = get_or list i d in
    let e : load_of a.address a.size memory ≡ None = cc in
    let rest = drop (i + 1) list in
    sym (ap (λ (b : Bool). option_map (λ a. a.address) (cond b (Some a) (find (is_refused memory) rest))) (refuses memory a right e))
    ∙ sym (ap (λ l. option_map (λ a. a.address) (find (is_refused memory) l)) (drop_more list i d h))

pub granted_here : (memory : Memory) (list : List Access) (i size value : ℕ) (d : Access) → i < length list →
    (get_or list i d).right ≡ Read → (get_or list i d).size ≡ size → load_of (get_or list i d).address size memory ≡ Some value →
    find (is_refused memory) (drop (i + 1) list) ≡ find (is_refused memory) (drop i list)
granted_here memory list i size value d h right sized some =
    let a = get_or list i d in
    let e : load_of a.address a.size memory ≡ Some value = cc in
    let rest = drop (i + 1) list in
    sym (ap (λ (b : Bool). cond b (Some a) (find (is_refused memory) rest)) (grants memory a value right e))
    ∙ sym (ap (find (is_refused memory)) (drop_more list i d h))

-- one more element was loaded, and one more stored
pub loaded_here : {E : Type 0} (number : E → ℕ) (memory : Memory) (values : List E) (new : E) (size value : ℕ) (a : Access) →
    a.size ≡ size → load_of a.address size memory ≡ Some value → number new ≡ low_bits size value →
    map number (set values a.element new) ≡ with_loaded memory (map number values) a
loaded_here number memory values new size value a sized is h =
    let there : load_of a.address a.size memory ≡ Some value = cc in
    let result : low_bits a.size (unwrap_or (load_of a.address a.size memory) 0) ≡ low_bits a.size value =
    ap (λ (o : Option ℕ). low_bits a.size (unwrap_or o 0)) there in
    let number_is : number new ≡ low_bits a.size (unwrap_or (load_of a.address a.size memory) 0) = cc in
    map-set number values a.element new ∙ ap (set (map number values) a.element) number_is

pub stored_here : (memory next : Memory) (values : List ℕ) (size value : ℕ) (a : Access) →
    a.size ≡ size → value ≡ get_or values a.element 0 → next ≡ unwrap_or (store_of a.address size value memory) memory →
    next ≡ with_stored values memory a
stored_here memory next values size value a sized is h = cc

-- the number of an element, as many times
pub splat_numbers : {A : Type 0} (number : A → ℕ) (n : ℕ) (x : A) (y : ℕ) → number x ≡ y → map number (replicate n x) ≡ replicate n y
splat_numbers number zero x y is = refl
splat_numbers number (suc n) x y is = let rest = splat_numbers number n x y is in cc

pub zero_bits : (size : ℕ) → low_bits size 0 ≡ 0
unfolding low_bits
zero_bits size = zero-mod (256 ^ size)

-- of a list of accesses the first is refused, or it is not
pub refused_first : (memory : Memory) (a : Access) (rest list : List Access) (size : ℕ) → a.right ≡ Read → a.size ≡ size →
    load_of a.address size memory ≡ None → list ≡ a ∷ rest → Some a.address ≡ option_map (λ a. a.address) (find (is_refused memory) list)
refused_first memory a rest list size right sized none is =
    let e : load_of a.address a.size memory ≡ None = cc in
    sym (ap (λ (b : Bool). option_map (λ a. a.address) (cond b (Some a) (find (is_refused memory) rest))) (refuses memory a right e))
    ∙ sym (ap (λ l. option_map (λ a. a.address) (find (is_refused memory) l)) is)

pub granted_first : (memory : Memory) (a : Access) (rest list : List Access) (size value : ℕ) → a.right ≡ Read → a.size ≡ size →
    load_of a.address size memory ≡ Some value → list ≡ a ∷ rest → find (is_refused memory) rest ≡ find (is_refused memory) list
granted_first memory a rest list size value right sized some is =
    let e : load_of a.address a.size memory ≡ Some value = cc in
    sym (ap (λ (b : Bool). cond b (Some a) (find (is_refused memory) rest)) (grants memory a value right e))
    ∙ sym (ap (find (is_refused memory)) is)

-- the same where it was asked whether it is permitted
pub tested_first : (memory : Memory) (a : Access) (rest list : List Access) → is_permitted a.right a.address a.size memory ≡ false →
    list ≡ a ∷ rest → Some a.address ≡ option_map (λ a. a.address) (find (is_refused memory) list)
tested_first memory a rest list denied is =
    sym (ap (λ (b : Bool). option_map (λ a. a.address) (cond (not b) (Some a) (find (is_refused memory) rest))) denied)
    ∙ sym (ap (λ l. option_map (λ a. a.address) (find (is_refused memory) l)) is)

pub passed_first : (memory : Memory) (a : Access) (rest list : List Access) → is_permitted a.right a.address a.size memory ≡ true →
    list ≡ a ∷ rest → find (is_refused memory) rest ≡ find (is_refused memory) list
passed_first memory a rest list granted is =
    sym (ap (λ (b : Bool). cond (not b) (Some a) (find (is_refused memory) rest)) granted)
    ∙ sym (ap (find (is_refused memory)) is)
