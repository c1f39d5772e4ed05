-- In which words sums modulo 2^32 are told.
use Rattle.std.specs.Prelude.{Bool, ℕ, ◌-◌, ◌^◌, ◌==◌, ◌++◌, nat_lt, List, [], ◌∷◌, codes, if◌then◌else◌}
use Rattle.std.specs.Fmt.{decimal}
use Rattle.std.specs.List.{flat_map}
use Rattle.linear_facts.specs.Forms.{Linear}
use Rattle.linear_facts.specs.declared.forms.Term.{Term}
use Rattle.abs_domain.specs.declared.numbers.TheConstants.{VL}
use Rattle.explanations.specs.Address.{address_text}
use Rattle.check_reasons.specs.declared.sums.TheConstants.{FRESH, PASSED}

-- a register, or vl
unfoldable pub name_text : ℕ → List ℕ
name_text number = if number == VL then codes "vl" else codes "x" ++ decimal number

-- an atom: a register or vl, the number that was passed at a place, or another number
unfoldable pub atom_text : ℕ → List ℕ
atom_text atom =
    if nat_lt atom PASSED then name_text atom
    else (if nat_lt atom FRESH then codes "param " ++ decimal (atom - PASSED)
    else codes "n" ++ decimal (atom - FRESH))

-- how many times a number is taken, in front of its name; once is not told
unfoldable pub times_text : ℕ → List ℕ
times_text k = if k == 1 then [] else decimal k ++ codes " * "

-- a coefficient from 2^31 on stands for what is taken away
abbrev pub less_of : Term → ℕ
less_of t = 2 ^ 32 - t.coefficient

abbrev pub is_added : Term → Bool
is_added t = nat_lt t.coefficient (2 ^ 31)

unfoldable pub term_text : Term → List ℕ
term_text t =
    if is_added t then codes " + " ++ (times_text t.coefficient ++ atom_text t.atom)
    else codes " - " ++ (times_text (less_of t) ++ atom_text t.atom)

-- the first term of a sum, where nothing stands before it
unfoldable pub first_text : Term → List ℕ
first_text t =
    if is_added t then times_text t.coefficient ++ atom_text t.atom
    else codes "-" ++ (times_text (less_of t) ++ atom_text t.atom)

unfoldable pub terms_text : List Term → List ℕ
terms_text terms = flat_map term_text terms

-- a constant of 0 has a text only where it stands alone
unfoldable pub sum_of : ℕ → List Term → List ℕ
sum_of constant [] = address_text constant
sum_of constant (t ∷ ts) =
    if constant == 0 then first_text t ++ terms_text ts
    else address_text constant ++ terms_text (t ∷ ts)

abbrev pub sum_text : Linear → List ℕ
sum_text s = sum_of s.constant s.terms
