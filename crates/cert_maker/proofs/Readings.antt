-- What the steps of a reading gave, and what argument registers hold.
use Rattle.std.proofs.Common.{◌≡◌, ℕ, ◌+◌, ◌-◌, ◌<◌, ◌≤◌, Bool, true, false, ◌&&◌, refl, sym, ap, ◌∙◌, arith, Option, Some, None, List, replicate}
use Rattle.std.specs.Prelude.{Result, Ok, Err, if◌then◌else◌, nat_le, nat_lt, unwrap_or, ok_or}
use Rattle.std.specs.List.{slice_get}
use Rattle.std.specs.Option.{option_and_then}
use Rattle.std.proofs.lemmas.Bool.Decides.{nat_tests}
use Rattle.std.proofs.lemmas.List.{get_or-replicate}
use Rattle.std.proofs.lemmas.Bool.{and_parts}
use Rattle.elf_image.specs.Image.{ImageView}
use Rattle.rv_decode.specs.declared.instructions.Insn.{Insn}
use Rattle.region_mem.specs.declared.parameter.Param.{Param}
use Rattle.cert_maker.specs.declared.loops.Loop.{Loop}
use Rattle.cert_maker.specs.Loops.{◌>>=◌, parameter_in, is_flagged, insn_at, read_at}
use Rattle.cert_maker.proofs.Flags.{flag_at}

pub some_is : {A : Type 0} (x y : A) → Some x ≡ Some y → x ≡ y
some_is {A} x y e = ap (λ (o : Option A). unwrap_or o x) e

-- ---- argument registers

in_place : (r : ℕ) → (nat_le 10 r && nat_lt r 18) ≡ true → (10 ≤ r) × (r < 18)
in_place r e = (let tests = and_parts _ _ e in (first tests.0, second tests.1))
  where
    first : nat_le 10 r ≡ true → 10 ≤ r
    first f = grind (arith, nat_tests)

    second : nat_lt r 18 ≡ true → r < 18
    second f = grind (arith, nat_tests)

pub parameter_there : (params : List Param) (r : ℕ) (p : Param) → parameter_in params r ≡ Some p
    → (10 ≤ r) × (r < 18) × (slice_get params (r - 10) ≡ Some p)
unfolding parameter_in
parameter_there params r p e = by_test (nat_le 10 r && nat_lt r 18) refl e
  where
    by_test : (t : Bool) → (nat_le 10 r && nat_lt r 18) ≡ t → (if t then slice_get params (r - 10) else None) ≡ Some p
        → (10 ≤ r) × (r < 18) × (slice_get params (r - 10) ≡ Some p)
    by_test true t f = (let is = in_place r t in (is.0, is.1, f))
    by_test false t f = absurd (cc)

pub none_flagged : (place : ℕ) → place < 8 → is_flagged (place + 10) (replicate 8 false) ≡ true → ⊥
none_flagged place l e =
    let none : false ≡ true = sym (get_or-replicate 8 place false false l) ∙ sym (flag_at place (replicate 8 false) l) ∙ e in
    cc

-- ---- answers

abbrev answered : Loop × ℕ → Result (Loop × ℕ) ℕ
answered x = Ok x

pub through_is : (x y : Loop × ℕ) → answered x ≡ answered y → x ≡ y
through_is x y e = cc

-- what an answer followed
pub followed : {X Y : Type 0} (x : Result X ℕ) (f : X → Result Y ℕ) (y : Y) → (x >>= f) ≡ Ok y → (z : X) × (x ≡ Ok z) × (f z ≡ Ok y)
followed (Ok z) f y e = (z, refl, e)
followed (Err address) f y e = absurd (cc)

abbrev given : {X : Type 0} → X → Result X ℕ
given z = Ok z

read_same : {X : Type 0} (y z : X) → given y ≡ given z → y ≡ z
read_same y z f = cc

-- what was read at an address
pub read_is : {X : Type 0} (pc : ℕ) (wanted : Insn → Option X) (image : ImageView) (x : X) → read_at pc wanted image ≡ Ok x
    → (insn : Insn) × (insn_at pc image ≡ Some insn) × (wanted insn ≡ Some x)
read_is {X} pc wanted image x e = by_insn (insn_at pc image) refl e
  where
    by_wanted : (insn : Insn) (o : Option X) → wanted insn ≡ o → insn_at pc image ≡ Some insn → ok_or o pc ≡ Ok x
        → (insn : Insn) × (insn_at pc image ≡ Some insn) × (wanted insn ≡ Some x)
    by_wanted insn None w f g = absurd (cc)
    by_wanted insn (Some y) w f g = (insn, f, w ∙ ap (λ z. Some z) (read_same y x g))

    by_insn : (o : Option Insn) → insn_at pc image ≡ o → ok_or (option_and_then wanted o) pc ≡ Ok x
        → (insn : Insn) × (insn_at pc image ≡ Some insn) × (wanted insn ≡ Some x)
    by_insn None f g = absurd (cc)
    by_insn (Some insn) f g = by_wanted insn (wanted insn) refl f g
