-- A field that is read is the field that was written, and what was written is read again.
use Rattle.std.proofs.Common.{◌≡◌, ℕ, zero, suc, ◌^◌, ◌<◌, ◌≤◌, Bool, true, false, cond, ltb, eqb, List, [], ◌∷◌, ◌++◌, length, take, drop, Option, Some, None, Result, Ok, Err, refl, sym, ap, subst, ◌∙◌, append_assoc, arith}
use Rattle.std.specs.Prelude.{ok_or}
use Rattle.std.specs.Int.{Width, w16, w32, byte_len, from_le_bytes, to_le_bytes}
use Rattle.std.proofs.lemmas.Bool.{ltb-false, le-ltb}
use Rattle.std.proofs.lemmas.Bool.Decides.{nat_tests}
use Rattle.std.proofs.lemmas.List.{take_at, drop_at, take-append-drop, length-append, length-take}
use Rattle.std.proofs.lemmas.List.Concat.{flat_map-cons}
use Rattle.std.specs.List.{flat_map}
use Rattle.std.proofs.lemmas.Nat.{le_bytes_2, le_bytes_4, from_le_bytes-to_le_bytes_2, from_le_bytes-to_le_bytes_4}
use Rattle.cert_note.specs.declared.refusals.CertError.{CertError}
use Rattle.cert_note.specs.declared.refusals.CertError.TheVariants as error
use Rattle.cert_note.specs.declared.refusals.Fault.{Fault}
use Rattle.cert_note.specs.Certificate.{AllFrom}
use Rattle.elf_image.specs.Words.{half, word}
use Rattle.elf_image.specs.Words.{AreBytes}
use Rattle.elf_image.specs.ByteLemmas.{AreBytes-rest, AreBytes-take, AreBytes-drop}
use Rattle.cert_note.specs.Reading.{◌>>=◌, fault_of, expect, One, byte_at, number_at, zero_at, zeros_at, many_at}
use Rattle.cert_note.proofs.Loop.{none, more}

-- the value of a step that did not fail
pub bind_ok : {A B : Type 0} (r : Result A Fault) (f : A → Result B Fault) (y : B) → (r >>= f) ≡ Ok y → (x : A) × (r ≡ Ok x) × (f x ≡ Ok y)
bind_ok (Ok x) f y e = (x, refl, e)
bind_ok (Err d) f y e = absurd (cc)

-- The same, where what is proved of the value takes it as a variable: many steps then stay small terms.
pub after : {A B : Type 0} {P : Type 0} (r : Result A Fault) (f : A → Result B Fault) (y : B) → (r >>= f) ≡ Ok y → ((x : A) → r ≡ Ok x → f x ≡ Ok y → P) → P
after r f y e goes_on = let x = bind_ok r f y e in goes_on x.0 x.1 x.2

-- a condition that held
pub expected : {B : Type 0} (b : Bool) (e : CertError) (behind : List ℕ) (f : Unit {0} → Result B Fault) (y : B) → (expect b e behind >>= f) ≡ Ok y → (b ≡ true) × (f tt ≡ Ok y)
expected true e behind f y h = (refl, h)
expected false e behind f y h = absurd (cc)

pub meeting : {B P : Type 0} (b : Bool) (e : CertError) (behind : List ℕ) (f : Unit {0} → Result B Fault) (y : B) → (expect b e behind >>= f) ≡ Ok y → (b ≡ true → f tt ≡ Ok y → P) → P
meeting b e behind f y h goes_on = let x = expected b e behind f y h in goes_on x.0 x.1

-- a value that was there
pub found : {A B : Type 0} (o : Option A) (fault : Fault) (f : A → Result B Fault) (y : B) → (ok_or o fault >>= f) ≡ Ok y → (x : A) × (o ≡ Some x) × (f x ≡ Ok y)
found (Some x) fault f y e = (x, refl, e)
found None fault f y e = absurd (cc)

-- a test that did not fail
guard_ok : {A : Type 0} (b : Bool) (d : Fault) (x y : A) → cond b (Err d) (Ok x) ≡ Ok y → (b ≡ false) × (x ≡ y)
guard_ok true d x y e = absurd (cc)
guard_ok false d x y e = (refl, cc)

abbrev done : {A : Type 0} → A → Result A Fault
done x = Ok x

pub ok_is : {A : Type 0} (x y : A) → done x ≡ done y → x ≡ y
ok_is x y e = cc

-- what a reader took from the front
pub record Takes (bytes text rest : List ℕ) : Type 0 where
  pub parts : bytes ≡ text ++ rest
  pub rest_fits : AreBytes rest

pub Takes-then : (a x b y c : List ℕ) → Takes a x b → Takes b y c → Takes a (x ++ y) c
Takes-then a x b y c p q = record { parts = p.parts ∙ ap (λ (t : List ℕ). x ++ t) q.parts ∙ sym (append_assoc x y c); rest_fits = q.rest_fits }

-- ---- a byte

pub byte_takes : (bytes : List ℕ) (n : ℕ) (rest : List ℕ) → AreBytes bytes → byte_at bytes ≡ Ok (n, rest) → Takes bytes (n ∷ []) rest × (n < 256)
unfolding byte_at
byte_takes [] n rest fits e = absurd (cc)
byte_takes (b ∷ bytes) n rest fits e =
    subst (λ (x : ℕ × List ℕ). Takes (b ∷ bytes) (x.0 ∷ []) x.1 × (x.0 < 256)) (ok_is (b, bytes) (n, rest) e) (record { parts = refl; rest_fits = AreBytes-rest b bytes fits }, fits 0)

pub byte_again : (n : ℕ) (rest : List ℕ) → byte_at ((n ∷ []) ++ rest) ≡ Ok (n, rest)
unfolding byte_at
byte_again n rest = refl

-- ---- numbers

pub record IsWide (w : Width) (limit : ℕ) : Type 0 where
  pub len : (n : ℕ) → length (to_le_bytes w n) ≡ byte_len w
  pub back : (bytes : List ℕ) → length bytes ≡ byte_len w → AreBytes bytes → to_le_bytes w (from_le_bytes w bytes) ≡ bytes
  pub again : (n : ℕ) → n < limit → from_le_bytes w (to_le_bytes w n) ≡ n
  pub below : (bytes : List ℕ) → AreBytes bytes → from_le_bytes w bytes < limit

wide16 : IsWide w16 (2 ^ 16)
wide16 = record {
  len = λ n. refl;
  back = λ bytes len fits. le_bytes_2 bytes _ len fits refl;
  again = λ n lt. from_le_bytes-to_le_bytes_2 n lt;
  below = λ bytes fits. omega (arith, fits 0, fits 1);
}

wide32 : IsWide w32 (2 ^ 32)
wide32 = record {
  len = λ n. refl;
  back = λ bytes len fits. le_bytes_4 bytes _ len fits refl;
  again = λ n lt. from_le_bytes-to_le_bytes_4 n lt;
  below = λ bytes fits. omega (arith, fits 0, fits 1, fits 2, fits 3);
}

number_takes : (w : Width) (limit : ℕ) (wide : IsWide w limit) (bytes : List ℕ) (n : ℕ) (rest : List ℕ) → AreBytes bytes → number_at w bytes ≡ Ok (n, rest) → Takes bytes (to_le_bytes w n) rest × (n < limit)
unfolding number_at
number_takes w limit wide bytes n rest fits e =
    let g = guard_ok (ltb (length bytes) (byte_len w)) (fault_of error.Short []) (from_le_bytes w (take (byte_len w) bytes), drop (byte_len w) bytes) (n, rest) e in
    let long : byte_len w ≤ length bytes = ltb-false _ _ g.0 in
    let n-is : from_le_bytes w (take (byte_len w) bytes) ≡ n = ap (λ (p : ℕ × List ℕ). p.0) g.1 in
    let rest-is : drop (byte_len w) bytes ≡ rest = ap (λ (p : ℕ × List ℕ). p.1) g.1 in
    let front : to_le_bytes w n ≡ take (byte_len w) bytes = rw (← n-is) (wide.back (take (byte_len w) bytes) (omega (arith, length-take (byte_len w) bytes)) (AreBytes-take (byte_len w) bytes fits)) in
    (record { parts = rw (front, ← rest-is) (sym (take-append-drop (byte_len w) bytes)); rest_fits = rw (← rest-is) (AreBytes-drop (byte_len w) bytes fits) }, rw (← n-is) (wide.below (take (byte_len w) bytes) (AreBytes-take (byte_len w) bytes fits)))

number_again : (w : Width) (limit : ℕ) (wide : IsWide w limit) (n : ℕ) (rest : List ℕ) → n < limit → number_at w (to_le_bytes w n ++ rest) ≡ Ok (n, rest)
unfolding number_at
number_again w limit wide n rest lt =
    let len = wide.len n in
    let long : ltb (length (to_le_bytes w n ++ rest)) (byte_len w) ≡ false = le-ltb _ _ (omega (arith, length-append (to_le_bytes w n) rest)) in
    rw (long, take_at (to_le_bytes w n) rest (byte_len w) len, drop_at (to_le_bytes w n) rest (byte_len w) len, wide.again n lt) refl

pub half_takes : (bytes : List ℕ) (n : ℕ) (rest : List ℕ) → AreBytes bytes → number_at w16 bytes ≡ Ok (n, rest) → Takes bytes (half n) rest × (n < 2 ^ 16)
unfolding half
half_takes bytes n rest fits e = number_takes w16 (2 ^ 16) wide16 bytes n rest fits e

pub half_again : (n : ℕ) (rest : List ℕ) → n < 2 ^ 16 → number_at w16 (half n ++ rest) ≡ Ok (n, rest)
unfolding half
half_again n rest lt = number_again w16 (2 ^ 16) wide16 n rest lt

pub word_takes : (bytes : List ℕ) (n : ℕ) (rest : List ℕ) → AreBytes bytes → number_at w32 bytes ≡ Ok (n, rest) → Takes bytes (word n) rest × (n < 2 ^ 32)
unfolding word
word_takes bytes n rest fits e = number_takes w32 (2 ^ 32) wide32 bytes n rest fits e

pub word_again : (n : ℕ) (rest : List ℕ) → n < 2 ^ 32 → number_at w32 (word n ++ rest) ≡ Ok (n, rest)
unfolding word
word_again n rest lt = number_again w32 (2 ^ 32) wide32 n rest lt

-- ---- zeros

-- a number that was read is zero
blank_takes : (spelled : ℕ → List ℕ) (d : CertError) (bytes rest : List ℕ) (read : Result (ℕ × List ℕ) Fault) →
    ((n : ℕ) (after : List ℕ) → read ≡ Ok (n, after) → Takes bytes (spelled n) after) → (read >>= λ x. expect (eqb x.0 0) d x.1 >>= λ _. Ok x.1) ≡ Ok rest → Takes bytes (spelled 0) rest
blank_takes spelled d bytes rest read takes e =
    let b = bind_ok read _ rest e in
    let x = expected (eqb b.0.0 0) d _ _ rest b.2 in
    let none : b.0.0 ≡ 0 = grind (arith, nat_tests, x.0) in
    subst (λ (r : List ℕ). Takes bytes (spelled 0) r) (ok_is b.0.1 rest x.1) (subst (λ (n : ℕ). Takes bytes (spelled n) b.0.1) none (takes b.0.0 b.0.1 b.1))

pub zero_takes : (d : CertError) (bytes rest : List ℕ) → AreBytes bytes → zero_at d bytes ≡ Ok rest → Takes bytes (0 ∷ []) rest
unfolding zero_at
zero_takes d bytes rest fits e = blank_takes (λ n. n ∷ []) d bytes rest (byte_at bytes) (λ n after a. (byte_takes bytes n after fits a).0) e

pub zero_again : (d : CertError) (rest : List ℕ) → zero_at d ((0 ∷ []) ++ rest) ≡ Ok rest
unfolding zero_at byte_at
zero_again d rest = refl

pub zeros_takes : (d : CertError) (bytes rest : List ℕ) → AreBytes bytes → zeros_at d bytes ≡ Ok rest → Takes bytes (half 0) rest
unfolding zeros_at
zeros_takes d bytes rest fits e = blank_takes half d bytes rest (number_at w16 bytes) (λ n after a. (half_takes bytes n after fits a).0) e

pub zeros_again : (d : CertError) (rest : List ℕ) → zeros_at d (half 0 ++ rest) ≡ Ok rest
unfolding zeros_at
zeros_again d rest = rw (half_again 0 rest (omega arith)) refl

-- ---- lists

pub many_takes : {A : Type 0} (one : One A) (next : A → ℕ) (spelled : A → List ℕ) (Valid : ℕ → A → Type 0) →
    ((from : ℕ) (bytes : List ℕ) (x : A) (rest : List ℕ) → AreBytes bytes → one from bytes ≡ Ok (x, rest) → Takes bytes (spelled x) rest × Valid from x) →
    (n from : ℕ) (bytes : List ℕ) (xs : List A) (rest : List ℕ) → AreBytes bytes → many_at one next n from bytes ≡ Ok (xs, rest) →
    Takes bytes (flat_map spelled xs) rest × (length xs ≡ n) × AllFrom Valid next from xs
many_takes {A} one next spelled Valid each zero from bytes xs rest fits e =
    subst (λ (y : List A × List ℕ). Takes bytes (flat_map spelled y.0) y.1 × (length y.0 ≡ 0) × AllFrom Valid next from y.0) (ok_is ([], bytes) (xs, rest) (sym (none one next from bytes) ∙ e)) (record { parts = refl; rest_fits = fits }, refl, tt)
many_takes {A} one next spelled Valid each (suc n) from bytes xs rest fits e =
    let a = bind_ok (one from bytes) _ (xs, rest) (sym (more one next n from bytes) ∙ e) in
    let b = bind_ok (many_at one next n (next a.0.0) a.0.1) (λ others. Ok (a.0.0 ∷ others.0, others.1)) (xs, rest) a.2 in
    let first = each from bytes a.0.0 a.0.1 fits a.1 in
    let second = many_takes one next spelled Valid each n (next a.0.0) a.0.1 b.0.0 b.0.1 first.0.rest_fits b.1 in
    let both = Takes-then bytes (spelled a.0.0) a.0.1 (flat_map spelled b.0.0) b.0.1 first.0 second.0 in
    subst (λ (y : List A × List ℕ). Takes bytes (flat_map spelled y.0) y.1 × (length y.0 ≡ suc n) × AllFrom Valid next from y.0) (ok_is (a.0.0 ∷ b.0.0, b.0.1) (xs, rest) b.2) (rw flat_map-cons both, ap suc second.1, (first.1, second.2))

pub many_again : {A : Type 0} (one : One A) (next : A → ℕ) (spelled : A → List ℕ) (Valid : ℕ → A → Type 0) →
    ((from : ℕ) (x : A) (rest : List ℕ) → Valid from x → one from (spelled x ++ rest) ≡ Ok (x, rest)) →
    (from : ℕ) (xs : List A) (rest : List ℕ) → AllFrom Valid next from xs → many_at one next (length xs) from (flat_map spelled xs ++ rest) ≡ Ok (xs, rest)
many_again one next spelled Valid each from [] rest valid = none one next from rest
many_again one next spelled Valid each from (x ∷ xs) rest valid =
    let regrouped : flat_map spelled (x ∷ xs) ++ rest ≡ spelled x ++ (flat_map spelled xs ++ rest) = ap (λ (t : List ℕ). t ++ rest) (flat_map-cons spelled x xs) ∙ append_assoc (spelled x) (flat_map spelled xs) rest in
    ap (many_at one next (suc (length xs)) from) regrouped ∙ more one next (length xs) from (spelled x ++ (flat_map spelled xs ++ rest)) ∙ rw (each from x (flat_map spelled xs ++ rest) valid.0, many_again one next spelled Valid each (next x) xs rest valid.1) refl
