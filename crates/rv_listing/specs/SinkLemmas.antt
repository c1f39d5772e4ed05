-- What a text's parts leave in a sink, one after the other.
use Rattle.std.proofs.Common.{◌≡◌, ◌+◌, ◌-◌, ◌<◌, ◌∙◌, ℕ, zero, suc, Bool, true, false, List, [], ◌∷◌, ◌++◌, take, drop, length, Option, Some, None, Result, Ok, Err, refl, sym, ap, subst, append_assoc, arith}
use Rattle.std.proofs.lemmas.List.{append-nil, length-drop, take-append-drop, take_all}
use Rattle.std.proofs.Math.Seq.{take-add}
use Rattle.std.specs.Io.KnownBytes.{Appends, Keeps}
use Rattle.std.specs.Result.{IsErr}
use Rattle.rv_listing.specs.Sinks.{AppendsSome, IsCounted, Told, counted, has_failed}

pub appends_both : (a b c : Option (List ℕ)) (xs ys : List ℕ) → Appends a b xs → Appends b c ys → Appends a c (xs ++ ys)
appends_both None b c xs ys first more = tt
appends_both (Some p) None c xs ys first more = absurd first
appends_both (Some p) (Some q) None xs ys first more = absurd more
appends_both (Some p) (Some q) (Some r) xs ys first more = more ∙ (ap (λ l. l ++ ys) first ∙ append_assoc p xs ys)

pub keeps_appends : (a b : Option (List ℕ)) → Keeps a b → Appends a b []
keeps_appends None b same = tt
keeps_appends (Some p) None same = absurd same
keeps_appends (Some p) (Some q) same = same ∙ sym (append-nil p)

pub failure_counted : (n : ℕ) → IsCounted n (counted true n)
failure_counted n = grind arith

-- ---- a text, some bytes at a time

-- n more bytes of a text, with `done` of it written
pub appends_more : (a b c : Option (List ℕ)) (text : List ℕ) (done n : ℕ)
    → Appends a b (take done text) → Appends b c (take n (drop done text)) → Appends a c (take (done + n) text)
appends_more a b c text done n first more = rw (take-add done n text) (appends_both a b c _ _ first more)

-- the rest is not written
pub appends_some : (a b c : Option (List ℕ)) (text : List ℕ) (done : ℕ)
    → Appends a b (take done text) → Keeps b c → AppendsSome a c text
appends_some a b c text done first same =
    record {
      written = take done text ++ [];
      rest = drop done text;
      whole = rw (append-nil (take done text)) (take-append-drop done text);
      told = appends_both a b c _ _ first (keeps_appends b c same);
    }

-- ---- which writes fail

pub none_taken : (E : Type 0) (n : ℕ) (bytes : List ℕ) → n ≡ 0 → 0 < length bytes → has_failed {E = E} (Ok n) bytes ≡ true
none_taken E n [] none some = absurd (omega (arith, some))
none_taken E zero (byte ∷ bytes) none some = refl
none_taken E (suc n) (byte ∷ bytes) none some = absurd (omega (arith, none))

pub some_taken : (E : Type 0) (n : ℕ) (bytes : List ℕ) → ¬ (n ≡ 0) → has_failed {E = E} (Ok n) bytes ≡ false
some_taken E n [] some = refl
some_taken E zero (byte ∷ bytes) some = absurd (some refl)
some_taken E (suc n) (byte ∷ bytes) some = refl

pub counted_is : (failed : Bool) (old new before : ℕ) → new ≡ counted failed old → old ≡ before → failed ≡ true → IsCounted before new
counted_is failed old new before is same fails = rw (is, same, fails) (failure_counted before)

-- what is not written of a text, as a slice from `done` on
pub rest_is : (text : List ℕ) (done : ℕ) → take (length text - done) (drop done text) ≡ drop done text
rest_is text done = take_all (length text - done) (drop done text) (omega (arith, length-drop done text))

-- a write that took none of the rest
pub none_more : (a b c : Option (List ℕ)) (text : List ℕ) (done n : ℕ) (rest : List ℕ)
    → Appends a b (take done text) → n ≡ 0 → Appends b c (take n rest) → AppendsSome a c text
none_more a b c text done n rest first none more =
    record {
      written = take done text ++ [];
      rest = drop done text;
      whole = rw (append-nil (take done text)) (take-append-drop done text);
      told = appends_both a b c _ _ first (let P : ℕ → Type 0 = λ k. Appends b c (take k rest) in subst P none more);
    }

pub same_count : (E : Type 0) (n : ℕ) (rest : List ℕ) (old new before : ℕ)
    → ¬ (n ≡ 0) → new ≡ counted (has_failed {E = E} (Ok n) rest) old → old ≡ before → new ≡ before
same_count E n rest old new before some is same =
    let ok = some_taken E n rest some in
    rw (is, ok) same

-- ---- texts, one after the other

pub told_then : {E : Type 0} (r : Result (Unit {0}) E) (a b c : Option (List ℕ)) (k m n : ℕ) (xs ys : List ℕ)
    → Appends a b xs × (m ≡ k) → Told r b c m n ys → Told r a c k n (xs ++ ys)
told_then (Ok done) a b c k m n xs ys first more = (appends_both a b c xs ys first.0 more.0, more.1 ∙ first.1)
told_then (Err e) a b c k m n xs ys first more = (
  record {
    written = xs ++ more.0.written;
    rest = more.0.rest;
    whole = append_assoc xs more.0.written more.0.rest ∙ ap (λ l. xs ++ l) more.0.whole;
    told = appends_both a b c xs more.0.written first.0 more.0.told;
  },
  rw (← first.1) more.1,
)

pub told_part : (a b : Option (List ℕ)) (k n : ℕ) (xs ys : List ℕ)
    → AppendsSome a b xs × IsCounted k n → AppendsSome a b (xs ++ ys) × IsCounted k n
told_part a b k n xs ys part = (
  record {
    written = part.0.written;
    rest = part.0.rest ++ ys;
    whole = sym (append_assoc part.0.written part.0.rest ys) ∙ ap (λ l. l ++ ys) part.0.whole;
    told = part.0.told;
  },
  part.1,
)

-- a failure that is handed on
pub told_err : {E : Type 0} (r : Result (Unit {0}) E) (a b : Option (List ℕ)) (k n : ℕ) (xs : List ℕ)
    → IsErr r → AppendsSome a b xs × IsCounted k n → Told r a b k n xs
told_err (Ok done) a b k n xs is part = absurd (let f = is in cc)
told_err (Err e) a b k n xs is part = part

-- ---- what a writer keeps

pub kept_same : (a : Option (List ℕ)) → Keeps a a
kept_same None = tt
kept_same (Some p) = refl
