-- Which registers have an equality, as a table that is filled fact by fact.
use Rattle.std.proofs.Common.{◌≡◌, ℕ, ◌+◌, ◌<◌, ◌==◌, ◌&&◌, ◌||◌, Bool, true, false, not, List, [], ◌∷◌, length, get_or, set, take, replicate, zero, suc, Option, Some, None, is_some, inl, inr, refl, ap, sym, ◌∙◌}
use Rattle.std.specs.List.{list_all, list_any}
use Rattle.std.proofs.lemmas.Bool.Decides.{eqb_tells}
use Rattle.std.proofs.lemmas.List.{take_more, get_or-set_same, get_or-set_other}
use Rattle.std.proofs.lemmas.List.Folds.{list_any-append}
use Rattle.std.proofs.Math.Bool.{or-true, or-false}
use Rattle.cert_note.specs.Words.{RegisterFact, Equality}
use Rattle.cert_note.specs.Certificate.{is_equated, is_free, are_free, has_no_atom}

one_more : (facts : List RegisterFact) (i : ℕ) (fact : RegisterFact) (n : ℕ) → i < length facts → fact ≡ get_or facts i fact
    → is_equated (take (i + 1) facts) n ≡ (is_equated (take i facts) n || (((fact.number == n) && is_some fact.equality) || false))
unfolding is_equated
one_more facts i fact n inside is =
    ap (λ l. list_any (λ f. (f.number == n) && is_some f.equality) l) (take_more facts i fact inside)
    ∙ list_any-append (λ f. (f.number == n) && is_some f.equality) (take i facts) (get_or facts i fact ∷ [])
    ∙ ap (λ f. is_equated (take i facts) n || (((f.number == n) && is_some f.equality) || false)) (sym is)

-- one fact is noted
pub marked : (facts : List RegisterFact) (i : ℕ) (fact : RegisterFact) (found new : List Bool) → i < length facts → fact ≡ get_or facts i fact
    → ((n : ℕ) → get_or found n false ≡ is_equated (take i facts) n)
    → ((n : ℕ) → get_or new n false ≡ (get_or found n false || ((fact.number == n) && is_some fact.equality)))
    → (n : ℕ) → get_or new n false ≡ is_equated (take (i + 1) facts) n
marked facts i fact found new inside is so_far noted n =
    noted n
    ∙ ap (λ b. b || ((fact.number == n) && is_some fact.equality)) (so_far n)
    ∙ ap (λ b. is_equated (take i facts) n || b) (sym (or-false ((fact.number == n) && is_some fact.equality)))
    ∙ sym (one_more facts i fact n inside is)

-- noting it, with an equality and without
pub noted_some : (found : List Bool) (fact : RegisterFact) (n : ℕ) → is_some fact.equality ≡ true → fact.number < length found
    → get_or (set found fact.number true) n false ≡ (get_or found n false || ((fact.number == n) && is_some fact.equality))
noted_some found fact n some fits = elim (eqb_tells fact.number n) [
  | inl e ↦ rw (e.0, some) (ap (λ k. get_or (set found fact.number true) k false) (sym e.1) ∙ get_or-set_same found fact.number true false fits ∙ sym (or-true (get_or found n false)))
  | inr e ↦ rw e.0 (get_or-set_other found fact.number n true false (λ h. e.1 (sym h)) ∙ sym (or-false (get_or found n false)))
]

pub noted_none : (b c : Bool) {s : Bool} → s ≡ false → b ≡ (b || (c && s))
noted_none b true is = rw is (sym (or-false b))
noted_none b false is = sym (or-false b)

-- nothing is noted at first
blank : (k n : ℕ) → get_or (replicate k false) n false ≡ false
blank zero n = refl
blank (suc k) zero = refl
blank (suc k) (suc n) = blank k n

pub none_marked : (k : ℕ) (facts : List RegisterFact) (n : ℕ) → get_or (replicate k false) n false ≡ is_equated (take 0 facts) n
unfolding is_equated
none_marked k facts n = blank k n

free_one : (facts : List RegisterFact) (test : ℕ → Bool) (e : Option Equality) → ((n : ℕ) → test n ≡ is_equated facts n) → has_no_atom test e ≡ is_free facts e
unfolding is_free
free_one facts test None same = refl
free_one facts test (Some e) same = ap (λ (t : ℕ → Bool). list_all (λ term. not (t term.atom)) e.terms.items) (λ i n. same n i)

pub free_by : (facts : List RegisterFact) (test : ℕ → Bool) → ((n : ℕ) → test n ≡ is_equated facts n) → list_all (λ fact. has_no_atom test fact.equality) facts ≡ are_free facts
unfolding are_free
free_by facts test same = ap (λ (p : RegisterFact → Bool). list_all p facts) (λ i fact. free_one facts test fact.equality same i)
