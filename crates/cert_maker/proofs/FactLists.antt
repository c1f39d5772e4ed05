-- The facts of a block, by place.
use Rattle.std.proofs.Common.{◌≡◌, ℕ, ◌+◌, ◌<◌, ◌≤◌, zero, suc, Bool, true, false, refl, sym, ap, ◌∙◌, arith, Option, Some, None, IfSome, List, [], ◌∷◌, ◌++◌, length}
use Rattle.std.specs.Prelude.{◌&&◌, nat_le}
use Rattle.std.specs.List.{flat_map, range_with_len, list_all, list_any}
use Rattle.std.specs.Option.{option_to_list}
use Rattle.std.proofs.lemmas.Bool.Decides.{nat_tests}
use Rattle.region_mem.specs.declared.parameter.Param.{Param}
use Rattle.scalar_core.specs.Hart.{exit}
use Rattle.cert_note.specs.Certificate.{AllFrom, after_fact, IsRegisterFact}
use Rattle.cert_note.specs.declared.values.RegisterFact.{RegisterFact}
use Rattle.cert_maker.specs.Certificates.{fact}

-- what is stated of places from one on
abbrev pub facts_from : (ℕ → Option RegisterFact) → ℕ → ℕ → List RegisterFact
facts_from stated from k = flat_map (λ place. option_to_list (stated place)) (range_with_len from k)

-- one place more
append_assoc : (xs ys zs : List RegisterFact) → (xs ++ ys) ++ zs ≡ xs ++ (ys ++ zs)
append_assoc [] ys zs = refl
append_assoc (x ∷ xs) ys zs = ap (λ l. x ∷ l) (append_assoc xs ys zs)

append_nil : (xs : List RegisterFact) → xs ++ [] ≡ xs
append_nil [] = refl
append_nil (x ∷ xs) = ap (λ l. x ∷ l) (append_nil xs)

facts_more : (stated : ℕ → Option RegisterFact) (from k at : ℕ) → from + k ≡ at
    → facts_from stated from (suc k) ≡ facts_from stated from k ++ option_to_list (stated at)
facts_more stated from zero at e =
    let same : from ≡ at = omega (arith, e) in
    append_nil (option_to_list (stated from)) ∙ ap (λ i. option_to_list (stated i)) same
facts_more stated from (suc k) at e =
    ap (λ l. option_to_list (stated from) ++ l) (facts_more stated (from + 1) k at (omega (arith, e)))
    ∙ sym (append_assoc (option_to_list (stated from)) (facts_from stated (from + 1) k) (option_to_list (stated at)))

facts_next : (stated : ℕ → Option RegisterFact) (k : ℕ) → facts_from stated 0 (k + 1) ≡ facts_from stated 0 k ++ option_to_list (stated k)
facts_next stated k =
    let next : k + 1 ≡ suc k = omega arith in
    ap (λ i. facts_from stated 0 i) next ∙ facts_more stated 0 k k (omega arith)

-- ra's fact and what is stated of the places so far
pub record AreSoFar (stated : ℕ → Option RegisterFact) (k : ℕ) (facts : List RegisterFact) : Type 0 where
  pub items : facts ≡ fact 1 exit exit None ∷ facts_from stated 0 k
  pub few : length facts ≤ k + 1

pub first_stated : (stated : ℕ → Option RegisterFact) (facts : List RegisterFact) → facts ≡ fact 1 exit exit None ∷ [] → AreSoFar stated 0 facts
first_stated stated facts e = record { items = e; few = rw e (omega arith) }

one_more : (o : Option RegisterFact) (facts : List RegisterFact) (k : ℕ) → length facts ≤ k → length (facts ++ option_to_list o) ≤ k + 1
one_more None facts k l = (let same = ap (λ (fs : List RegisterFact). length fs) (append_nil facts) in omega (arith, same, l))
one_more (Some f) [] k l = omega arith
one_more (Some f) (g ∷ gs) zero l = absurd (omega (arith, l))
one_more (Some f) (g ∷ gs) (suc k) l = (let more = one_more (Some f) gs k (omega (arith, l)) in omega (arith, more))

pub stated_more : (stated : ℕ → Option RegisterFact) (k : ℕ) (old new : List RegisterFact) (o : Option RegisterFact) → AreSoFar stated k old → o ≡ stated k
    → new ≡ old ++ option_to_list o → AreSoFar stated (k + 1) new
stated_more stated k old new o so_far here e = record {
  items =
      e ∙ ap (λ (fs : List RegisterFact). fs ++ option_to_list o) so_far.items
      ∙ ap (λ (p : Option RegisterFact). fact 1 exit exit None ∷ (facts_from stated 0 k ++ option_to_list p)) here
      ∙ ap (λ (fs : List RegisterFact). fact 1 exit exit None ∷ fs) (sym (facts_next stated k));
  few = rw e (one_more o old (k + 1) so_far.few);
}

pub all_stated : (stated : ℕ → Option RegisterFact) (k : ℕ) (facts : List RegisterFact) → AreSoFar stated k facts → k ≡ 8
    → facts ≡ fact 1 exit exit None ∷ facts_from stated 0 8
all_stated stated k facts so_far e = so_far.items ∙ ap (λ (n : ℕ). fact 1 exit exit None ∷ facts_from stated 0 n) e

-- ---- facts that rise

lower : (params : List Param) (from least : ℕ) (f : RegisterFact) → least ≤ from → IsRegisterFact params from f → IsRegisterFact params least f
lower params from least f l is = record {
  number = both (nat_le from f.number) (nat_le f.number 32) is.number;
  low = is.low;
  high = is.high;
  interval = is.interval;
  says = is.says;
}
  where
    both : (a b : Bool) → (nat_le from f.number && nat_le f.number 32) ≡ true → (nat_le least f.number && nat_le f.number 32) ≡ true
    both a b e = grind (arith, nat_tests)

-- What is stated of each place is valid from its register on.
abbrev pub AreStated : List Param → (ℕ → Option RegisterFact) → Type 0
AreStated params stated =
    (place : ℕ) → place < 8 → IfSome (stated place) (λ f. (f.number ≡ place + 10) × IsRegisterFact params (place + 10) f)

pub facts_rise : (params : List Param) (stated : ℕ → Option RegisterFact) → AreStated params stated → (k place from : ℕ) → place + k ≤ 8 → from ≤ place + 10
    → AllFrom (IsRegisterFact params) after_fact from (facts_from stated place k)
facts_rise params stated are zero place from l g = tt
facts_rise params stated are (suc k) place from l g =
    by_stated (stated place) (are place (omega (arith, l)))
    (λ least h. facts_rise params stated are k (place + 1) least (omega (arith, l)) h)
  where
    by_stated : (o : Option RegisterFact) → IfSome o (λ f. (f.number ≡ place + 10) × IsRegisterFact params (place + 10) f)
        → ((least : ℕ) → least ≤ place + 1 + 10 → AllFrom (IsRegisterFact params) after_fact least (facts_from stated (place + 1) k))
        → AllFrom (IsRegisterFact params) after_fact from (option_to_list o ++ facts_from stated (place + 1) k)
    by_stated None h rest = rest from (omega (arith, g))
    by_stated (Some f) h rest = (lower params (place + 10) from f g h.1, rest (f.number + 1) (omega (arith, h.0)))

-- ---- each fact

module _ (stated : ℕ → Option RegisterFact) where
  -- what holds of no facts, and with one in front where it holds of the others, holds of all
  over_facts : (Holds : List RegisterFact → Type 0) (Each : RegisterFact → Type 0) → Holds [] → ((f : RegisterFact) (fs : List RegisterFact) → Each f → Holds fs → Holds (f ∷ fs))
      → (k from : ℕ) → ((place : ℕ) → from ≤ place → place < from + k → IfSome (stated place) Each) → Holds (facts_from stated from k)
  over_facts Holds Each none more zero from h = none
  over_facts Holds Each none more (suc k) from h =
      by_stated (stated from) (h from (omega arith) (omega arith))
      (over_facts Holds Each none more k (from + 1) (λ place l g. h place (omega (arith, l)) (omega (arith, g))))
    where
      by_stated : (o : Option RegisterFact) → IfSome o Each → Holds (facts_from stated (from + 1) k)
          → Holds (option_to_list o ++ facts_from stated (from + 1) k)
      by_stated None q rest = rest
      by_stated (Some f) q rest = more f (facts_from stated (from + 1) k) q rest

  pub all_facts : (p : RegisterFact → Bool) (k from : ℕ) → ((place : ℕ) → from ≤ place → place < from + k → IfSome (stated place) (λ f. p f ≡ true))
      → list_all p (facts_from stated from k) ≡ true
  all_facts p = over_facts (λ fs. list_all p fs ≡ true) (λ f. p f ≡ true) refl (λ f fs q rest. rw (q, rest) refl)

  pub no_fact : (p : RegisterFact → Bool) (k from : ℕ) → ((place : ℕ) → from ≤ place → place < from + k → IfSome (stated place) (λ f. p f ≡ false))
      → list_any p (facts_from stated from k) ≡ false
  no_fact p = over_facts (λ fs. list_any p fs ≡ false) (λ f. p f ≡ false) refl (λ f fs q rest. rw (q, rest) refl)

  pub few_facts : (k from : ℕ) → length (facts_from stated from k) ≤ k
  few_facts zero from = omega arith
  few_facts (suc k) from = by_stated (stated from) (few_facts k (from + 1))
    where
      by_stated : (o : Option RegisterFact) → length (facts_from stated (from + 1) k) ≤ k
          → length (option_to_list o ++ facts_from stated (from + 1) k) ≤ suc k
      by_stated None l = omega (arith, l)
      by_stated (Some f) l = omega (arith, l)
