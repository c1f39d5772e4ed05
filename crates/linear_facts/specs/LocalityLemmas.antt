-- Of which atoms sums, multiples and replacements speak, and what ranges end in.
use Rattle.std.proofs.Common.{◌≡◌, ℕ, ◌+◌, ◌*◌, ◌%◌, ◌^◌, ◌<◌, ◌≤◌, ◌/◌, List, [], ◌∷◌, ◌++◌, refl, sym, ap, subst, arith, Some}
use Rattle.std.proofs.lemmas.Bool.{cases_eq}
use Rattle.std.proofs.lemmas.Grind.{common_steps}
use Rattle.linear_facts.specs.Words.{Term, Range, Interval}
use Rattle.linear_facts.specs.Forms.{Linear, weight, value, RisesFrom, merged, term_or_none, scaled_terms, sum_of, scaled, number_form, form_at, with_replaced, substituted}
use Rattle.linear_facts.specs.Laws.{AreBelow, FormsStayBelow, SumsStayBelow, MultiplesStayBelow, SubstitutionsStayBelow, AgreeBelow, RangesFit}
use Rattle.linear_facts.specs.Sums.{form_interval, range_within, range_of_form}
use Rattle.linear_facts.specs.FormLemmas.{along_merge, by_coefficient}
use Rattle.linear_facts.specs.MergingLemmas.{merged-left, merged-nil, merged-less, merged-greater, merged-same}

raised : (n k : ℕ) (ts : List Term) → AreBelow n ts → AreBelow (n + k) ts
raised n k [] h = tt
raised n k (t ∷ ts) h = (omega (arith, h.0), raised n k ts h.1)

pub forms-stay : FormsStayBelow
forms-stay n k f h = raised n k f.terms h

below-term_or_none : (n atom coefficient : ℕ) (ts : List Term) → atom < n → AreBelow n ts → AreBelow n (term_or_none atom coefficient ++ ts)
below-term_or_none n atom coefficient ts lt h = by_coefficient (λ (l : List Term). AreBelow n l) atom coefficient ts h (λ some. (lt, h))

below-merged : (n : ℕ) (xs ys : List Term) → AreBelow n xs → AreBelow n ys → AreBelow n (merged xs ys)
below-merged n =
    along_merge (λ xs ys. AreBelow n xs → AreBelow n ys → AreBelow n (merged xs ys))
    (λ ys h k. subst (λ (l : List Term). AreBelow n l) (sym (merged-left ys)) k)
    (λ xs h k. subst (λ (l : List Term). AreBelow n l) (sym (merged-nil xs)) h)
    (λ x y xs ys below ih h k. subst (λ (l : List Term). AreBelow n l) (sym (merged-less x y xs ys below)) (h.0, ih h.1 k))
    (λ x y xs ys above ih h k. subst (λ (l : List Term). AreBelow n l) (sym (merged-greater x y xs ys above)) (k.0, ih h k.1))
    (λ x y xs ys one ih h k. subst (λ (l : List Term). AreBelow n l)
    (sym (merged-same x y xs ys (omega arith) (omega arith)))
    (below-term_or_none n x.atom _ (merged xs ys) h.0 (ih h.1 k.1)))

pub sums-stay : SumsStayBelow
unfolding sum_of
sums-stay n f g h k = below-merged n f.terms g.terms h k

below-scaled_terms : (n k : ℕ) (ts : List Term) → AreBelow n ts → AreBelow n (scaled_terms k ts)
unfolding scaled_terms
below-scaled_terms n k [] h = tt
below-scaled_terms n k (t ∷ ts) h =
    below-term_or_none n t.atom (k * t.coefficient % 2 ^ 32) (scaled_terms k ts) h.0 (below-scaled_terms n k ts h.1)

pub multiples-stay : MultiplesStayBelow
unfolding scaled
multiples-stay n k f h = below-scaled_terms n k f.terms h

below-replaced : (n : ℕ) (forms : List Linear) → ((a : ℕ) → AreBelow n (form_at forms a).terms) → (start : Linear) (ts : List Term)
    → AreBelow n start.terms → AreBelow n (with_replaced forms start ts).terms
unfolding with_replaced
below-replaced n forms are start [] h = h
below-replaced n forms are start (t ∷ ts) h =
    below-replaced n forms are (sum_of start (scaled t.coefficient (form_at forms t.atom))) ts
    (sums-stay n start (scaled t.coefficient (form_at forms t.atom)) h (multiples-stay n t.coefficient (form_at forms t.atom) (are t.atom)))

pub substitutions-stay : SubstitutionsStayBelow
unfolding substituted
substitutions-stay n forms f are = below-replaced n forms are (number_form f.constant) f.terms tt

same-weight : (n : ℕ) (v w : ℕ → ℕ) (ts : List Term) → ((a : ℕ) → a < n → v a ≡ w a) → AreBelow n ts → weight v ts ≡ weight w ts
same-weight n v w [] same h = refl
same-weight n v w (t ∷ ts) same h = rw (same t.atom h.0, same-weight n v w ts same h.1) refl

pub agree-below : AgreeBelow
unfolding value
agree-below n v w f same h = ap (λ m. (f.constant + m) % 2 ^ 32) (same-weight n v w f.terms same h)

fits-within : (i : Interval) (r : Range) → range_within i ≡ Some r → r.hi < 2 ^ 32
unfolding range_within
fits-within i r e = grind (arith, common_steps, cases_eq (i.lo / 2 ^ 32) (i.hi / 2 ^ 32))

pub ranges-fit : RangesFit
unfolding range_of_form
ranges-fit table f r e = fits-within (form_interval table f) r e

-- a form may have a term more, of an atom above all that it has
pub rises-appended : (low : ℕ) (ts : List Term) (t : Term) → RisesFrom low ts → AreBelow t.atom ts → low ≤ t.atom
    → 0 < t.coefficient → t.coefficient < 2 ^ 32 → RisesFrom low (ts ++ t ∷ [])
rises-appended low [] t h k le some fits = (le, some, fits, tt)
rises-appended low (x ∷ xs) t h k le some fits =
    (h.0, h.1, h.2, rises-appended (x.atom + 1) xs t h.3 k.1 (omega (arith, k.0)) some fits)
