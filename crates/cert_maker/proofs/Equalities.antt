-- The forms of a strip-mined loop.
use Rattle.std.proofs.Common.{◌≡◌, ℕ, ◌+◌, ◌-◌, ◌%◌, ◌^◌, ◌<◌, List, [], ◌∷◌, ◌++◌, refl, ap, ◌∙◌, arith}
use Rattle.linear_facts.specs.declared.forms.Term.{Term}
use Rattle.linear_facts.specs.Forms.{Linear, merged, term_or_none, scaled_terms, sum_of, scaled, number_form, atom_form, form_at, with_replaced, substituted}
use Rattle.linear_facts.specs.MergingLemmas.{merged-nil, merged-less, merged-greater, merged-same, merged-left}
use Rattle.linear_facts.specs.LoopForms.{term, IsSize, pointer_form, left_form}
use Rattle.cert_maker.specs.Laws.{BackEquality}
use Rattle.linear_facts.specs.LoopRangeLemmas.{by_size}

-- the middle term goes between
pub between : (n e v a b c : ℕ) → n < e → e < v
    → merged (term n a ∷ term v b ∷ []) (term e c ∷ []) ≡ term n a ∷ term e c ∷ term v b ∷ []
between n e v a b c l g =
    merged-less (term n a) (term e c) (term v b ∷ []) [] l
    ∙ ap (λ (ts : List Term). term n a ∷ ts) (merged-greater (term v b) (term e c) [] [] g
    ∙ ap (λ (ts : List Term). term e c ∷ ts) (merged-nil (term v b ∷ [])))

pub sum_parts : (c d : ℕ) (xs ys zs : List Term) → c + d < 2 ^ 32 → merged xs ys ≡ zs
    → sum_of (record { constant = c; terms = xs }) (record { constant = d; terms = ys }) ≡ record { constant = c + d; terms = zs }
unfolding sum_of
sum_parts c d xs ys zs l e =
    let small : (c + d) % 2 ^ 32 ≡ c + d = omega (arith, l) in
    rw (small, e) refl

-- minus w times what is left
pub scaled_left : (w n v : ℕ) → IsSize w → scaled (2 ^ 32 - w) (left_form n v) ≡ record { constant = 0; terms = term n (2 ^ 32 - w) ∷ term v w ∷ [] }
unfolding scaled scaled_terms
scaled_left w n v is =
    by_size (λ (k : ℕ). scaled (2 ^ 32 - k) (left_form n v) ≡ record { constant = 0; terms = term n (2 ^ 32 - k) ∷ term v k ∷ [] }) w is refl refl refl

pub scaled_atom : (w a : ℕ) → IsSize w → scaled w (atom_form a) ≡ record { constant = 0; terms = term a w ∷ [] }
unfolding scaled scaled_terms
scaled_atom w a is = by_size (λ (k : ℕ). scaled k (atom_form a) ≡ record { constant = 0; terms = term a k ∷ [] }) w is refl refl refl

pub two_replaced : (forms : List Linear) (c a x b y : ℕ)
    → substituted forms (record { constant = c; terms = term a x ∷ term b y ∷ [] })
    ≡ sum_of (sum_of (number_form c) (scaled x (form_at forms a))) (scaled y (form_at forms b))
unfolding substituted with_replaced
two_replaced forms c a x b y = refl

pub back-equality : BackEquality
back-equality forms base w n e v is small l g at_n at_e =
    two_replaced forms base n (2 ^ 32 - w) e w
    ∙ (rw (at_n, at_e, scaled_left w n v is, scaled_atom w e is)
    (ap (λ (f : Linear). sum_of f (record { constant = 0; terms = term e w ∷ [] }))
    (sum_parts base 0 [] (term n (2 ^ 32 - w) ∷ term v w ∷ []) _ (omega (arith, small)) (merged-left _))
    ∙ (sum_parts (base + 0) 0 (term n (2 ^ 32 - w) ∷ term v w ∷ []) (term e w ∷ []) _ (omega (arith, small)) (between n e v (2 ^ 32 - w) w w l g)
    ∙ ap (λ (c : ℕ). record { constant = c; terms = term n (2 ^ 32 - w) ∷ term e w ∷ term v w ∷ [] }) (omega arith))))

-- ---- from the entry into the loop, where the count is what was passed

cancelled : (w a b : ℕ) → IsSize w → a ≡ b → merged (term a (2 ^ 32 - w) ∷ []) (term b w ∷ []) ≡ []
unfolding merged
cancelled w a b is e =
    merged-same (term a (2 ^ 32 - w)) (term b w) [] [] (omega (arith, e)) (omega (arith, e))
    ∙ by_size (λ (k : ℕ). term_or_none a ((2 ^ 32 - k + k) % 2 ^ 32) ++ merged [] [] ≡ []) w is refl refl refl

scaled_entry : (w e : ℕ) → IsSize w → scaled (2 ^ 32 - w) (atom_form e) ≡ record { constant = 0; terms = term e (2 ^ 32 - w) ∷ [] }
unfolding scaled scaled_terms
scaled_entry w e is = by_size (λ (k : ℕ). scaled (2 ^ 32 - k) (atom_form e) ≡ record { constant = 0; terms = term e (2 ^ 32 - k) ∷ [] }) w is refl refl refl

pub entry_equality : (forms : List Linear) (base w n e : ℕ) → IsSize w → base < 2 ^ 32 → form_at forms n ≡ atom_form e → form_at forms e ≡ atom_form e
    → substituted forms (pointer_form base w n e) ≡ number_form base
entry_equality forms base w n e is small at_n at_e =
    two_replaced forms base n (2 ^ 32 - w) e w
    ∙ (rw (at_n, at_e, scaled_entry w e is, scaled_atom w e is)
    (ap (λ (f : Linear). sum_of f (record { constant = 0; terms = term e w ∷ [] }))
    (sum_parts base 0 [] (term e (2 ^ 32 - w) ∷ []) _ (omega (arith, small)) (merged-left _))
    ∙ (sum_parts (base + 0) 0 (term e (2 ^ 32 - w) ∷ []) (term e w ∷ []) _ (omega (arith, small)) (cancelled w e e is refl)
    ∙ ap (λ (c : ℕ). number_form c) (omega arith))))
