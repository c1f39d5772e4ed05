-- What sums and multiples of forms mean, and that they are forms.
use Rattle.std.proofs.Common.{◌≡◌, ℕ, ◌+◌, ◌*◌, ◌%◌, ◌^◌, ◌<◌, ◌≤◌, inl, inr, List, [], ◌∷◌, ◌++◌, length, drop, get_or, refl, ap, sym, ◌∙◌, subst, arith, length-append, Option, Some, None, IfSome}
use Rattle.std.proofs.lemmas.Bool.{cases_order, cases_eq, cases_lt}
use Rattle.std.proofs.lemmas.List.{drop_more, drop_all}
use Rattle.std.proofs.lemmas.Grind.{common_steps}
use Rattle.linear_facts.specs.Words.{Term}
use Rattle.linear_facts.specs.Forms.{Linear, weight, value, RisesFrom, IsForm, merged, term_or_none, scaled_terms, sum_of, scaled, within, number_form, atom_form, form_at, with_replaced, substituted}
use Rattle.linear_facts.specs.CongruentLemmas.{Congruent, mod-Congruent, congruent_refl, congruent_equal, congruent_sym, congruent_trans, congruent_rest, congruent_add, congruent_mul, congruent_mul_right}
use Rattle.linear_facts.specs.MergingLemmas.{merged-left, merged-nil, merged-less, merged-greater, merged-same}

-- induction along a merge
module _ (P : List Term → List Term → Type 0)
    (none_left : (ys : List Term) → P [] ys)
    (none_right : (xs : List Term) → P xs [])
    (less : (x y : Term) (xs ys : List Term) → x.atom < y.atom → P xs (y ∷ ys) → P (x ∷ xs) (y ∷ ys))
    (greater : (x y : Term) (xs ys : List Term) → y.atom < x.atom → P (x ∷ xs) ys → P (x ∷ xs) (y ∷ ys))
    (same : (x y : Term) (xs ys : List Term) → x.atom ≡ y.atom → P xs ys → P (x ∷ xs) (y ∷ ys)) where
  along_from : (x : Term) (xs : List Term) → ((ys : List Term) → P xs ys) → (ys : List Term) → P (x ∷ xs) ys
  along_from x xs rest [] = none_right (x ∷ xs)
  along_from x xs rest (y ∷ ys) =
      elim (cases_order x.atom y.atom) as (λ _. P (x ∷ xs) (y ∷ ys)) [
        | inl e ↦ same x y xs ys e (rest ys)
        | inr h ↦ elim h as (λ _. P (x ∷ xs) (y ∷ ys)) [
          | inl l ↦ less x y xs ys l (rest (y ∷ ys))
          | inr g ↦ greater x y xs ys g (along_from x xs rest ys)
        ]
      ]

  pub along_merge : (xs ys : List Term) → P xs ys
  along_merge [] ys = none_left ys
  along_merge (x ∷ xs) ys = along_from x xs (along_merge xs) ys

weight-term_or_none : (v : ℕ → ℕ) (atom coefficient : ℕ) (ts : List Term)
    → weight v (term_or_none atom coefficient ++ ts) ≡ coefficient * v atom + weight v ts
weight-term_or_none v atom coefficient ts = grind (arith, common_steps, cases_eq coefficient 0)

length-term_or_none : (atom coefficient : ℕ) → length (term_or_none atom coefficient) ≤ 1
length-term_or_none atom coefficient = grind (arith, common_steps, cases_eq coefficient 0)

-- a term is left out where its coefficient is 0
pub by_coefficient : (P : List Term → Type 0) (atom coefficient : ℕ) (ts : List Term) → P ts
    → (0 < coefficient → P (record { atom = atom; coefficient = coefficient } ∷ ts)) → P (term_or_none atom coefficient ++ ts)
by_coefficient P atom coefficient ts none one =
    elim (cases_eq coefficient 0) [
      | inl zero ↦ subst (λ (l : List Term). P (l ++ ts)) (sym (none_at zero)) none
      | inr nonzero ↦ subst (λ (l : List Term). P (l ++ ts)) (sym (one_at nonzero)) (one (omega arith))
    ]
  where
    none_at : coefficient ≡ 0 → term_or_none atom coefficient ≡ []
    none_at e = grind (arith, common_steps)

    one_at : (coefficient ≡ 0 → ⊥) → term_or_none atom coefficient ≡ record { atom = atom; coefficient = coefficient } ∷ []
    one_at n = grind (arith, common_steps)

-- a form's atoms may rise from a lower atom
rises-lower : (low low' : ℕ) (ts : List Term) → low ≤ low' → RisesFrom low' ts → RisesFrom low ts
rises-lower low low' [] le h = tt
rises-lower low low' (t ∷ ts) le h = (omega arith, h.1, h.2, h.3)

rises-term_or_none : (low atom coefficient : ℕ) (ts : List Term) → low ≤ atom → coefficient < 2 ^ 32
    → RisesFrom (atom + 1) ts → RisesFrom low (term_or_none atom coefficient ++ ts)
rises-term_or_none low atom coefficient ts le fits h =
    by_coefficient (λ (l : List Term). RisesFrom low l) atom coefficient ts (rises-lower low (atom + 1) ts (omega arith) h) (λ some. (le, some, fits, h))

-- a term whose coefficient is taken modulo 2^32
congruent_term : (k n w u : ℕ) → Congruent w u → Congruent (k % 4294967296 * n + w) (k * n + u)
congruent_term k n w u h = congruent_add _ _ _ _ (congruent_mul_right n _ _ (congruent_rest k)) h

congruent_same : (v : ℕ → ℕ) (x y : Term) (w a b : ℕ) → x.atom ≡ y.atom → Congruent w (a + b)
    → Congruent ((x.coefficient + y.coefficient) % 4294967296 * v x.atom + w)
    (x.coefficient * v x.atom + a + (y.coefficient * v y.atom + b))
congruent_same v x y w a b one h =
    congruent_trans _ _ _ (congruent_term (x.coefficient + y.coefficient) (v x.atom) w (a + b) h)
    (congruent_equal _ _ (omega (arith, ap (λ n. y.coefficient * v n) one)))

weight-nil : (v : ℕ → ℕ) (ys : List Term) → weight v (merged [] ys) ≡ 0 + weight v ys
unfolding merged
weight-nil v ys = omega arith

-- the sum of two lists of terms weighs as both together, modulo 2^32
pub weight-merged : (v : ℕ → ℕ) (xs ys : List Term) → Congruent (weight v (merged xs ys)) (weight v xs + weight v ys)
weight-merged v =
    along_merge (λ xs ys. Congruent (weight v (merged xs ys)) (weight v xs + weight v ys))
    (λ ys. congruent_equal _ _ (weight-nil v ys))
    (λ xs. subst (λ (l : List Term). Congruent (weight v l) (weight v xs + 0)) (sym (merged-nil xs)) (congruent_equal _ _ (omega arith)))
    (λ x y xs ys below ih. subst (λ (l : List Term). Congruent (weight v l) (weight v (x ∷ xs) + weight v (y ∷ ys))) (sym (merged-less x y xs ys below))
    (record { over_a = ih.over_a; over_b = ih.over_b; equal = omega (arith, ih.equal) }))
    (λ x y xs ys above ih. subst (λ (l : List Term). Congruent (weight v l) (weight v (x ∷ xs) + weight v (y ∷ ys))) (sym (merged-greater x y xs ys above))
    (record { over_a = ih.over_a; over_b = ih.over_b; equal = omega (arith, ih.equal) }))
    (λ x y xs ys one ih. subst (λ (l : List Term). Congruent (weight v l) (weight v (x ∷ xs) + weight v (y ∷ ys)))
    (sym (merged-same x y xs ys (omega arith) (omega arith)))
    (subst (λ (n : ℕ). Congruent n (weight v (x ∷ xs) + weight v (y ∷ ys)))
    (sym (weight-term_or_none v x.atom _ (merged xs ys)))
    (congruent_same v x y _ _ _ one ih)))

-- the sum of two lists of terms has at most the terms of both
pub length-merged : (xs ys : List Term) → length (merged xs ys) ≤ length xs + length ys
length-merged =
    along_merge (λ xs ys. length (merged xs ys) ≤ length xs + length ys)
    (λ ys. omega (arith, ap length (merged-left ys)))
    (λ xs. omega (arith, ap length (merged-nil xs)))
    (λ x y xs ys below ih. omega (arith, ap length (merged-less x y xs ys below)))
    (λ x y xs ys above ih. omega (arith, ap length (merged-greater x y xs ys above)))
    (λ x y xs ys one ih. omega (
      arith,
      ap length (merged-same x y xs ys (omega arith) (omega arith)),
      length-append (term_or_none x.atom ((x.coefficient + y.coefficient) % 2 ^ 32)) (merged xs ys),
      length-term_or_none x.atom ((x.coefficient + y.coefficient) % 2 ^ 32),
    ))

-- the sum of two forms' terms is a form's terms
pub rises-merged : (xs ys : List Term) (low : ℕ) → RisesFrom low xs → RisesFrom low ys → RisesFrom low (merged xs ys)
rises-merged =
    along_merge (λ xs ys. (low : ℕ) → RisesFrom low xs → RisesFrom low ys → RisesFrom low (merged xs ys))
    (λ ys low h k. subst (λ (l : List Term). RisesFrom low l) (sym (merged-left ys)) k)
    (λ xs low h k. subst (λ (l : List Term). RisesFrom low l) (sym (merged-nil xs)) h)
    (λ x y xs ys below ih low h k. subst (λ (l : List Term). RisesFrom low l) (sym (merged-less x y xs ys below))
    (h.0, h.1, h.2, ih (x.atom + 1) h.3 (omega arith, k.1, k.2, k.3)))
    (λ x y xs ys above ih low h k. subst (λ (l : List Term). RisesFrom low l) (sym (merged-greater x y xs ys above))
    (k.0, k.1, k.2, ih (y.atom + 1) (omega arith, h.1, h.2, h.3) k.3))
    (λ x y xs ys one ih low h k. subst (λ (l : List Term). RisesFrom low l)
    (sym (merged-same x y xs ys (omega arith) (omega arith)))
    (rises-term_or_none low x.atom _ (merged xs ys) h.0 (omega arith)
    (ih (x.atom + 1) h.3 (subst (λ (n : ℕ). RisesFrom (n + 1) ys) (sym one) k.3))))

-- a multiple of the terms weighs k times as much, modulo 2^32
pub weight-scaled_terms : (v : ℕ → ℕ) (k : ℕ) (ts : List Term) → Congruent (weight v (scaled_terms k ts)) (k * weight v ts)
unfolding scaled_terms
weight-scaled_terms v k [] = congruent_equal _ _ (omega arith)
weight-scaled_terms v k (t ∷ ts) =
    subst (λ (n : ℕ). Congruent n (k * weight v (t ∷ ts)))
    (sym (weight-term_or_none v t.atom (k * t.coefficient % 4294967296) (scaled_terms k ts)))
    (congruent_trans _ _ _ (congruent_term (k * t.coefficient) (v t.atom) _ (k * weight v ts) (weight-scaled_terms v k ts))
    (congruent_equal _ _ (omega arith)))

pub length-scaled_terms : (k : ℕ) (ts : List Term) → length (scaled_terms k ts) ≤ length ts
unfolding scaled_terms
length-scaled_terms k [] = omega arith
length-scaled_terms k (t ∷ ts) =
    omega (
      arith,
      length-scaled_terms k ts,
      length-append (term_or_none t.atom (k * t.coefficient % 2 ^ 32)) (scaled_terms k ts),
      length-term_or_none t.atom (k * t.coefficient % 2 ^ 32),
    )

pub rises-scaled_terms : (low k : ℕ) (ts : List Term) → RisesFrom low ts → RisesFrom low (scaled_terms k ts)
unfolding scaled_terms
rises-scaled_terms low k [] h = tt
rises-scaled_terms low k (t ∷ ts) h =
    rises-term_or_none low t.atom (k * t.coefficient % 2 ^ 32) (scaled_terms k ts) h.0 (omega arith) (rises-scaled_terms (t.atom + 1) k ts h.3)

-- a sum means the sum of what both mean
pub value-sum_of : (v : ℕ → ℕ) (f g : Linear) → value v (sum_of f g) ≡ (value v f + value v g) % 2 ^ 32
unfolding value sum_of
value-sum_of v f g =
    mod-Congruent _ _ (congruent_trans _ _ _
    (congruent_add _ _ _ _ (congruent_rest (f.constant + g.constant)) (weight-merged v f.terms g.terms))
    (congruent_trans _ _ _ (congruent_equal _ _ (omega arith))
    (congruent_sym _ _ (congruent_add _ _ _ _ (congruent_rest (f.constant + weight v f.terms)) (congruent_rest (g.constant + weight v g.terms))))))

-- a multiple means the multiple of what the form means
pub value-scaled : (v : ℕ → ℕ) (k : ℕ) (f : Linear) → value v (scaled k f) ≡ k * value v f % 2 ^ 32
unfolding value scaled
value-scaled v k f =
    mod-Congruent _ _ (congruent_trans _ _ _
    (congruent_add _ _ _ _ (congruent_rest (k * f.constant)) (weight-scaled_terms v k f.terms))
    (congruent_trans _ _ _ (congruent_equal _ _ (omega arith))
    (congruent_mul k _ _ (congruent_sym _ _ (congruent_rest (f.constant + weight v f.terms))))))

-- a form with room is the one that fits
within-itself : (R : ℕ) (f : Linear) → length f.terms ≤ R → Some f ≡ within R f
unfolding within
within-itself R f room = grind (arith, common_steps)

pub within-some : (R : ℕ) (f h : Linear) → h ≡ f → length h.terms ≤ R → Some h ≡ within R f
within-some R f h is room = subst (λ (g : Linear). Some h ≡ within R g) is (within-itself R h room)

-- and one with more terms isn't
pub within-none : (R : ℕ) (f : Linear) (r : Option Linear) → r ≡ None → R < length f.terms → r ≡ within R f
unfolding within
within-none R f r is over = is ∙ none
  where
    none : None ≡ within R f
    none = grind (arith, common_steps)

-- the sum, by its parts
module _ (f g : Linear) (a b : ℕ) (xs ys ts : List Term)
    (is_f : record { constant = a; terms = xs } ≡ f) (is_g : record { constant = b; terms = ys } ≡ g)
    (is_sum : ts ≡ merged xs ys) where
  pub sum_of-parts : record { constant = (a + b) % 2 ^ 32; terms = ts } ≡ sum_of f g
  unfolding sum_of
  sum_of-parts =
      subst (λ (h : Linear). record { constant = (a + b) % 2 ^ 32; terms = ts } ≡ sum_of h g) is_f
      (subst (λ (h : Linear). record { constant = (a + b) % 2 ^ 32; terms = ts } ≡ sum_of record { constant = a; terms = xs } h) is_g
      (ap (λ (l : List Term). record { constant = (a + b) % 2 ^ 32; terms = l }) is_sum))

  pub IsForm-parts : (R : ℕ) → RisesFrom 0 xs → RisesFrom 0 ys → length ts ≤ R
      → IsForm R record { constant = (a + b) % 2 ^ 32; terms = ts }
  IsForm-parts R h k room = record {
    constant_fits = omega arith;
    rises = subst (λ (l : List Term). RisesFrom 0 l) (sym is_sum) (rises-merged xs ys 0 h k);
    has_room = room;
  }

-- the multiple, by its parts
module _ (f : Linear) (k a : ℕ) (xs ts : List Term)
    (is_f : record { constant = a; terms = xs } ≡ f) (is_product : ts ≡ scaled_terms k xs) where
  pub scaled-parts : record { constant = k * a % 2 ^ 32; terms = ts } ≡ scaled k f
  unfolding scaled
  scaled-parts =
      subst (λ (h : Linear). record { constant = k * a % 2 ^ 32; terms = ts } ≡ scaled k h) is_f
      (ap (λ (l : List Term). record { constant = k * a % 2 ^ 32; terms = l }) is_product)

  pub IsForm-scaled : (R : ℕ) → RisesFrom 0 xs → length ts ≤ R → IsForm R record { constant = k * a % 2 ^ 32; terms = ts }
  IsForm-scaled R h room = record {
    constant_fits = omega arith;
    rises = subst (λ (l : List Term). RisesFrom 0 l) (sym is_product) (rises-scaled_terms 0 k xs h);
    has_room = room;
  }

pub scaled-over : (f : Linear) (k a : ℕ) (xs : List Term) → record { constant = a; terms = xs } ≡ f
    → (R : ℕ) → R < length (scaled_terms k xs) → R < length (scaled k f).terms
unfolding scaled
scaled-over f k a xs is_f R over = subst (λ (h : Linear). R < length (scaled_terms k h.terms)) is_f over

-- more terms than R, where the merge of the parts has more
pub sum_of-over : (f g : Linear) (a b : ℕ) (xs ys : List Term)
    → record { constant = a; terms = xs } ≡ f → record { constant = b; terms = ys } ≡ g
    → (R : ℕ) → R < length (merged xs ys) → R < length (sum_of f g).terms
unfolding sum_of
sum_of-over f g a b xs ys is_f is_g R over =
    subst (λ (h : Linear). R < length (merged h.terms g.terms)) is_f
    (subst (λ (h : Linear). R < length (merged xs h.terms)) is_g over)

-- the merge of equal lists
pub merged_at : (xs xs' ys ys' : List Term) → xs ≡ xs' → ys ≡ ys' → merged xs ys ≡ merged xs' ys'
merged_at xs xs' ys ys' e e' = cc

-- what is within some room is the form itself, and has that room
pub within-is : (R : ℕ) (f h : Linear) → within R f ≡ Some h → h ≡ f
unfolding within
within-is R f h e = grind (arith, common_steps, cases_lt R (length f.terms))

pub within-room : (R : ℕ) (f h : Linear) → within R f ≡ Some h → length f.terms ≤ R
unfolding within
within-room R f h e = grind (arith, common_steps, cases_lt R (length f.terms))

-- a form with room is not turned down
pub within-there : (R : ℕ) (f : Linear) → length f.terms ≤ R → within R f ≡ None → ⊥
within-there R f room e = refuted (within-itself R f room ∙ e)
  where
    refuted : Some f ≡ None → ⊥
    refuted k = cc

-- an atom as a form
pub value-atom_form : (v : ℕ → ℕ) (a : ℕ) → value v (atom_form a) ≡ v a % 2 ^ 32
unfolding value
value-atom_form v a = ap (λ n. n % 4294967296) (omega arith)

-- one more term is replaced
pub replaced-more : (forms : List Linear) (start : Linear) (ts : List Term) (i : ℕ) (d : Term) → i < length ts
    → with_replaced forms start (drop i ts)
    ≡ with_replaced forms
    (sum_of start (scaled (get_or ts i d).coefficient (form_at forms (get_or ts i d).atom))) (drop (i + 1) ts)
unfolding with_replaced
replaced-more forms start ts i d inside = ap (λ l. with_replaced forms start l) (drop_more ts i d inside)

-- once all is replaced, that is the sum
pub replaced-done : (forms : List Linear) (start : Linear) (ts : List Term) (i : ℕ) → length ts ≤ i
    → with_replaced forms start (drop i ts) ≡ start
unfolding with_replaced
replaced-done forms start ts i done = ap (λ l. with_replaced forms start l) (drop_all i ts done)

-- what one term adds
value-replaced : (v : ℕ → ℕ) (start g : Linear) (k w : ℕ)
    → (value v (sum_of start (scaled k g)) + w) % 2 ^ 32 ≡ (value v start + (k * value v g + w)) % 2 ^ 32
value-replaced v start g k w =
    mod-Congruent _ _ (congruent_trans _ _ _
    (congruent_add _ _ _ _
    (congruent_trans _ _ _ (congruent_equal _ _ (value-sum_of v start (scaled k g)))
    (congruent_trans _ _ _ (congruent_rest (value v start + value v (scaled k g)))
    (congruent_add _ _ _ _ (congruent_refl (value v start))
    (congruent_trans _ _ _ (congruent_equal _ _ (value-scaled v k g)) (congruent_rest (k * value v g))))))
    (congruent_refl w))
    (congruent_equal _ _ (omega arith)))

-- replaced terms weigh what the forms in their atoms' place mean
pub value-with_replaced : (v : ℕ → ℕ) (forms : List Linear) (start : Linear) (ts : List Term)
    → value v (with_replaced forms start ts) ≡ (value v start + weight (λ a. value v (form_at forms a)) ts) % 2 ^ 32
unfolding with_replaced value
value-with_replaced v forms start [] =
    mod-Congruent _ _ (congruent_trans _ _ _ (congruent_sym _ _ (congruent_rest (start.constant + weight v start.terms))) (congruent_equal _ _ (omega arith)))
value-with_replaced v forms start (t ∷ ts) =
    value-with_replaced v forms (sum_of start (scaled t.coefficient (form_at forms t.atom))) ts
    ∙ value-replaced v start (form_at forms t.atom) t.coefficient (weight (λ a. value v (form_at forms a)) ts)

value-number : (v : ℕ → ℕ) (c w : ℕ) → (value v (number_form c) + w) % 2 ^ 32 ≡ (c + w) % 2 ^ 32
unfolding value
value-number v c w = mod-Congruent _ _ (congruent_add _ _ _ _
    (congruent_trans _ _ _ (congruent_rest (c + 0)) (congruent_equal _ _ (omega arith)))
    (congruent_refl w))

-- a form with its atoms replaced means what the form means where each atom is what the form in its place means
pub value-substituted : (v : ℕ → ℕ) (forms : List Linear) (f : Linear)
    → value v (substituted forms f) ≡ value (λ a. value v (form_at forms a)) f
unfolding substituted value
value-substituted v forms f =
    value-with_replaced v forms (number_form f.constant) f.terms
    ∙ value-number v f.constant (weight (λ a. value v (form_at forms a)) f.terms)

-- a sum has at most the terms of both
pub length-sum_of : (f g : Linear) → length (sum_of f g).terms ≤ length f.terms + length g.terms
unfolding sum_of
length-sum_of f g = length-merged f.terms g.terms

-- what holds of a form holds of what is within some room
pub if-within : (R : ℕ) (f : Linear) (r : Option Linear) (P : Linear → Type 0) → r ≡ within R f → P f → IfSome r P
if-within R f r P is holds =
    elim (cases_lt R (length f.terms)) [
      | inl over ↦ subst (λ (o : Option Linear). IfSome o P) (within-none R f None refl over ∙ sym is) tt
      | inr room ↦ subst (λ (o : Option Linear). IfSome o P) (within-itself R f room ∙ sym is) holds
    ]

-- sums, multiples and replacements of forms are forms, with the room that they need
pub number-IsForm : (R c : ℕ) → c < 2 ^ 32 → IsForm R (number_form c)
number-IsForm R c fits = record { constant_fits = fits; rises = tt; has_room = omega arith }

pub atom-IsForm : (R a : ℕ) → 1 ≤ R → IsForm R (atom_form a)
atom-IsForm R a room = record { constant_fits = omega arith; rises = (omega arith, omega arith, omega arith, tt); has_room = omega arith }

pub sum_of-IsForm : (m n R : ℕ) (f g : Linear) → IsForm m f → IsForm n g → length (sum_of f g).terms ≤ R → IsForm R (sum_of f g)
unfolding sum_of
sum_of-IsForm m n R f g h k room = record {
  constant_fits = omega arith;
  rises = rises-merged f.terms g.terms 0 h.rises k.rises;
  has_room = room;
}

pub scaled-IsForm : (n R k : ℕ) (f : Linear) → IsForm n f → length (scaled k f).terms ≤ R → IsForm R (scaled k f)
unfolding scaled
scaled-IsForm n R k f h room = record {
  constant_fits = omega arith;
  rises = rises-scaled_terms 0 k f.terms h.rises;
  has_room = room;
}

-- the multiple of the form that was read in an atom's place, by its number
pub read_at : (k : ℕ) (forms : List Linear) (f : Linear) (i a : ℕ) → i ≡ a → f ≡ get_or forms i (atom_form a)
    → scaled k f ≡ scaled k (form_at forms a)
unfolding form_at
read_at k forms f i a e h = ap (scaled k) (h ∙ ap (λ j. get_or forms j (atom_form a)) e)
