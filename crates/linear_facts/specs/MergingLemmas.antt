-- The steps of a merge of two lists of terms, and of a list that is filled from its front.
use Rattle.std.proofs.Common.{◌≡◌, ℕ, ◌+◌, ◌*◌, ◌%◌, ◌^◌, ◌<◌, ◌≤◌, List, [], ◌∷◌, ◌++◌, length, take, drop, get_or, ◌-◌, subst, Option, None, MatchOption, refl, ap, sym, ◌∙◌, ◌⊎◌, inl, inr, arith, append_assoc, append-nil, length-append}
use Rattle.std.proofs.lemmas.List.{drop_more, drop_all, take_rest}
use Rattle.std.proofs.lemmas.Grind.{common_steps}
use Rattle.arrayvec.specs.ArrayVec.{ArrayVec}
use Rattle.linear_facts.specs.Words.{Term}
use Rattle.linear_facts.specs.Forms.{merged, merged_from, term_or_none, scaled_terms}

-- `None` is right where there is no room
pub none_is_right : (r : Option (ArrayVec Term)) (P : Type 0) (Q : ArrayVec Term → Type 0) → r ≡ None → P → MatchOption r P Q
none_is_right r P Q is_none p = subst (λ (o : Option (ArrayVec Term)). MatchOption o P Q) (sym is_none) p

-- what has no room for the front of the rest has none for the whole
pub no_room : (R : ℕ) (items front back rest whole : List Term)
    → R < length (items ++ front) → rest ≡ front ++ back → items ++ rest ≡ whole → R < length whole
no_room R items front back rest whole over is_rest is_whole =
    omega (arith, over, length-append items front, length-append items rest, length-append front back, ap length is_rest, ap length is_whole)

-- the front of the rest is moved over to the items
pub moved : (items front back rest whole new : List Term)
    → new ≡ items ++ front → rest ≡ front ++ back → items ++ rest ≡ whole → new ++ back ≡ whole
moved items front back rest whole new is_new is_rest is_whole =
    ap (λ xs. xs ++ back) is_new ∙ (append_assoc items front back ∙ (ap (λ xs. items ++ xs) (sym is_rest) ∙ is_whole))

-- a list merged with no terms stays
pub merged-left : (ys : List Term) → merged [] ys ≡ ys
unfolding merged
merged-left ys = refl

pub merged-nil : (xs : List Term) → merged xs [] ≡ xs
unfolding merged merged_from
merged-nil [] = refl
merged-nil (x ∷ xs) = ap (λ r. x ∷ r) (merged-nil xs)

pub merged-less : (x y : Term) (xs ys : List Term) → x.atom < y.atom → merged (x ∷ xs) (y ∷ ys) ≡ x ∷ merged xs (y ∷ ys)
unfolding merged merged_from
merged-less x y xs ys below = grind (arith, common_steps)

pub merged-greater : (x y : Term) (xs ys : List Term) → y.atom < x.atom → merged (x ∷ xs) (y ∷ ys) ≡ y ∷ merged (x ∷ xs) ys
unfolding merged merged_from
merged-greater x y xs ys above = grind (arith, common_steps)

pub merged-same : (x y : Term) (xs ys : List Term) → x.atom ≤ y.atom → y.atom ≤ x.atom
    → merged (x ∷ xs) (y ∷ ys) ≡ term_or_none x.atom ((x.coefficient + y.coefficient) % 2 ^ 32) ++ merged xs ys
unfolding merged merged_from
merged-same x y xs ys le ge = grind (arith, common_steps)

module _ (a b : List Term) (i j : ℕ) (d e : Term) (in_a : i < length a) (in_b : j < length b) where
  -- the heads at i and j, where the first has the lower atom
  pub heads-less : (get_or a i d).atom < (get_or b j e).atom
      → merged (drop i a) (drop j b) ≡ get_or a i d ∷ [] ++ merged (drop (i + 1) a) (drop j b)
  heads-less below =
      ap (λ xs. merged xs (drop j b)) (drop_more a i d in_a)
      ∙ (ap (λ ys. merged (get_or a i d ∷ drop (i + 1) a) ys) (drop_more b j e in_b)
      ∙ (merged-less (get_or a i d) (get_or b j e) (drop (i + 1) a) (drop (j + 1) b) below
      ∙ ap (λ ys. get_or a i d ∷ merged (drop (i + 1) a) ys) (sym (drop_more b j e in_b))))

  -- where the second has the lower atom
  pub heads-greater : (get_or b j e).atom < (get_or a i d).atom
      → merged (drop i a) (drop j b) ≡ get_or b j e ∷ [] ++ merged (drop i a) (drop (j + 1) b)
  heads-greater above =
      ap (λ xs. merged xs (drop j b)) (drop_more a i d in_a)
      ∙ (ap (λ ys. merged (get_or a i d ∷ drop (i + 1) a) ys) (drop_more b j e in_b)
      ∙ (merged-greater (get_or a i d) (get_or b j e) (drop (i + 1) a) (drop (j + 1) b) above
      ∙ ap (λ xs. get_or b j e ∷ merged xs (drop (j + 1) b)) (sym (drop_more a i d in_a))))

  -- where both have one atom
  pub heads-same : (get_or b j e).atom ≤ (get_or a i d).atom → (get_or a i d).atom ≤ (get_or b j e).atom
      → merged (drop i a) (drop j b)
      ≡ term_or_none (get_or a i d).atom (((get_or a i d).coefficient + (get_or b j e).coefficient) % 2 ^ 32)
      ++ merged (drop (i + 1) a) (drop (j + 1) b)
  heads-same ge le =
      ap (λ xs. merged xs (drop j b)) (drop_more a i d in_a)
      ∙ (ap (λ ys. merged (get_or a i d ∷ drop (i + 1) a) ys) (drop_more b j e in_b)
      ∙ merged-same (get_or a i d) (get_or b j e) (drop (i + 1) a) (drop (j + 1) b) le ge)

-- once one list is used up, the rest of both, one of them empty, is the merge
pub rest-merged : (xs ys : List Term) → (xs ≡ []) ⊎ (ys ≡ []) → merged xs ys ≡ xs ++ ys
unfolding merged
rest-merged xs ys (inl none) = ap (λ l. merged l ys) none ∙ ap (λ l. l ++ ys) (sym none)
rest-merged xs ys (inr none) = ap (λ l. merged xs l) none ∙ (merged-nil xs ∙ (sym (append-nil xs) ∙ ap (λ l. xs ++ l) (sym none)))

module _ (a b items : List Term) (i j : ℕ) (done : (length a ≤ i) ⊎ (length b ≤ j))
    (so_far : items ++ merged (drop i a) (drop j b) ≡ merged a b) where
  -- what the items still lack, where one list is used up
  lacks : items ++ (drop i a ++ drop j b) ≡ merged a b
  lacks = ap (λ l. items ++ l) (sym (rest-merged (drop i a) (drop j b) used_up)) ∙ so_far
    where
      used_up : (drop i a ≡ []) ⊎ (drop j b ≡ [])
      used_up = elim done [ inl le ↦ inl (drop_all i a le) | inr le ↦ inr (drop_all j b le) ]

  -- no room for the rest of the first list
  pub no_room_first : (R : ℕ) → R < length (items ++ take (length a - i) (drop i a)) → R < length (merged a b)
  no_room_first R over =
      no_room R items (drop i a) (drop j b) (drop i a ++ drop j b) (merged a b)
      (subst (λ (l : List Term). R < length (items ++ l)) (take_rest a i) over) refl lacks

  module _ (more : List Term) (is_more : more ≡ items ++ take (length a - i) (drop i a)) where
    -- what lacks after the rest of the first list
    with_rest : more ++ take (length b - j) (drop j b) ≡ merged a b
    with_rest =
        ap (λ l. more ++ l) (take_rest b j)
        ∙ moved items (drop i a) (drop j b) (drop i a ++ drop j b) (merged a b) more
        (is_more ∙ ap (λ l. items ++ l) (take_rest a i)) refl lacks

    -- no room for the rest of the second list
    pub no_room_second : (R : ℕ) → R < length (more ++ take (length b - j) (drop j b)) → R < length (merged a b)
    no_room_second R over = subst (λ (l : List Term). R < length l) with_rest over

    -- both rests are there
    pub all_merged : (new : List Term) → new ≡ more ++ take (length b - j) (drop j b) → new ≡ merged a b
    all_merged new is_new = is_new ∙ with_rest

-- one more term is scaled
pub scaled-more : (k : ℕ) (ts : List Term) (i : ℕ) (d : Term) → i < length ts
    → scaled_terms k (drop i ts)
    ≡ term_or_none (get_or ts i d).atom (k * (get_or ts i d).coefficient % 2 ^ 32) ++ scaled_terms k (drop (i + 1) ts)
unfolding scaled_terms
scaled-more k ts i d inside = ap (λ l. scaled_terms k l) (drop_more ts i d inside)

-- once all is scaled, nothing lacks
pub scaled-done : (k : ℕ) (items ts : List Term) (i : ℕ)
    → length ts ≤ i → items ++ scaled_terms k (drop i ts) ≡ scaled_terms k ts → items ≡ scaled_terms k ts
unfolding scaled_terms
scaled-done k items ts i done so_far =
    sym (append-nil items) ∙ (ap (λ l. items ++ scaled_terms k l) (sym (drop_all i ts done)) ∙ so_far)
