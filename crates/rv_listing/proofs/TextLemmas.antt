-- Texts of a list, one after the other.
use Rattle.std.proofs.Common.{◌≡◌, ◌<◌, ◌∙◌, ℕ, zero, suc, List, [], ◌∷◌, ◌++◌, take, drop, get_or, length, refl, sym, ap, append_assoc, arith}
use Rattle.std.proofs.lemmas.List.{append-nil}

-- the texts of all, from that of each, by the two equations of their definition
module _ {X : Type 0} (text : X → List ℕ) (texts : List X → List ℕ) (none : texts [] ≡ [])
    (more : (p : X) (ps : List X) → texts (p ∷ ps) ≡ text p ++ texts ps) where
  pub texts-next : (ps : List X) (i : ℕ) (d : X) → i < length ps → texts (take (suc i) ps) ≡ texts (take i ps) ++ text (get_or ps i d)
  texts-next [] i d below = absurd (omega (arith, below))
  texts-next (p ∷ ps) zero d below = rw (more p [], none) (append-nil (text p))
  texts-next (p ∷ ps) (suc i) d below =
      rw (more p (take (suc i) ps), more p (take i ps))
      (ap (λ t. text p ++ t) (texts-next ps i d (omega (arith, below))) ∙ sym (append_assoc (text p) (texts (take i ps)) (text (get_or ps i d))))

  pub texts-rest : (ps : List X) (i : ℕ) (d : X) → i < length ps
      → texts (take i ps) ++ (text (get_or ps i d) ++ texts (drop (suc i) ps)) ≡ texts ps
  texts-rest [] i d below = absurd (omega (arith, below))
  texts-rest (p ∷ ps) zero d below = rw (none, more p ps) refl
  texts-rest (p ∷ ps) (suc i) d below =
      rw (more p (take i ps), more p ps)
      (append_assoc (text p) (texts (take i ps)) _ ∙ ap (λ t. text p ++ t) (texts-rest ps i d (omega (arith, below))))

-- a name and its suffix, as two pieces before the fields
pub head_text : (a b c : List ℕ) → (a ++ (b ++ [])) ++ c ≡ a ++ (b ++ c)
head_text a b c = rw (append-nil b) (append_assoc a b c)
