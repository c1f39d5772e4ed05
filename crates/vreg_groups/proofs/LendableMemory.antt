-- A lendable array in memory is its items side by side, and back.
use mathlib.Core.Path.{◌≡◌, refl, sym}
use Prim.Native.Nat.{ℕ, zero, ◌+◌}
use mathlib.Core.List.{List, [], ◌∷◌}
use lib.ListN.{length}
use seplogic.Ra.Ura.{Ura}
use mir.Syntax.{Ty, Args, a_type, a_number, ty_array, ty_struct}
use base.Logic.{SProp, ent, sep, guard}
use base.Fraction.{full_share}
use base.Fml.{Fml, ftrue, fsep, feq}
use prog.Memory.{align, up}
use types.Logic.{Logic, sem}
use types.SemTy.{cells}
use types.Kit.{‵, ◌⊛◌, raw, ◌$◌, ◌∵◌, !, qed, move, drop, split, fsplit, fjoin, use1, use2, done, rewrite, feq_l, feq_i, check}
use denote.Array.{Array}
use denote.ArrayMemory.{Array-apart, Array-whole}
use denote.Index.{row, whole_in, whole_out}
use denote.Memory.{mem, part_at}
use denote.Param.{param, number, layout, layouts, ArrayAt}
use denote.Param.Laws.{Laws, param_laws, number_array_laws}
use denote.RattleType.{RattleType}
use denote.Steps.{nothing}
use denote.Struct.Declared.{shape}
use denote.Struct.Members.{Member, raw_tys}
use denote.Struct.Parts.{shape_of, Struct-left, left_Struct}
use denote.Struct.Recorded.{Recorded-part}
use denote.Struct.Struct.{Struct}
use Rattle.vreg_groups.specs.contracts.lendable.Lendable.{the_row, the_type}

module _ (X : RattleType) (n : ℕ) where
  abbrev pub args : Args
  args = layouts (a_type ∷ a_number ∷ []) (X, (number n, tt))

  -- the type of an element, the length, and the struct
  abbrev pub R : RattleType
  R = param 0 X

  abbrev pub N : RattleType
  N = param 1 (number n)

  abbrev pub S : RattleType
  S = the_row R N

  abbrev pub array_ty : Ty
  array_ty = ty_array (layout X) n

  -- where the array begins, in a struct at the offset o
  abbrev pub start : ℕ → ℕ
  start o = o + up (align array_ty) zero

  abbrev pub fields : List Member
  fields = record { row = ArrayAt R N; ty = array_ty } ∷ []

  abbrev pub Tuple : RattleType
  Tuple = Struct (shape_of (the_type R N).name fields)

  as_tuple : (v : S.Denot) (b o : ℕ)
      → part_at S full_share v b o ≡ part_at Tuple full_share (v.items, tt) b o
  as_tuple v b o =
      let D = the_type R N in Recorded-part (Struct (shape D)) D.D D.to D.to_one full_share v b o

  module _ {M : Type 1} {𝓤 : Ura M} (𝓛 : Logic 𝓤) (b o : ℕ) where
    open 𝓛 use {H}

    -- what is left of the struct while its field is out
    abbrev pub Left : SProp 𝓤
    Left = H.left full_share (ty_struct [] (raw_tys fields)) (raw_tys fields) b o

    pub elements_out : Laws X → (v : S.Denot) → ent 𝓤 (sem 𝓛 ((mem S).own_at v b o))
        (guard 𝓤 (length v.items ≡ n) (sep 𝓤 (sem 𝓛 (cells (mem R) v.items b (start o))) Left))
    elements_out L v =
        let lone = (number_array_laws R (param_laws 0 X L) N refl).single in
        qed 𝓛 (‵ (part_at S full_share v b o) ∷ []) ∵
        rewrite ! 0 (λ (f : Fml). ‵ f) (as_tuple v b o) refl $
        use1 𝓛 (‵ (fsep (part_at (Array R n) full_share v.items b (start o)) ftrue) ⊛ raw Left)
        (Struct-left 𝓛 full_share (the_type R N).name fields (lone, tt) (v.items, tt) b o) $
        split ! $ fsplit ! $ move ! (1 ∷ []) $ drop ! $
        use1 𝓛 (‵ (fsep (feq ℕ (length v.items) n) (row R full_share v.items b (start o))))
        (Array-apart 𝓛 R full_share tt n v.items b (start o)) $ fsplit ! $ feq_l ! (λ long.
        use1 𝓛 (‵ (cells (mem R) v.items b (start o))) (whole_in 𝓛 R v.items b (start o)) $
        check ! long $ done !)

    pub elements_in : (v : S.Denot) → length v.items ≡ n
        → ent 𝓤 (sep 𝓤 (sem 𝓛 (cells (mem R) v.items b (start o))) Left) (sem 𝓛 ((mem S).own_at v b o))
    elements_in v long =
        qed 𝓛 (‵ (cells (mem R) v.items b (start o)) ∷ raw Left ∷ []) ∵
        use1 𝓛 (‵ (row R full_share v.items b (start o))) (whole_out 𝓛 R v.items b (start o)) $
        feq_i ! ℕ (length v.items) n long $ fjoin ! $
        use1 𝓛 (‵ (part_at (Array R n) full_share v.items b (start o)))
        (Array-whole 𝓛 R full_share n v.items b (start o)) $
        nothing ! $ move ! (1 ∷ 0 ∷ []) $ fjoin ! $
        use2 𝓛 (‵ (part_at Tuple full_share (v.items, tt) b o))
        (left_Struct 𝓛 full_share (the_type R N).name fields (v.items, tt) b o) $
        rewrite ! 0 (λ (f : Fml). ‵ f) (sym (as_tuple v b o)) refl $ done !
