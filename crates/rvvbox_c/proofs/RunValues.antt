-- The machine values of a session. Assumes `Logic`.
use Rattle.std.proofs.Common.{◌≡◌, ℕ, List, [], ◌∷◌, ◌++◌, refl, subst}
use seplogic.Ra.Ura.{Ura}
use mir.Syntax.{ty_ptr}
use mir.Raw.{raw as bare}
use mir.Val.{Val, vstruct, of_list, has_ty}
use base.Fml.{Fml}
use base.Fraction.{full_share}
use base.Logic.{ent, guard, guard_i, via, never, fst∗, snd∗}
use contract.Monad.{fact_use}
use types.Logic.{Logic, sem}
use types.Kit.{Item, Goal, Seq, Step, step, ‵, given, ◌$◌, drop, learn, use1, fsplit, fjoin, fpick, fpack, feq_i, feq_l}
use denote.RattleType.{RattleType, Valss}
use denote.Builtin.{RawPtr}
use denote.Memory.{lone}
use denote.RawPtr.{Ptr, block_ptr, null_ptr, ptr_val, lies_at, in_a_block, Testable}
use denote.Steps.{nothing}
use denote.Param.{layout}
use denote.Struct.Struct.{within}
use denote.Struct.Owning.{shape}
use Rattle.std.proofs.cell.Inside.{Good}
use Rattle.std.specs.Box.Ownership.{box_owns}
use Rattle.std.proofs.ResultValues.{and_tt}
use Rattle.std.specs.declared.option.Option.{Option}
use Rattle.std.specs.declared.option.Option.TheVariants.{None, Some}
use Rattle.std.specs.contracts.impls.GlobalAllocator.TheImpl.{ghosts}
use Rattle.std.proofs.GlobalToken.{dealloc_token-Testable}
use Rattle.rvvbox_c.specs.Holds.{global}
use Rattle.rvvbox_c.specs.Running.{StandingView, standing_row, run_owns}
use Rattle.rvvbox_c.specs.contracts.running.Run as run
use Rattle.rvvbox_c.proofs.Values.{alone, ptr_good}

abbrev pub Hd : RattleType
Hd = run.the_row

pub alone_good : (p : Ptr) → Good (layout Hd) (alone p)
alone_good p = (and_tt (has_ty ty_ptr (ptr_val p)) (ptr_good p).0, ((ptr_good p).1, tt))

abbrev pub boxed : Ptr → StandingView → Fml
boxed p a = box_owns (ghosts.dealloc_token global) standing_row p a

module _ {M : Type 1} {𝓤 : Ura M} (𝓛 : Logic 𝓤) where
  pub tested : (p : Ptr) (a : StandingView) → ent 𝓤 (sem 𝓛 (boxed p a)) (guard 𝓤 (Testable p) (sem 𝓛 (boxed p a)))
  tested p a = fact_use 𝓤 (Testable p) (via 𝓤 _ (snd∗ 𝓤 (sem 𝓛 (lies_at standing_row full_share p a)) (sem 𝓛 (ghosts.dealloc_token global (bare (lone standing_row.mir)) p))) (dealloc_token-Testable 𝓛 global (bare (lone standing_row.mir)) p)) (guard_i 𝓤 (Testable p) (sem 𝓛 (boxed p a)))

module _ {M : Type 1} {𝓤 : Ura M} {𝓛 : Logic 𝓤} {K : Type 0} {Γ : List (Item 𝓤)} {G : Goal 𝓤 𝓛.H} where
  pub run_made : K → (p : Ptr) (x : Option StandingView) → Step K 𝓛 (‵ (Hd.own_val (record { at = p; kept = x }) (alone p ∷ [])) ∷ Γ) G (‵ (run_owns p x) ∷ Γ) G
  run_made t p x = step (λ s.
      nothing t $ feq_i t (List Val) (ptr_val p ∷ []) (ptr_val p ∷ []) refl $ fjoin t $ feq_i t (List Val) (alone p ∷ []) (alone p ∷ []) refl $ fjoin t $
      fpack t (Valss (RawPtr ∷ [])) (within (shape run.the_type) (p, tt) (alone p ∷ [])) (ptr_val p ∷ [], tt) $ fjoin t $ s)

  pub run_taken : K → (d : Hd.Denot) (vs : List Val) → (vs ≡ alone d.at ∷ [] → Seq K 𝓛 (‵ (run_owns d.at d.kept) ∷ Γ) G) → Seq K 𝓛 (‵ (Hd.own_val d vs) ∷ Γ) G
  run_taken t d vs k =
      fsplit t $ fpick t (λ vss. fsplit t $ feq_l t (λ ev. fsplit t $ feq_l t (λ ep. drop t $ k (subst (λ (ps : List Val). vs ≡ vstruct (of_list (ps ++ [])) ∷ []) ep ev))))

  pub either_run : K → (p : Ptr) (x : Option StandingView) → (p ≡ null_ptr → x ≡ None → Seq K 𝓛 Γ G)
      → ((b o : ℕ) (a : StandingView) → p ≡ block_ptr b o → x ≡ Some a → Testable (block_ptr b o) → Seq K 𝓛 (‵ (boxed (block_ptr b o) a) ∷ Γ) G) → Seq K 𝓛 (‵ (run_owns p x) ∷ Γ) G
  either_run t p None none one = feq_l t (λ e. none e refl)
  either_run t p (Some a) none one = in_a_block t p (λ q. boxed q a) (fst∗ 𝓤 (never 𝓤) (sem 𝓛 (ghosts.dealloc_token global (bare (lone standing_row.mir)) null_ptr))) (λ b o e.
      use1 𝓛 (given (Testable (block_ptr b o)) (‵ (boxed (block_ptr b o) a))) (tested 𝓛 (block_ptr b o) a) $ learn t (λ u. one b o a e refl u))
