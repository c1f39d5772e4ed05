-- `empty` makes a null pointer.
use Rattle.std.proofs.Common.{[], ◌∷◌, ◌≡◌, refl}
use mir.Val.{Val}
use base.Logic.{SProp, emp}
use base.Fml.{ftrue}
use types.Kit.{‵, raw, ◌⊛◌, ◌$◌, ◌∵◌, !, qed, by, keep, split, use0, feq_i}
use types.Run.{lit, no_more, and_then, returns, enter}
use types.ByLocal.{alloc_all, pass_all, free_all, look_at, sets}
use types.Part.{agg}
use contract.Monad.{fact, fact_i}
use contract.Running.{tables}
use denote.RawPtr.{Ptr, null_ptr}
use denote.Triple.Walked.{Stays, walk_of}
use Rattle.std.specs.declared.option.Option.{Option}
use Rattle.std.specs.declared.option.Option.TheVariants.{None}
use Rattle.std.proofs.raw_atomic.Walks.{proved_at, leaves}
use Rattle.rvvbox_c.specs.Running.{StandingView}
use Rattle.rvvbox_c.proofs.Values.{alone}
use Rattle.rvvbox_c.proofs.RunValues.{alone_good, run_made}
use Rattle.rvvbox_c.specs.contracts.running.Run.empty.{ended, clauses}
use Rattle.rvvbox_c.specs.contracts.running.Run.empty.Key.{name as #self}
use Rattle.rvvbox_c.proofs.running.Run.empty.Statement.{statement}
use Rattle.rvvbox_c.proofs.running.Run.empty.Code as code

pub empty_spec : {M : Type 1} → statement M
empty_spec 𝓤 𝓛 𝓜 𝓡 wired =
    let H = 𝓛.H in let 𝓣 = tables 𝓤 H 𝓜 𝓡 𝓡.env in let En = ended in let c = clauses 𝓛 𝓜.mem 𝓡.returns in let fn = code.function in let hs : Stays En.signature.params En.kept = tt in
    proved_at 𝓛 En hs c 𝓜 𝓡 tt #self fn (code.unfolded 𝓤 H 𝓜 𝓡 wired) (λ z are.
    let Post : Val → SProp 𝓤 = (walk_of 𝓛 En hs c).post z in let none : Option StandingView = None in
    qed 𝓛 ((‵ ftrue ⊛ ‵ ftrue) ∷ raw ((c z.0.0 z.0.3).requires z.1) ∷ []) ∵ split ! $
    enter ! 𝓣.C 𝓣.Λ fn [] Post $ alloc_all ! (λ l. pass_all ! refl tt $ sets ! (agg ! (and_then ! (lit ! tt) (no_more !))) refl (alone_good null_ptr) $
    feq_i ! Ptr null_ptr null_ptr refl $ run_made ! null_ptr none $
    use0 𝓛 (raw (fact 𝓤 (none ≡ none))) (fact_i 𝓤 (none ≡ none) (emp 𝓤) refl) $
    returns ! (look_at ! 0 refl) $ free_all ! refl $ keep ! (2 ∷ 3 ∷ 1 ∷ 0 ∷ []) $ by ! (leaves 𝓛 En hs c z (alone null_ptr) (record { at = null_ptr; kept = none }) tt tt)))
