-- The new term is the last one.
use Rattle.std.proofs.Common.{◌≡◌, ℕ, ◌^◌, ◌<◌, ◌≤◌, List, [], ◌∷◌, ◌++◌, length, sym, ap, subst, arith}
use Rattle.linear_facts.specs.Words.{Term}
use Rattle.linear_facts.specs.Forms.{Linear, RisesFrom, IsForm}
use Rattle.linear_facts.specs.Laws.{AreBelow}
use Rattle.linear_facts.specs.LocalityLemmas.{rises-appended}
use Rattle.linear_facts.proofs.forms.Form.with_term.Goals as goal

-- a form and one term more
appended-IsForm : (R c : ℕ) (f : Linear) (xs ts : List Term) (t : Term) → record { constant = c; terms = xs } ≡ f → ts ≡ xs ++ t ∷ []
    → c < 2 ^ 32 → RisesFrom 0 xs → length ts ≤ R → AreBelow t.atom f.terms → 0 < t.coefficient → t.coefficient < 2 ^ 32
    → IsForm R record { constant = c; terms = ts }
appended-IsForm R c f xs ts t is more fits rises room below some small =
    let own : AreBelow t.atom xs = subst (λ (g : Linear). AreBelow t.atom g.terms) (sym is) below in
    record {
      constant_fits = fits;
      rises = subst (λ (l : List Term). RisesFrom 0 l) (sym more) (rises-appended 0 xs t rises own (omega arith) some small);
      has_room = room;
    }

pub invariant_of-result : goal.invariant_of-result
invariant_of-result g c =
    appended-IsForm _ _ _ _ _ c.args.term c.self.view_is c.push.ensures.items c.self.invariant.constant_fits c.self.invariant.rises
    (omega (arith, c.push.ensures.len, c.requires.room, ap (λ (f : Linear). length f.terms) c.self.view_is)) c.requires.above c.requires.coefficient (omega arith)
