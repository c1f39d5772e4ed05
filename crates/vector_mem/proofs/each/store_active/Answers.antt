use Rattle.std.proofs.Common.{◌≡◌, ◌∙◌, ◌+◌, ◌-◌, ◌%◌, ◌^◌, ◌<◌, ap, arith, false, true, get_or, length, map, refl, sym, Some}
use Rattle.std.specs.List.{fold}
use Rattle.std.specs.Option.{option_map}
use Rattle.std.specs.Prelude.{find, unwrap_or}
use Rattle.std.proofs.lemmas.Grind.{common_steps}
use Rattle.region_mem.specs.Memory.{Memory, is_permitted, store_of}
use Rattle.region_mem.specs.declared.faults.Right.TheVariants.{Write}
use Rattle.vector_mem.specs.declared.plan.Access.{Access}
use Rattle.vector_mem.specs.Accesses.{access_at, accesses_from, first_refused, is_refused, stored, with_stored}
use Rattle.vector_mem.proofs.Plans.{from_active, from_inactive, from_start}
use Rattle.vector_mem.specs.StepLemmas.{passed_first, stored_here, tested_first}
use Rattle.vector_mem.proofs.each.store_active.Goals.{then-active-i+else-not-permits, else-active-i, then-active-i-2, else-active-i-2}
use Rattle.vector_mem.proofs.each.store_active.Goals as goal

pub loop-i-init : goal.loop-i-init
unfolding first_refused
loop-i-init g c = λ place there.
    ap (find (is_refused c.args.memory.now)) (from_start Write g.E.Element.SIZE place c.args.active.now)

pub returns-then-not-permits-clause-refused : goal.returns-then-not-permits-clause-refused
unfolding first_refused
returns-then-not-permits-clause-refused g c = λ place there.
    let size = g.E.Element.SIZE in
    let memory = c.args.memory.now in
    let active = c.args.active.now in
    let i = c.loop-i.i in
    let below : i < length active = omega arith in
    let at : c.address-place.result ≡ place i % 2 ^ 32 = there i c.address-place.result below c.address-place.ensures in
    let denied : is_permitted Write (place i % 2 ^ 32) size memory ≡ false = cc in
    let this = from_active Write size place active i below c.if-active-i.true in
    ap Some at
    ∙ tested_first memory (access_at Write size place i) _ _ denied this
    ∙ ap (option_map (λ (a : Access). a.address)) (c.loop-i.invariant place there)

pub loop-i-preserved : goal.loop-i-preserved
unfolding first_refused
loop-i-preserved g c =
    let size = g.E.Element.SIZE in
    let memory = c.args.memory.now in
    let active = c.args.active.now in
    let i = c.loop-i.i in
    let below : i < length active = omega arith in
    elim c.if-active-i.branch [
      | then-active-i+else-not-permits w ↦ λ place there.
          let at = there i w.address-place.result below w.address-place.ensures in
          let granted : is_permitted Write (place i % 2 ^ 32) size memory ≡ true = cc in
          passed_first memory (access_at Write size place i) _ _ granted (from_active Write size place active i below w.if-active-i.true)
          ∙ c.loop-i.invariant place there
      | else-active-i w ↦ λ place there.
          sym (ap (find (is_refused memory)) (from_inactive Write size place active i below w.if-active-i.false))
          ∙ c.loop-i.invariant place there
    ]

pub loop-i-2-init : goal.loop-i-2-init
unfolding stored
loop-i-2-init g c = λ place there.
    ap (fold (with_stored (map g.E.Element.number c.args.values.now)) c.args.memory.now) (from_start Write g.E.Element.SIZE place c.args.active.now)

pub loop-i-2-preserved : goal.loop-i-2-preserved
unfolding stored
loop-i-2-preserved g c =
    let size = g.E.Element.SIZE in
    let numbers = map g.E.Element.number c.args.values.now in
    let active = c.args.active.now in
    let i = c.loop-i-2.i in
    let before : Memory = c.loop-i-2.memory in
    let below : i < length active = omega arith in
    elim c.if-active-i-2.branch [
      | then-active-i-2 w ↦
          let value : w.to_number.result ≡ get_or numbers i 0 = grind (arith, common_steps) in
          λ place there.
          let at = there i w.address.result below w.address.ensures in
          let next : c.if-active-i-2.memory ≡ unwrap_or (store_of (place i % 2 ^ 32) size w.to_number.result before) before = cc in
          let rest = accesses_from Write size place active (i + 1) (length active - (i + 1)) in
          ap (λ (m : Memory). fold (with_stored numbers) m rest)
          (stored_here before c.if-active-i-2.memory numbers size w.to_number.result (access_at Write size place i) refl value next)
          ∙ sym (ap (fold (with_stored numbers) before) (from_active Write size place active i below w.if-active-i-2.true))
          ∙ c.loop-i-2.invariant place there
      | else-active-i-2 w ↦ λ place there.
          let same : c.if-active-i-2.memory ≡ before = cc in
          let rest = accesses_from Write size place active (i + 1) (length active - (i + 1)) in
          ap (λ (m : Memory). fold (with_stored numbers) m rest) same
          ∙ sym (ap (fold (with_stored numbers) before) (from_inactive Write size place active i below w.if-active-i-2.false))
          ∙ c.loop-i-2.invariant place there
    ]
