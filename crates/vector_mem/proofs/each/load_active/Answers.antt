use Rattle.std.proofs.Common.{◌≡◌, ◌∙◌, ◌+◌, ◌-◌, ◌%◌, ◌^◌, ◌<◌, ap, arith, length, map, refl, replicate, sym, ℕ, List, Some, None}
use Rattle.std.specs.List.{fold}
use Rattle.std.specs.Option.{option_map}
use Rattle.std.specs.Prelude.{find}
use Rattle.std.proofs.lemmas.List.{length-replicate, length-set}
use Rattle.region_mem.specs.Memory.{load_of}
use Rattle.region_mem.specs.declared.faults.Right.TheVariants.{Read}
use Rattle.vector_mem.specs.declared.plan.Access.{Access}
use Rattle.vector_mem.specs.Accesses.{access_at, accesses, accesses_from, first_refused, is_refused, loaded, with_loaded}
use Rattle.vector_mem.proofs.Plans.{from_active, from_inactive, from_start}
use Rattle.vector_mem.specs.StepLemmas.{granted_first, loaded_here, refused_first, splat_numbers, zero_bits}
use Rattle.vector_mem.proofs.each.load_active.Goals.{then-active-i+in-Some, else-active-i}
use Rattle.vector_mem.proofs.each.load_active.Goals as goal

pub loop-i-init : goal.loop-i-init
unfolding first_refused loaded
loop-i-init g c =
    let number = g.E.Element.number in
    let size = g.E.Element.SIZE in
    let memory = c.args.memory.now in
    let active = c.args.active.now in
    let zero : number c.low_bits.result ≡ 0 = c.low_bits.ensures ∙ zero_bits _ in
    let long : length c.splat.new.values ≡ length c.args.values.now = ap length c.splat.ensures ∙ length-replicate _ _ in
    let zeros : map number c.splat.new.values ≡ replicate (length c.splat.new.values) 0 =
    ap (map number) c.splat.ensures
    ∙ splat_numbers number (length c.args.values.now) c.low_bits.result 0 zero
    ∙ ap (λ (n : ℕ). replicate n 0) (sym long) in
    record {
      permitted = λ place there. ap (find (is_refused memory)) (from_start Read size place active);
      so_far = λ place there.
          ap (fold (with_loaded memory) (map number c.splat.new.values)) (from_start Read size place active)
          ∙ ap (λ (l : List ℕ). fold (with_loaded memory) l (accesses Read size place active)) zeros;
      count = long ∙ c.requires.len;
    }

pub returns-in_default-clause-refused : goal.returns-in_default-clause-refused
unfolding first_refused
returns-in_default-clause-refused g c = λ place there.
    let size = g.E.Element.SIZE in
    let memory = c.args.memory.now in
    let active = c.args.active.now in
    let i = c.loop-i.i in
    let below : i < length active = omega arith in
    let at : c.address-place.result ≡ place i % 2 ^ 32 = there i c.address-place.result below c.address-place.ensures in
    let none : load_of (place i % 2 ^ 32) size memory ≡ None = cc in
    let this = from_active Read size place active i below c.if-active-i.true in
    ap Some at
    ∙ refused_first memory (access_at Read size place i) _ _ size refl refl none this
    ∙ ap (option_map (λ (a : Access). a.address)) (c.loop-i.invariant.permitted place there)

pub loop-i-preserved : goal.loop-i-preserved
unfolding first_refused
loop-i-preserved g c =
    let number = g.E.Element.number in
    let size = g.E.Element.SIZE in
    let memory = c.args.memory.now in
    let active = c.args.active.now in
    let i = c.loop-i.i in
    let below : i < length active = omega arith in
    elim c.if-active-i.branch [
      | then-active-i+in-Some w ↦
          let value = w.in-Some.number in
          let new = w.low_bits-then-active-i.result in
          let values_is = w.values-is in
          let long : length c.if-active-i.values ≡ length c.loop-i.values = ap length values_is ∙ length-set c.loop-i.values i new in
          record {
            permitted = λ place there.
                let at = there i w.address-place.result below w.address-place.ensures in
                let some : load_of (place i % 2 ^ 32) size memory ≡ Some value = cc in
                granted_first memory (access_at Read size place i) _ _ size value refl refl some
                (from_active Read size place active i below w.if-active-i.true)
                ∙ c.loop-i.invariant.permitted place there;
            so_far = λ place there.
                let at = there i w.address-place.result below w.address-place.ensures in
                let some : load_of (place i % 2 ^ 32) size memory ≡ Some value = cc in
                let rest = accesses_from Read size place active (i + 1) (length active - (i + 1)) in
                ap (λ l. fold (with_loaded memory) (map number l) rest) values_is
                ∙ ap (λ (l : List ℕ). fold (with_loaded memory) l rest)
                (loaded_here number memory c.loop-i.values new size value (access_at Read size place i) refl some
                w.low_bits-then-active-i.ensures)
                ∙ sym (ap (fold (with_loaded memory) (map number c.loop-i.values)) (from_active Read size place active i below w.if-active-i.true))
                ∙ c.loop-i.invariant.so_far place there
                ∙ ap (λ (n : ℕ). loaded n (accesses Read size place active) memory) (sym long);
            count = long ∙ c.loop-i.invariant.count;
          }
      | else-active-i w ↦
          let values_is = w.values-is in
          record {
            permitted = λ place there.
                sym (ap (find (is_refused memory)) (from_inactive Read size place active i below w.if-active-i.false))
                ∙ c.loop-i.invariant.permitted place there;
            so_far = λ place there.
                let rest = accesses_from Read size place active (i + 1) (length active - (i + 1)) in
                ap (λ l. fold (with_loaded memory) (map number l) rest) values_is
                ∙ sym (ap (fold (with_loaded memory) (map number c.loop-i.values)) (from_inactive Read size place active i below w.if-active-i.false))
                ∙ c.loop-i.invariant.so_far place there
                ∙ ap (λ l. loaded (length l) (accesses Read size place active) memory) (sym values_is);
            count = ap length values_is ∙ c.loop-i.invariant.count;
          }
    ]
