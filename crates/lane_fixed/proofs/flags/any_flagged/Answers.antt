use Rattle.std.proofs.Common.{◌≡◌, ◌∙◌, ◌==◌, ◌||◌, ◌&&◌, not, false, ap, get_or, map, length, refl, arith}
use Rattle.std.proofs.lemmas.List.{length-map}
use Rattle.lane_fixed.proofs.KernelLemmas.{number_at, one_more, any_all}
use Rattle.lane_fixed.proofs.flags.any_flagged.Goals as goal

pub loop-i-init : goal.loop-i-init
loop-i-init g c = refl

pub loop-i-preserved : goal.loop-i-preserved
loop-i-preserved g c =
    let number = g.T.Flag.number in
    let fs = map number c.args.flags.now in
    let long : length fs ≡ length c.args.flags.now = length-map c.args.flags.now number in
    let x = number_at number c.args.flags.now c.loop-i.i c.index-flags-i.result (omega arith) c.index-flags-i.is in
    one_more (λ f h. not (f == 0)) fs fs c.args.active.now c.loop-i.i (number c.index-flags-i.result) (number c.index-flags-i.result) (get_or c.args.active.now c.loop-i.i false) c.loop-i.is_saturated c.or_active-is_saturated.result (omega arith) refl (omega (arith, c.requires)) x x refl c.loop-i.invariant (c.or_active-is_saturated.ensures ∙ ap (λ s. c.loop-i.is_saturated || (get_or c.args.active.now c.loop-i.i false && s)) c.is_set.ensures)

pub returns : goal.returns
returns g c =
    let fs = map g.T.Flag.number c.args.flags.now in
    let long : length fs ≡ length c.args.flags.now = length-map c.args.flags.now g.T.Flag.number in
    any_all (λ f h. not (f == 0)) fs fs c.args.active.now c.loop-i.i c.loop-i.is_saturated (omega arith) refl (omega (arith, c.requires)) c.loop-i.invariant
