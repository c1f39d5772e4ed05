use Rattle.std.proofs.Common.{◌≡◌, ◌<◌, ◌∙◌, ap, arith, length, sym}
use Rattle.vector_mem.proofs.Plans.{active_more, all_accesses, inactive_more, pushed_length}
use Rattle.vector_mem.proofs.accesses.plan.Goals.{then-active-element, else-active-element}
use Rattle.vector_mem.proofs.accesses.plan.Goals as goal

pub loop-element-preserved : goal.loop-element-preserved
loop-element-preserved g c =
    let i = c.loop-element.element in
    let below : i < length c.args.active.now = omega arith in
    elim c.if-active-element.branch [
      | then-active-element w ↦
          let pushed = w.push.ensures in
          let plan_is = w.plan-is in
          record {
            plan = λ place there.
                let is = there i w.address.result below w.address.ensures in
                let before = c.loop-element.invariant.plan place there in
                let next = active_more c.args.right c.args.size place c.args.active.now i w.if-active-element.true in
                cc;
            count = pushed_length _ _ _ i (plan_is ∙ pushed) c.loop-element.invariant.count;
          }
      | else-active-element w ↦
          let long : length c.if-active-element.plan ≡ length c.loop-element.plan = ap length w.plan-is in
          record {
            plan = λ place there.
                w.plan-is ∙ c.loop-element.invariant.plan place there
                ∙ sym (inactive_more c.args.right c.args.size place c.args.active.now i w.if-active-element.false);
            count = omega (arith, long, c.loop-element.invariant.count);
          }
    ]

pub returns : goal.returns
returns g c = λ place there.
    c.loop-element.invariant.plan place there
    ∙ all_accesses c.args.right c.args.size place c.args.active.now c.loop-element.element (omega arith)
