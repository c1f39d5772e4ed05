use Rattle.std.proofs.Common.{arith, ◌≡◌, ◌+◌, ◌*◌, ◌≤◌, ap, length, refl, sym, take, ◌∙◌}
use Rattle.vreg_groups.specs.Elements.{bytes_from}
use Rattle.vreg_groups.specs.NewElements.{overlaid_within}
use Rattle.vreg_groups.proofs.LoanLemmas.{group_room, overlaid_first, part_first, part_length}
use Rattle.vreg_groups.proofs.registers.VregFile.group_mut.Goals as goal

pub returns : goal.returns
returns g c =
    let v = g.row.VLENB in
    let items = c.self.inside.bytes.items in
    let n = c.args.count * v in
    let from = c.place_of-at.result in
    let at : from ≡ c.args.first * v = c.place_of-at.ensures.meaning in
    let all : 32 * v ≤ length items = omega arith in
    let inside : from + n ≤ 32 * v = omega (arith, at, group_room c.args.first c.args.count v c.requires) in (
      (
        refl,
        λ w. rw (← c.self.view_is) (
            overlaid_first (32 * v) from items w (omega arith) all ∙ ap (λ k. overlaid_within k (take (32 * v) items) w) at
            ),
      ),
      record {
        lent = tt;
        meaning = rw (← c.self.view_is) (
            c.part_mut.ensures.value ∙ sym (part_first (32 * v) from n items inside)
            ∙ ap (λ k. bytes_from k n (take (32 * v) items)) at
            );
        size = ap length c.part_mut.ensures.value ∙ part_length from n items (omega (arith, all, inside));
      },
    )
