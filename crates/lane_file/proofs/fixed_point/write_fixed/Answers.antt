use Rattle.std.proofs.Common.{ℕ, ap, arith, subst, sym, ◌∙◌}
use Rattle.lane_fixed.specs.Chunks.{lane_saturates}
use Rattle.vreg_groups.specs.Group.{IsSize, Span}
use Rattle.lane_file.specs.InPlace.{IsSecondWithin}
use Rattle.lane_file.proofs.Calls.{bytes_is, saturated_at, second_within, sizes_of}
use Rattle.lane_file.proofs.fixed_point.write_fixed.Goals as goal

pub any_saturated-saturated-requires : goal.any_saturated-saturated-requires
any_saturated-saturated-requires g c =
    let s = c.args.setup.now in (
      omega arith,
      (
        omega arith,
        (
          sym (ap (λ (z : Span). z.first) c.group-group.ensures),
          (
            c.requires.size ∙ bytes_is s.vtype.sew ∙ sym (ap (λ (z : Span). z.bytes) c.group-group.ensures),
            (
              subst IsSize (sym c.requires.size) (sizes_of s.vtype.sew),
              subst (λ (z : ℕ). IsSecondWithin z c.args.b) (sym (ap (λ (z : Span). z.count) c.group-group.ensures)) (second_within s.vtype c.args.b c.requires.b_inside),
            ),
          ),
        ),
      ),
    )

pub returns-clause-saturated : goal.returns-clause-saturated
returns-clause-saturated g c =
    saturated_at g.row.VLENB c.args.vs2 c.args.setup.now c.group-group.result g.E.Lane.number (lane_saturates c.args.op g.E.Lane.width) c.args.b c.args.masked c.args.registers.now c.any_saturated-saturated.result
    c.group-group.ensures c.any_saturated-saturated.ensures
