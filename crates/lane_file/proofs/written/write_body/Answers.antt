use Rattle.std.proofs.Common.{ℕ, ◌==◌, ◌&&◌, inl, inr, ap, arith, subst, sym, ◌∙◌}
use Rattle.std.proofs.lemmas.Bool.Decides.{eqb_tells}
use Rattle.rv_decode.specs.declared.extents.Eew.TheVariants.{Same}
use Rattle.vreg_groups.specs.Group.{IsSize, Span}
use Rattle.vreg_groups.specs.Legality.{group_count}
use Rattle.lane_file.specs.InPlace.{IsSecondWithin, are_apart, is_second_apart, second_of}
use Rattle.lane_file.proofs.Calls.{all_is, all_told, bytes_is, group_within, mask_off, none_is, second_within, sizes_of}
use Rattle.lane_file.proofs.written.write_body.Goals as goal

pub write-requires : goal.write-requires
write-requires g c =
    let s = c.args.setup.now in
    let group = c.group-group.result in
    let all = group_count s.vtype Same in
    let told = all_told (are_apart all c.args.vd c.args.vs2) (is_second_apart all c.args.vd c.args.b) (c.args.masked && (c.args.vd == 0)) c.requires.free in
    let count = ap (λ (z : Span). z.count) c.group-group.ensures in (
      omega arith,
      (
        omega arith,
        (
          c.requires.call,
          (
            sym (ap (λ (z : Span). z.first) c.group-group.ensures),
            (
              c.requires.size ∙ bytes_is s.vtype.sew ∙ sym (ap (λ (z : Span). z.bytes) c.group-group.ensures),
              (
                subst IsSize (sym c.requires.size) (sizes_of s.vtype.sew),
                (
                  omega (arith, count, group_within s.vtype c.args.vs2 c.requires.vs2_inside),
                  (
                    subst (λ (z : ℕ). IsSecondWithin z c.args.b) (sym count) (second_within s.vtype c.args.b c.requires.b_inside),
                    (
                      ap (λ z. are_apart z c.args.vd c.args.vs2) count ∙ told.0,
                      (
                        ap (λ z. is_second_apart z c.args.vd c.args.b) count ∙ told.1,
                        mask_off c.args.masked c.args.vd told.2,
                      ),
                    ),
                  ),
                ),
              ),
            ),
          ),
        ),
      ),
    )

pub returns-then-setup-ne0 : goal.returns-then-setup-ne0
returns-then-setup-ne0 g c =
    let s = c.args.setup.now in
    all_is g.row.VLENB c.args.vd c.args.vs2 s c.group-group.result c.policy.result g.E.Lane.number (g.K.Kernel.answer c.args.op g.E.Lane.width) c.args.b c.args.masked c.args.registers.now c.write.new.registers
    (elim (eqb_tells s.vl 0) [
      | inl e ↦ absurd (omega (arith, e.1, c.if-setup-ne0.true))
      | inr e ↦ e.0
    ])
    c.group-group.ensures c.policy.ensures c.write.ensures

pub returns-else-setup-ne0 : goal.returns-else-setup-ne0
returns-else-setup-ne0 g c =
    let s = c.args.setup.now in
    none_is g.row.VLENB c.args.vd c.args.vs2 s (g.K.Kernel.answer c.args.op g.E.Lane.width) (second_of g.row.VLENB g.E.Lane.number s c.args.b c.args.registers.now) c.args.masked c.args.registers.now
    (elim (eqb_tells s.vl 0) [
      | inl e ↦ e.0
      | inr e ↦ absurd (e.1 (omega (arith, c.if-setup-ne0.false)))
    ])
