use Rattle.std.proofs.Common.{◌≡◌, ◌+◌, ◌*◌, ◌≤◌, ap, sym, ◌∙◌, arith, get_or}
use Rattle.std.proofs.lemmas.List.{get_or-replicate}
use Rattle.lane_file.specs.InPlace.{is_active}
use Rattle.lane_file.proofs.Steps.{inside, place_in}
use Rattle.lane_file.proofs.Masks.{differ}
use Rattle.lane_file.proofs.flags.active_flags.Goals.{then-masked, else-masked}
use Rattle.lane_file.proofs.flags.active_flags.Goals as goal

pub returns-clause-set : goal.returns-clause-set
returns-clause-set g c = λ j k lt less yes.
    let s = g.E.Lane.size in
    let i = g.E.Lane.count * c.args.m + j in
    let at : s * i ≡ 16 * c.args.m + s * j = place_in s g.E.Lane.count c.args.m j g.E.Lane.sizes in
    let within : s * j + s ≤ 16 = inside s g.E.Lane.count j g.E.Lane.sizes lt in
    elim c.if-masked.branch [
      | then-masked w ↦
          let size : i * w.size.result ≡ i * s = ap (λ z. i * z) w.size.ensures in
          omega (
            arith,
            ap (λ l. get_or l (s * j + k) 0) w.result-is,
            (w.mask_flags.ensures (s * j + k) i (omega (arith, within, less)) (omega (arith, at, size)) (omega (arith, at, size, less, w.size.ensures))).0 (ap (λ b. is_active g.row.VLENB b i c.args.registers.now) (sym w.if-masked.true) ∙ yes),
          )
      | else-masked w ↦
          let e : get_or c.if-masked.result (s * j + k) 0 ≡ 255 = ap (λ l. get_or l (s * j + k) 0) w.result-is ∙ get_or-replicate 16 (s * j + k) 255 0 (omega (arith, within, less)) in
          omega (arith, e)
    ]

pub returns-clause-clear : goal.returns-clause-clear
returns-clause-clear g c = λ j k lt less no.
    let s = g.E.Lane.size in
    let i = g.E.Lane.count * c.args.m + j in
    let at : s * i ≡ 16 * c.args.m + s * j = place_in s g.E.Lane.count c.args.m j g.E.Lane.sizes in
    let within : s * j + s ≤ 16 = inside s g.E.Lane.count j g.E.Lane.sizes lt in
    elim c.if-masked.branch [
      | then-masked w ↦
          let size : i * w.size.result ≡ i * s = ap (λ z. i * z) w.size.ensures in
          ap (λ l. get_or l (s * j + k) 0) w.result-is
          ∙ (w.mask_flags.ensures (s * j + k) i (omega (arith, within, less)) (omega (arith, at, size)) (omega (arith, at, size, less, w.size.ensures))).1 (ap (λ b. is_active g.row.VLENB b i c.args.registers.now) (sym w.if-masked.true) ∙ no)
      | else-masked w ↦ differ (is_active g.row.VLENB c.args.masked i c.args.registers.now) (ap (λ b. is_active g.row.VLENB b i c.args.registers.now) w.if-masked.false) no
    ]
