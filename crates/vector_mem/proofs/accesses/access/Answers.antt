-- The indices of a legal access are inside the registers, as many as there are elements.
use Rattle.std.proofs.Common.{lit<, ◌≡◌, ◌∙◌, ap, arith, length, sym}
use Rattle.std.proofs.lemmas.Grind.{common_steps}
use Rattle.std.proofs.lemmas.List.{length-take-le}
use Rattle.rv_decode.specs.declared.instructions.Addressing.{Addressing}
use Rattle.vreg_groups.specs.Group.{Span}
use Rattle.vector_mem.specs.Words.{Indexed}
use Rattle.vector_mem.specs.Transfers.{accesses_of, data_at, place_at}
use Rattle.vector_mem.proofs.Inside.{indices_inside}
use Rattle.vector_mem.proofs.Rooms.{body_length, few}
use Rattle.vector_mem.proofs.accesses.access.Goals as goal

pub read_indices-requires : goal.read_indices-requires
read_indices-requires g c =
    let place : c.args.insn.now.place ≡ Indexed c.in-Indexed.width c.in-Indexed.vs2 c.in-Indexed.ordered c.in-Indexed.masked = cc in (
      lit< tt,
      (
        c.requires.setup,
        (
          indices_inside c.args.setup.now.vtype c.args.insn.now _ _ _ _ place c.requires.inside,
          length-take-le c.args.setup.now.vl _ (few _ _ c.requires.setup.vlenb_is c.requires.setup.length.bits),
        ),
      ),
    )

pub indexed_plan-requires-clause-len : goal.indexed_plan-requires-clause-len
unfolding data_at
indexed_plan-requires-clause-len g c =
    let place : c.args.insn.now.place ≡ Indexed c.in-Indexed.width c.in-Indexed.vs2 c.in-Indexed.ordered c.in-Indexed.masked = cc in
    let vl : c.vl.result ≡ c.args.setup.now.vl =
    c.vl.ensures.meaning ∙ ap (λ (s : Span). s.vl) c.data_group-group.ensures.meaning
    ∙ ap (λ (p : Addressing). (data_at g.row.VLENB c.args.setup.now p c.args.insn.now.values).vl) place in
    let indices : length c.read_indices.new.indices ≡ c.args.setup.now.vl = ap length c.read_indices.ensures ∙ body_length _ _ _ in
    let active : length c.read_active.new.active ≡ c.vl.result =
    c.read_active.auto.active
    ∙ length-take-le c.vl.result _ (omega (arith, c.vl.ensures.meaning, few _ _ c.requires.setup.vlenb_is c.data_group-group.ensures.bits)) in
    indices ∙ sym vl ∙ sym active

pub returns-in-Strided : goal.returns-in-Strided
unfolding accesses_of place_at data_at
returns-in-Strided g c = grind (arith, common_steps)
