use Rattle.std.proofs.Common.{◌≡◌, ap, true}
use Rattle.region_mem.specs.declared.faults.Right.TheVariants.{Write}
use Rattle.vector_mem.specs.Transfers.{is_in_a_row, right_of}
use Rattle.vector_mem.proofs.Rows.{is_row}
use Rattle.vector_mem.proofs.Bodies.{body_stored}
use Rattle.vector_mem.specs.Words.{Span}
use Rattle.vector_mem.proofs.transfers.store.Goals as goal

pub returns-then-store_window : goal.returns-then-store_window
returns-then-store_window g c =
    let group = c.data_group-group.result in
    let meaning = c.data_group-group.ensures.meaning in
    let row : is_in_a_row c.args.insn.now.place ≡ true = cc in
    let is = is_row g.row.VLENB c.args.setup.now c.args.insn.now c.args.base c.args.stride c.args.registers.now Write group.bytes group.vl row
    (ap right_of c.requires.direction) (ap (λ (s : Span). s.bytes) meaning) (ap (λ (s : Span). s.vl) meaning) in
    body_stored g.row.VLENB c.args.setup.now c.args.insn.now c.args.base c.args.stride c.args.registers.now c.args.memory.now
    c.store_window.new.memory group _ meaning is (c.store_window.ensures.permitted c.if-store_window.true)
    (c.store_window.ensures.stored c.if-store_window.true)
