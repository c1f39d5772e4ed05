use Rattle.std.proofs.Common.{◌≡◌, ◌∙◌, ap, replicate, true}
use Rattle.region_mem.specs.declared.faults.Right.TheVariants.{Read}
use Rattle.vreg_groups.specs.Group.{written}
use Rattle.vector_mem.specs.Accesses.{in_a_row, loaded}
use Rattle.vector_mem.specs.Transfers.{is_in_a_row, right_of}
use Rattle.vector_mem.specs.Words.{Policy, Span}
use Rattle.vector_mem.proofs.Rows.{is_row}
use Rattle.vector_mem.proofs.Bodies.{body_loaded}
use Rattle.vector_mem.proofs.transfers.load.Goals as goal

pub returns-then-load_window : goal.returns-then-load_window
returns-then-load_window g c =
    let group = c.data_group-group.result in
    let meaning = c.data_group-group.ensures.meaning in
    let row : is_in_a_row c.args.insn.now.place ≡ true = cc in
    let is = is_row g.row.VLENB c.args.setup.now c.args.insn.now c.args.base c.args.stride c.args.registers.now Read group.bytes group.vl row
    (ap right_of c.requires.direction) (ap (λ (s : Span). s.bytes) meaning) (ap (λ (s : Span). s.vl) meaning) in
    let values = loaded group.vl (in_a_row Read group.bytes c.args.base group.vl) c.args.memory.now in
    body_loaded g.row.VLENB c.args.setup.now c.args.insn.now c.args.base c.args.stride c.args.registers.now c.load_window.new.registers
    c.args.memory.now group _ row (c.load_window.ensures.some c.if-load_window.true) meaning is
    (c.load_window.ensures.permitted c.if-load_window.true)
    (c.load_window.ensures.loaded c.if-load_window.true
    ∙ ap (λ (p : Policy). written g.row.VLENB group p values (replicate group.vl true) c.args.registers.now) c.policy.ensures)
