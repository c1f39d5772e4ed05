use Rattle.std.proofs.Common.{◌≡◌, ◌∙◌, ◌*◌, ap, sym, true, ℕ, List}
use Rattle.region_mem.specs.Memory.{has_window, with_window}
use Rattle.vreg_groups.specs.Group.{body_of}
use Rattle.vector_mem.proofs.Rows.{positive, row_stored, row_writable}
use Rattle.vector_mem.proofs.windows.store_window.Goals as goal
use Rattle.vector_mem.proofs.Rooms.{body_length}

pub returns-clause-permitted : goal.returns-clause-permitted
returns-clause-permitted g c = λ _.
    let group = c.args.group.now in
    let memory = c.args.memory.now in
    let has : has_window c.args.base (group.bytes * group.vl) memory ≡ true = cc in
    row_writable memory group.bytes c.args.base group.vl c.stores_in_windows.ensures.bounds c.stores_in_windows.ensures.permitted has
    (positive group.bytes c.requires)

pub returns-clause-stored : goal.returns-clause-stored
returns-clause-stored g c = λ _.
    let group = c.args.group.now in
    let memory = c.args.memory.now in
    let has : has_window c.args.base (group.bytes * group.vl) memory ≡ true = cc in
    c.set_window.ensures
    ∙ ap (λ (l : List ℕ). with_window c.args.base l memory) (sym c.body_bytes-bytes.ensures.bytes)
    ∙ sym (row_stored memory group.bytes c.args.base group.vl (body_of g.row.VLENB group c.args.registers.now)
    c.stores_in_windows.ensures.bounds c.stores_in_windows.ensures.filled has (positive group.bytes c.requires)
    (body_length g.row.VLENB group c.args.registers.now))
