use Rattle.std.proofs.Common.{◌≡◌, ◌∙◌, ◌*◌, ap, replicate, sym, true, ℕ, List, Option, Some}
use Rattle.std.specs.Prelude.{option_copied}
use Rattle.region_mem.specs.Memory.{Memory, window_of}
use Rattle.vreg_groups.specs.Group.{written}
use Rattle.vector_mem.proofs.Rows.{positive, row_granted, row_loaded}
use Rattle.vector_mem.proofs.windows.load_window.Goals as goal

-- the window that was found is over the n bytes of the body
over_the_body : (memory : Memory) (base size n : ℕ) (found : Option (List ℕ)) (bytes : List ℕ) → size ≡ n → found ≡ window_of base size memory →
    found ≡ Some bytes → window_of base n memory ≡ Some bytes
over_the_body memory base size n found bytes long is some = ap (λ (k : ℕ). window_of base k memory) (sym long) ∙ sym is ∙ some

pub returns-clause-permitted : goal.returns-clause-permitted
returns-clause-permitted g c = λ _.
    let group = c.args.group.now in
    let memory = c.args.memory.now in
    let bytes = c.in-Some.bytes.now in
    let there = over_the_body memory c.args.base _ (group.bytes * group.vl) _ bytes c.body_bytes-size.ensures.size c.window.ensures (ap option_copied c.in-Some.is) in
    row_granted memory group.bytes c.args.base group.vl bytes c.loads_in_windows.ensures.bounds c.loads_in_windows.ensures.loads there
    (positive group.bytes c.requires)

pub returns-clause-loaded : goal.returns-clause-loaded
returns-clause-loaded g c = λ _.
    let group = c.args.group.now in
    let memory = c.args.memory.now in
    let bytes = c.in-Some.bytes.now in
    let there = over_the_body memory c.args.base _ (group.bytes * group.vl) _ bytes c.body_bytes-size.ensures.size c.window.ensures (ap option_copied c.in-Some.is) in
    c.write_bytes.ensures
    ∙ ap (λ (values : List ℕ). written g.row.VLENB group c.args.policy values (replicate group.vl true) c.args.registers.now)
    (sym (row_loaded memory group.bytes c.args.base group.vl bytes c.loads_in_windows.ensures.bounds c.loads_in_windows.ensures.loads there
    c.are_bytes.ensures (positive group.bytes c.requires)))
