use Rattle.std.proofs.Common.{◌∙◌, ap, sym, filter, position}
use Rattle.std.specs.Prelude.{◌==◌}
use Rattle.region_mem.proofs.StackOut.{same_buffers}
use Rattle.region_mem.specs.Memory.{is_buffer_area}
use Rattle.region_mem.specs.Words.{STACK}
use Rattle.region_mem.proofs.start.take_stack.Goals as goal

pub returns : goal.returns
returns g c =
    let found = ap (position (λ area. area.first == STACK)) (sym c.as_slice.ensures.value) ∙ (sym c.stack_place.ensures ∙ c.in_ok-place.was) in
    ap (filter is_buffer_area) c.remove.ensures.items ∙ same_buffers c.args.regions.now.items c.in_ok-place.place found
