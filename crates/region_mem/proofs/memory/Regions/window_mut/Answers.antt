use Rattle.std.proofs.Common.{◌≡◌, ◌<◌, Some, List, length, get_or, ap, refl, ◌∙◌}
use Rattle.std.specs.List.{position_or_len}
use Rattle.region_mem.specs.Words.{Write}
use Rattle.region_mem.specs.Areas.{Area, nothing, holds, part_of, window_in}
use Rattle.region_mem.specs.Memory.{Memory, overlaid_window}
use Rattle.region_mem.proofs.LendLemmas.{overlaid_placed, overlaid_is, part_is}
use Rattle.region_mem.proofs.memory.Regions.window_mut.Goals as goal

pub invariant_of-self-lent : goal.invariant_of-self-lent
invariant_of-self-lent g c =
    λ w. overlaid_placed c.from-first.result c.window_place-place.result c.self.inside.regions.items c.index_mut.result.now w c.index_mut.ensures.value c.self.invariant

pub returns : goal.returns
returns g c =
    let items : List Area = c.self.inside.regions.items in
    let memory : Memory = record { areas = items; passed = c.self.inside.passed } in
    let seen = c.as_slice.ensures.value in
    let at : c.from-first.result ≡ c.args.address = c.from-first.ensures in
    let place = c.window_place-place.result in
    let first : place ≡ position_or_len (holds c.from-first.result) items = rw (← seen) c.window_place-place.ensures.place in
    let below : place < length items = rw (← seen) c.window_place-place.ensures.below in
    let part : window_in Write c.from-first.result c.args.n items ≡ Some (part_of c.from-first.result c.args.n (get_or items place nothing)) = rw (← seen) c.window_place-place.ensures.part in
    let is = c.index_mut.ensures.value in
    let value = part_is c.from-first.result c.args.n place items c.index_mut.result.now c.part_mut.result.now below is part c.part_mut.ensures.value in (
      (refl, λ w. rw (← c.self.view_is) (overlaid_is c.from-first.result place memory c.index_mut.result.now w first below is ∙ ap (λ a. overlaid_window a memory w) at)),
      record { lent = tt; value = rw (← c.self.view_is) (value ∙ ap (λ a. window_in Write a c.args.n items) at); len = c.part_mut.ensures.len },
    )
