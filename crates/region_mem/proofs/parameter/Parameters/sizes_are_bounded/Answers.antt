use Rattle.std.proofs.Common.{◌≡◌, true, rules, ◌≤◌, length, arith}
use Rattle.std.specs.List.{list_all}
use Rattle.region_mem.specs.Parameter.{is_valid}
use Rattle.region_mem.specs.MatchingLemmas.{sizes_of_matching}
use Rattle.region_mem.proofs.parameter.Parameters.sizes_are_bounded.Goals as goal

pub returns : goal.returns
returns g c =
    let v : list_all is_valid c.args.self.now ≡ true = rw (← c.self.view_is) c.self.invariant in
    let eight : length c.args.args.now.places ≡ 8 = search rules in
    let more : length c.self.inside.params ≡ 8 = search rules in
    let n : length c.args.args.now.places ≤ length c.args.self.now = rw (← c.self.view_is) (omega (arith, eight, more)) in
    sizes_of_matching c.args.self.now c.args.args.now.places v n c.requires
