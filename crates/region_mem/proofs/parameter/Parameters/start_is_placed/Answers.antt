use Rattle.std.proofs.Common.{◌≡◌, true, rules, length}
use Rattle.std.specs.List.{list_all}
use Rattle.region_mem.specs.Parameter.{is_valid}
use Rattle.region_mem.specs.ExtentLemmas.{start_placed}
use Rattle.region_mem.proofs.parameter.Parameters.start_is_placed.Goals as goal

pub returns : goal.returns
returns g c =
    let valid : list_all is_valid c.args.self.now ≡ true = rw (← c.self.view_is) c.self.invariant in
    let args : length c.args.args.now.places ≡ 8 = search rules in
    let inside : length c.self.inside.params ≡ 8 = search rules in
    let params : length c.args.self.now ≡ 8 = rw (← c.self.view_is) inside in
    start_placed c.args.image.now c.args.self.now c.args.args.now.places c.entry-entry.ensures.image valid params args c.requires
