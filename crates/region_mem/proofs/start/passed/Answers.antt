-- Place by place.
use Rattle.std.proofs.Common.{rules}
use Rattle.region_mem.proofs.Lists.{map_eight}
use Rattle.region_mem.specs.Start.{passed_of}
use Rattle.region_mem.proofs.start.passed.Goals as goal

pub returns : goal.returns
returns g c =
    map_eight passed_of c.args.args.now.places _ _ _ _ _ _ _ _ _ _ _ _ _ _ _ _ (search rules) c.passed_of.ensures c.passed_of-2.ensures c.passed_of-3.ensures c.passed_of-4.ensures c.passed_of-5.ensures c.passed_of-6.ensures c.passed_of-7.ensures c.passed_of-8.ensures
