-- The eight are told one by one.
use Rattle.std.proofs.Common.{rules}
use Rattle.rvvbox_c.proofs.Eights.{eight_mapped}
use Rattle.rvvbox_c.specs.Told.{parameter_of}
use Rattle.rvvbox_c.proofs.facts.all_told.Goals as goal

pub returns : goal.returns
returns c = eight_mapped parameter_of c.args.params _ _ _ _ _ _ _ _ _ (search rules) c.told.ensures c.told-2.ensures c.told-3.ensures
    c.told-4.ensures c.told-5.ensures c.told-6.ensures c.told-7.ensures c.told-8.ensures
