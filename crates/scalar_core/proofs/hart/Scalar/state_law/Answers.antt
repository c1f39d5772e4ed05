-- The view's fields are the code's fields, which the invariant and the types bound.
use Rattle.scalar_core.proofs.hart.Scalar.state_law.Goals as goal
use Rattle.std.proofs.Common.{rules}

pub returns : goal.returns
returns c =
    rw (← c.self.view_is) (record {
      pc_fits = search rules;
      registers = c.self.told;
      fit = c.count_of-count.ensures;
      x0 = c.self.invariant.0;
      vxrm_fits = c.self.invariant.1;
      vxsat_fits = c.self.invariant.2;
    })
