-- Place by place.
use Rattle.std.proofs.Common.{rules}
use Rattle.region_mem.specs.Words.{Passed}
use Rattle.region_mem.proofs.Returned.{args_eight}
use Rattle.region_mem.proofs.start.args_with.Goals as goal

pub returns : goal.returns
returns g c =
    args_eight c.args.passed Passed.None _ _ _ _ _ _ _ _ _ _ _ _ _ _ _ _ (search rules) c.arg_with-a.ensures.value c.arg_with-a.ensures.left c.arg_with-b.ensures.value c.arg_with-b.ensures.left c.arg_with-c.ensures.value c.arg_with-c.ensures.left c.arg_with-d.ensures.value c.arg_with-d.ensures.left c.arg_with-e.ensures.value c.arg_with-e.ensures.left c.arg_with-f.ensures.value c.arg_with-f.ensures.left c.arg_with-g.ensures.value c.arg_with-g.ensures.left c.arg_with-h.ensures.value
