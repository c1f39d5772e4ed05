-- What the answer of a test says of the error that it looked for.
use Rattle.std.proofs.Common.{◌≡◌, Option, Some, None, Err}
use Rattle.region_mem.specs.Parameter.{refused_by}

pub refused_by-err : {E : Type 0} (found : Option E) (e : E) → refused_by found ≡ Err e → found ≡ Some e
unfolding refused_by
refused_by-err None e h = cc
refused_by-err (Some x) e h = cc
