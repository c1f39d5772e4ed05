-- What is refused is refused of the image that the kernel keeps.
use Rattle.std.proofs.Common.{rules, ◌≡◌, Some}
use Rattle.rvvbox_c.specs.Slots.{image_kept}
use Rattle.rvvbox_c.proofs.runs.run_kept.Goals as goal

pub returns-in-Some-clause-refused : goal.returns-in-Some-clause-refused
returns-in-Some-clause-refused c =
    let e : image_kept c.args.kernel.now.kept ≡ Some c.deref-accepted.result.now = search rules in
    rw e c.run_one-ran.ensures.refused
