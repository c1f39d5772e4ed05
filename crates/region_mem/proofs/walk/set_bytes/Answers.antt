use Rattle.std.proofs.Common.{◌∙◌, sym}
use Rattle.region_mem.specs.WriteLemmas.{bytes_begin, bytes_more, bytes_end}
use Rattle.region_mem.proofs.walk.set_bytes.Goals as goal

pub loop-i-init : goal.loop-i-init
loop-i-init g c = bytes_begin _ _ _

pub loop-i-preserved : goal.loop-i-preserved
loop-i-preserved g c =
    bytes_more c.args.address c.loop-i.i c.args.bytes.now c.loop-i.regions _ _ c.loop-i-test.true c.set_byte.ensures
    ∙ c.loop-i.invariant

pub returns : goal.returns
returns g c = sym (bytes_end c.args.address c.loop-i.i c.args.bytes.now c.loop-i.regions c.loop-i-test.false) ∙ c.loop-i.invariant
