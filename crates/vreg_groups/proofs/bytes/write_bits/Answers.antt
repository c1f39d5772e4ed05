use Rattle.std.proofs.Common.{arith}
use Rattle.vreg_groups.specs.PlaceLemmas.{replaced_none, mask_written_more}
use Rattle.vreg_groups.proofs.bytes.write_bits.Goals as goal

pub loop-j-init : goal.loop-j-init
loop-j-init c = replaced_none _ _ _ _

pub loop-j-preserved : goal.loop-j-preserved
loop-j-preserved c =
    mask_written_more c.args.at c.loop-j.j c.args.policy c.args.values.now c.args.active.now c.args.bytes.now c.loop-j.bytes
    c.new_mask_byte.result (omega arith) (omega arith) c.new_mask_byte.ensures c.loop-j.invariant
