use Rattle.std.proofs.Common.{refl}
use Rattle.lane_file.proofs.Masks.{half_flags}
use Rattle.lane_file.proofs.flags.half_flags.Goals as goal

pub returns : goal.returns
returns g c = half_flags g.row.VLENB c.args.m c.mask_byte.result c.args.registers.now _ c.mask_byte.ensures refl
