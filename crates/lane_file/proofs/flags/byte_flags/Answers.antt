use Rattle.std.proofs.Common.{refl}
use Rattle.lane_file.proofs.Masks.{byte_flags}
use Rattle.lane_file.proofs.flags.byte_flags.Goals as goal

pub returns : goal.returns
returns g c = byte_flags g.row.VLENB c.args.m c.mask_byte-a.result c.mask_byte-b.result c.args.registers.now _ c.mask_byte-a.ensures c.mask_byte-b.ensures refl
