use Rattle.lane_file.proofs.Masks.{low_word_flags, high_word_flags}
use Rattle.lane_file.proofs.flags.word_flags.Goals.{then-m-eq0, else-m-eq0}
use Rattle.lane_file.proofs.flags.word_flags.Goals as goal

pub returns : goal.returns
returns g c =
    elim c.if-m-eq0.branch [
      | then-m-eq0 w ↦ low_word_flags g.row.VLENB c.args.m c.mask_byte-bytes.result c.args.registers.now c.if-m-eq0.result w.if-m-eq0.true c.mask_byte-bytes.ensures w.result-is
      | else-m-eq0 w ↦ high_word_flags g.row.VLENB c.args.m c.mask_byte-bytes.result c.args.registers.now c.if-m-eq0.result w.if-m-eq0.false c.mask_byte-bytes.ensures w.result-is
    ]
