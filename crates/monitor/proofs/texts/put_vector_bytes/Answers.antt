use Rattle.std.proofs.Common.{◌++◌, ◌/◌, ◌%◌, codes}
use Rattle.std.specs.Fmt.{decimal}
use Rattle.hex.specs.Hex.{encode_lower}
use Rattle.monitor.specs.Texts.{vector_text}
use Rattle.rv_listing.specs.SinkLemmas.{told_err, told_part, told_then}
use Rattle.monitor.proofs.TextLemmas.{digits_first}
use Rattle.monitor.proofs.texts.put_vector_bytes.Goals as goal

pub returns : goal.returns
unfolding vector_text
returns g c =
    rw (← digits_first (decimal (c.args.number / 10)) (decimal (c.args.number % 10)) (encode_lower c.args.bytes.now ++ codes "\n") 118 61)
    (told_then c.put_bytes_line.result _ _ _ _ _ _ _ _ c.in_ok-put_all.ensures c.put_bytes_line.ensures)

pub returns-in_err-put_all : goal.returns-in_err-put_all
unfolding vector_text
returns-in_err-put_all g c =
    told_err c.from_residual.result _ _ _ _ _ c.from_residual.ensures.0
    (rw (← digits_first (decimal (c.args.number / 10)) (decimal (c.args.number % 10)) (encode_lower c.args.bytes.now ++ codes "\n") 118 61)
    (told_part _ _ _ _ _ _ c.in_err-put_all.ensures))
