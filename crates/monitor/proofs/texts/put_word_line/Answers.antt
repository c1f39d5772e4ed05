use Rattle.std.proofs.Common.{◌++◌, codes}
use Rattle.rv_listing.specs.Listing.{listing_text}
use Rattle.rv_listing.specs.Pieces.{word_text}
use Rattle.monitor.specs.Texts.{line_text}
use Rattle.rv_listing.specs.SinkLemmas.{told_err, told_part, told_then}
use Rattle.monitor.proofs.TextLemmas.{words_first}
use Rattle.monitor.proofs.texts.put_word_line.Goals as goal

pub returns : goal.returns
unfolding line_text
returns g c =
    rw (← words_first (word_text c.args.address) (word_text c.args.word) (listing_text c.args.address c.args.word ++ codes "\n") 32 32)
    (told_then c.put_meaning_line.result _ _ _ _ _ _ _ _ c.in_ok-put_all.ensures c.put_meaning_line.ensures)

pub returns-in_err-put_all : goal.returns-in_err-put_all
unfolding line_text
returns-in_err-put_all g c =
    told_err c.from_residual.result _ _ _ _ _ c.from_residual.ensures.0
    (rw (← words_first (word_text c.args.address) (word_text c.args.word) (listing_text c.args.address c.args.word ++ codes "\n") 32 32)
    (told_part _ _ _ _ _ _ c.in_err-put_all.ensures))
