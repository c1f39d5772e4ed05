use Rattle.std.proofs.Common.{◌+◌, ◌++◌, codes}
use Rattle.rv_listing.specs.Pieces.{word_text}
use Rattle.monitor.specs.Texts.{byte_text, texts}
use Rattle.monitor.specs.Views.{byte_at, memory_text}
use Rattle.rv_listing.specs.SinkLemmas.{told_err, told_part, told_then}
use Rattle.monitor.proofs.TextLemmas.{address_first}
use Rattle.monitor.proofs.views.View.put_memory.Goals as goal

pub returns : goal.returns
unfolding memory_text
returns g c =
    rw (← address_first (word_text c.args.self.now.address) (texts (λ i. byte_text (byte_at c.args.self.now.session.now.machine.memory (c.args.self.now.address + i))) c.args.self.now.count ++ codes "\n") 61)
    (told_then c.put_bytes_line.result _ _ _ _ _ _ _ _ c.in_ok-put_all.ensures c.put_bytes_line.ensures)

pub returns-in_err-put_all : goal.returns-in_err-put_all
unfolding memory_text
returns-in_err-put_all g c =
    told_err c.from_residual.result _ _ _ _ _ c.from_residual.ensures.0
    (rw (← address_first (word_text c.args.self.now.address) (texts (λ i. byte_text (byte_at c.args.self.now.session.now.machine.memory (c.args.self.now.address + i))) c.args.self.now.count ++ codes "\n") 61)
    (told_part _ _ _ _ _ _ c.in_err-put_all.ensures))
