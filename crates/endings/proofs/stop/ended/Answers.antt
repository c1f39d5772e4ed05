-- What was told is the reason's line, and the text of more where there is one.
use Rattle.std.proofs.Common.{[], option_map, string_bytes, unwrap_or}
use Rattle.endings.proofs.EndingLemmas.{more_is, told_on}
use Rattle.endings.proofs.stop.ended.Goals as goal

pub returns-clause-told : goal.returns-clause-told
returns-clause-told g c = (
  unwrap_or (option_map (λ text. string_bytes text) c.more_of-more.result) [],
  more_is (λ text. string_bytes text) c.args.explain c.args.done c.more_of-more.result c.more_of-more.ensures,
  rw (← c.bytes_in.ensures) (told_on _ _ _ _ _ _ c.tell_all-told.ensures),
)
