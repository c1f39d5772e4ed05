use Rattle.std.proofs.Common.{◌≡◌, ◌++◌, take}
use Rattle.std.specs.List.{flat_map}
use Rattle.cert_note.specs.Spelling.{spelled_block}
use Rattle.cert_note.proofs.writing.put_blocks.Given as goal

abbrev pub invariant-loop-block : goal.invariant-loop-block
invariant-loop-block g l = l.out.items ≡ l.initial.out.items ++ flat_map (spelled_block l.version) (take l.block-index l.blocks)
