use Rattle.std.proofs.Common.{◌≡◌, [], ◌∷◌, ◌++◌, ap, ◌∙◌, arith, rules}
use Rattle.std.specs.Prelude.{is_ok}
use Rattle.std.proofs.lemmas.Grind.{common_steps}
use Rattle.cert_note.specs.Certificate.{after_block}
use Rattle.cert_note.specs.Reading.{block_at, blocks_behind}
use Rattle.cert_note.proofs.Loop.{begins, reads_one, all_read, next_fails}
use Rattle.cert_note.proofs.reading.blocks_at.Goals as goal

pub loop-number-init : goal.loop-number-init
loop-number-init g c = ([], begins (block_at c.args.front.now.version c.args.front.now.vlen c.args.front.now.parameters) after_block 0 c.args.bytes.now, (search rules), (omega arith))

pub returns-in-Err-clause-refused : goal.returns-in-Err-clause-refused
returns-in-Err-clause-refused g c =
    let one = block_at c.args.front.now.version c.args.front.now.vlen c.args.front.now.parameters in
    let so_far = c.loop-number.invariant in
    record {
      among = c.loop-number-test.true;
      before = ap is_ok (all_read one after_block 0 c.args.bytes.now so_far.0 c.loop-number.number c.loop-number.from c.loop-number.rest.now so_far.1);
      with_it = next_fails one after_block 0 c.args.bytes.now so_far.0 c.loop-number.number c.loop-number.from c.loop-number.rest.now c.in-Err.fault c.in-Err.ensures so_far.1;
    }

pub loop-number-preserved : goal.loop-number-preserved
loop-number-preserved g c =
    let one = block_at c.args.front.now.version c.args.front.now.vlen c.args.front.now.parameters in
    let so_far = c.loop-number.invariant in (
      so_far.0 ++ c.block_at.new.block ∷ [],
      reads_one one after_block 0 c.args.bytes.now so_far.0 c.loop-number.number c.loop-number.from c.loop-number.rest.now c.block_at.new.block c.in-Ok.after.now c.in-Ok.ensures so_far.1,
      (let was = so_far.2 in grind (arith, common_steps)),
      omega (arith, c.loop-number-test.true),
    )

pub returns-clause-read : goal.returns-clause-read
returns-clause-read g c =
    let one = block_at c.args.front.now.version c.args.front.now.vlen c.args.front.now.parameters in
    let so_far = c.loop-number.invariant in
    let all : c.args.front.now.count ≡ c.loop-number.number = omega (arith, c.loop-number-test.false, so_far.3) in (
      so_far.0,
      ap (λ k. blocks_behind c.args.front.now k c.args.bytes.now) all ∙ all_read one after_block 0 c.args.bytes.now so_far.0 c.loop-number.number c.loop-number.from c.loop-number.rest.now so_far.1,
      (let was = so_far.2 in grind (arith, common_steps)),
    )
